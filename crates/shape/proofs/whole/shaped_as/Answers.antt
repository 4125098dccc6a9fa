use Rattle.std.proofs.Common.{ap, ◌∙◌, rules}
use borrow.Author.Tests.{ne_eqb}
use Rattle.shape.specs.Shape.{laid_out, shaped_as}
use Rattle.shape.proofs.Nets.{net-is}
use Rattle.shape.proofs.whole.shaped_as.Goals as goal

pub returns-in-Some : goal.returns-in-Some
returns-in-Some c =
    let whole = c.in-Some.ensures.cases in
    net-is c.args.m c.args.s.now _ whole.long (λ i. search rules) (c.laid_out.ensures ∙ ap (laid_out c.args.m) whole.same)

pub returns-in-None : goal.returns-in-None
unfolding shaped_as
returns-in-None c = simp (ne_eqb _ _ c.in-None.ensures.cases)
