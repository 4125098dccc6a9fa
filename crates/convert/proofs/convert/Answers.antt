use Rattle.std.proofs.Common.{refl, sym, ◌∙◌}
use borrow.Author.Tests.{eq-eqb, ne_eqb}
use Rattle.shape.proofs.Nets.{long}
use Rattle.convert.specs.Converts.{convert_outcome, after_convert}
use Rattle.convert.proofs.Carried.{carried-is}
use Rattle.convert.proofs.convert.Goals as goal

pub returns-then-not-shaped_as : goal.returns-then-not-shaped_as
unfolding convert_outcome after_convert
returns-then-not-shaped_as c = rw (sym c.shaped_as.ensures ∙ c.if-not-shaped_as.true) (refl, refl)

pub returns-in_default : goal.returns-in_default
unfolding convert_outcome after_convert
returns-in_default c = rw (sym c.shaped_as.ensures ∙ c.if-not-shaped_as.false, ne_eqb _ _ c.in_default.ensures.cases) (refl, refl)

pub carry-requires : goal.carry-requires
carry-requires c = long _ _ (sym c.shaped_as.ensures ∙ c.if-not-shaped_as.false)

pub returns : goal.returns
unfolding convert_outcome after_convert
returns c =
    let s = sym c.shaped_as.ensures ∙ c.if-not-shaped_as.false in
    rw (s, eq-eqb _ _ c.in-Some.ensures.cases.long) (refl, c.carry.ensures ∙ carried-is _ _ _ s)
