use Rattle.std.proofs.Common.{refl, ap, ◌∙◌, List, ℕ}
use Rattle.std.proofs.lemmas.Result.{err_from_is_err_and}
use Rattle.protocol.specs.Names.{find}
use Rattle.net.specs.View.{view}
use Rattle.find.specs.Answers.{found_in}
use Rattle.find.proofs.find.Goals as goal

pub returns-in_err-net : goal.returns-in_err-net
unfolding found_in
returns-in_err-net c =
    let p = err_from_is_err_and c.from_residual.result c.from_residual.ensures.1 in
    let k = c.in_err-net.ensures.err in
    rw (p.1, p.2, k.0, k.1) refl

pub returns : goal.returns
unfolding found_in
returns c =
    let n = c.in_ok-net.ensures.ok in
    rw (n.2) (c.find_in.ensures ∙ ap (λ (l : List ℕ). find (view l) c.args.name.now) n.0)
