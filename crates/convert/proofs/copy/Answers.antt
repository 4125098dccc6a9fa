use Rattle.std.proofs.Common.{sym, ◌∙◌, refl, arith, length-set}
use Rattle.std.proofs.lemmas.List.{take_all, take_more, take_more_set}
use Rattle.convert.proofs.copy.Goals as goal

pub loop-i-init : goal.loop-i-init
loop-i-init c = (refl, omega arith)

pub loop-i-preserved : goal.loop-i-preserved
loop-i-preserved c =
    let l = c.loop-i in
    let net = c.args.net.now in
    (rw (take_more_set l.out l.i _ (omega arith), l.invariant.0, take_more net l.i 0 (omega arith)) refl, length-set l.out l.i _ ∙ l.invariant.1)

pub returns : goal.returns
returns c =
    let l = c.loop-i in
    sym (take_all l.i l.out (omega (arith, l.invariant.1))) ∙ l.invariant.0 ∙ take_all l.i c.args.net.now (omega arith)
