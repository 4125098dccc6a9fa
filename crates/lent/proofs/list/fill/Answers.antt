use Rattle.std.proofs.Common.{ℕ, ◌*◌, take, refl, sym, ap, ◌∙◌, arith}
use Rattle.std.proofs.lemmas.List.{take_all}
use Rattle.visit.specs.Lists.{reach_bytes}
use Rattle.lent.proofs.Records.{one_more}
use Rattle.lent.proofs.list.fill.Goals as goal

pub loop-i-init : goal.loop-i-init
unfolding reach_bytes
loop-i-init c = refl

pub loop-i-preserved : goal.loop-i-preserved
loop-i-preserved c = one_more c.loop-i.list c.args.bytes.now c.loop-i.i (omega arith) (omega arith) c.loop-i.invariant

pub returns : goal.returns
returns c =
    let i = c.loop-i.i in
    ap reach_bytes (sym (take_all i c.loop-i.list (omega arith))) ∙ c.loop-i.invariant ∙ ap (λ (k : ℕ). take (3 * k) c.args.bytes.now) (omega arith)
