use Rattle.std.proofs.Common.{sym, ◌∙◌, arith}
use Rattle.text.proofs.Patterns.{filling-none, filling-number, filling-byte, filling-all}
use Rattle.text.proofs.put_filled.Goals as goal
use Rattle.text.proofs.put_filled.Goals.{in-Some, in_default, in_default-via-in-Some+else-is_gap, in_default-via-in_default}

pub loop-b-init : goal.loop-b-init
loop-b-init c = filling-none _ _ _ _

pub loop-b-preserved : goal.loop-b-preserved
loop-b-preserved c =
    let F = c.loop-b.invariant in
    let h = c.loop-b-test.true in
    elim c.match-split_first.branch [
      | in-Some w ↦
          rw (w.out-is, w.next-is, w.left-is)
          (filling-number _ _ _ _ h F w.in-Some.ensures.cases.0 (sym w.is_gap.ensures ∙ w.if-is_gap.true) w.put_in_gap-next.ensures)
      | in_default w ↦
          rw (w.out-is, w.next-is, w.left-is)
          (filling-byte _ _ _ _ h F
          (λ some. elim w.in_default.branch [
            | in_default-via-in-Some+else-is_gap v ↦ sym v.is_gap.ensures ∙ v.if-is_gap.false
            | in_default-via-in_default v ↦ absurd (omega (arith, v.in_default.ensures.cases))
          ])
          w.put_byte-next.ensures)
    ]

pub returns : goal.returns
returns c = filling-all _ _ _ _ (omega arith) c.loop-b.invariant
