use Rattle.std.proofs.Common.{take}
use Rattle.bits.specs.Parts.{Wrote}
use Rattle.text.proofs.put_number.Given as goal

abbrev pub invariant-loop-b : goal.invariant-loop-b
invariant-loop-b l = Wrote l.initial.out l.out l.at l.next (take l.b-index l.b-items)
