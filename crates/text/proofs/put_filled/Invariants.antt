use Rattle.text.proofs.Patterns.{Filling}
use Rattle.text.proofs.put_filled.Given as goal

abbrev pub invariant-loop-b : goal.invariant-loop-b
invariant-loop-b l = Filling l.pattern l.numbers l.initial.out l.at l.out l.next l.b-index l.left
