use Rattle.std.proofs.Math.Numerals.{add-one, add-two}
use Rattle.bits.specs.Parts.{splice}
use Rattle.visit.proofs.put_reach.Goals as goal

pub returns : goal.returns
unfolding splice
returns c = rw (add-one, add-two)
