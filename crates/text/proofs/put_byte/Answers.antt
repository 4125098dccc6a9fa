use Rattle.std.proofs.Common.{refl, arith}
use Rattle.bits.specs.Parts.{splice}
use Rattle.text.proofs.Puts.{within_of}
use Rattle.text.proofs.put_byte.Goals as goal

pub returns : goal.returns
unfolding splice
returns c = within_of (record { next = refl; bytes = refl }) (omega arith)
