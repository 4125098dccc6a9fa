use Rattle.std.proofs.Common.{◌*◌, get_or}
use Rattle.text.specs.Text.{each, hex_byte}
use Rattle.text.specs.Inner.Within.{WroteWithin}
use Rattle.text.proofs.put_hex.Given as goal

abbrev pub invariant-loop-b : goal.invariant-loop-b
invariant-loop-b l = WroteWithin (2 * l.b-index) l.initial.out l.out l.at l.next (each l.b-index (λ k. hex_byte (get_or l.s k 0)))
