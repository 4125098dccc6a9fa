use Rattle.std.proofs.Common.{◌*◌}
use Rattle.text.specs.Text.{row, mask_item}
use Rattle.text.specs.Inner.Within.{WroteWithin}
use Rattle.text.proofs.put_mask_or_dash.Given as goal

abbrev pub invariant-loop-p : goal.invariant-loop-p
invariant-loop-p l = WroteWithin (11 * l.p) l.initial.out l.out l.at l.next (row l.p (mask_item l.m))
