use Rattle.std.proofs.Common.{◌*◌}
use Rattle.access.specs.Inner.Seen.{net_of}
use Rattle.text.specs.Text.{each}
use Rattle.text.specs.Inner.Within.{WroteWithin}
use Rattle.listing.specs.Lines.{group_text}
use Rattle.listing.proofs.lines.group_texts.Given as goal

abbrev pub invariant-loop-g : goal.invariant-loop-g
invariant-loop-g l = WroteWithin (4087 * l.g) l.initial.out l.out l.at l.next (each l.g (group_text (net_of l.net)))
