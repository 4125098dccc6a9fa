use Rattle.std.proofs.Common.{◌*◌}
use Rattle.access.specs.Inner.Seen.{net_of}
use Rattle.text.specs.Text.{each}
use Rattle.text.specs.Inner.Within.{WroteWithin}
use Rattle.listing.specs.Lines.{station_line}
use Rattle.listing.proofs.lines.station_lines.Given as goal

abbrev pub invariant-loop-p : goal.invariant-loop-p
invariant-loop-p l = WroteWithin (251 * l.p) l.initial.out l.out l.at l.next (each l.p (station_line (net_of l.net) l.g))
