use Rattle.std.proofs.Common.{sym}
use Rattle.text.specs.Text.{text}
use Rattle.text.proofs.Adds.{◌then◌}
use Rattle.listing.specs.Lines.{station_line}
use Rattle.listing.proofs.lines.station_line.Goals as goal

pub returns : goal.returns
unfolding station_line text
returns g c = rw (sym c.entry-e.ensures, sym c.from.ensures, sym c.from-2.ensures, sym c.from-3.ensures) (c.put_filled.ensures then c.put_mask_or_dash.ensures then c.push.ensures)
