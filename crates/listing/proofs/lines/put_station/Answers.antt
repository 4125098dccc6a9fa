use Rattle.listing.proofs.Texts.{line_put}
use Rattle.listing.proofs.lines.put_station.Goals as goal

pub returns : goal.returns
returns c = line_put c.new-text.ensures c.station_line.ensures c.put_text.ensures
