use Rattle.text.specs.Text.{text}
use Rattle.listing.specs.Lines.{run_line}
use Rattle.listing.proofs.lines.run_line.Goals as goal

pub returns : goal.returns
unfolding run_line text
returns g c = c.put_filled.ensures
