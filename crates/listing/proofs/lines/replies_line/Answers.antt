use Rattle.protocol.specs.Runs.{case_count}
use Rattle.text.specs.Text.{text}
use Rattle.listing.specs.Lines.{replies_line}
use Rattle.listing.proofs.lines.replies_line.Goals as goal

pub returns : goal.returns
unfolding replies_line case_count text
returns g c = c.put_filled.ensures
