use Rattle.text.proofs.Adds.{◌then◌}
use Rattle.listing.proofs.Texts.{line_put}
use Rattle.listing.proofs.lines.put_counts.Goals as goal

pub returns : goal.returns
returns c = line_put c.new-text.ensures (c.run_line.ensures then c.replies_line.ensures) c.put_text.ensures
