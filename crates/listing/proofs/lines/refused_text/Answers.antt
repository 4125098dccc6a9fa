use Rattle.std.proofs.Common.{sym}
use Rattle.text.specs.Text.{text}
use Rattle.listing.specs.Lines.{refused_text}
use Rattle.listing.proofs.lines.refused_text.Goals as goal

pub returns : goal.returns
unfolding refused_text text
returns c = rw (sym c.from.ensures) c.put_filled_one.ensures
