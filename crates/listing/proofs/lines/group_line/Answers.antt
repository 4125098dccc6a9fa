use Rattle.std.proofs.Common.{sym, arith}
use Rattle.text.specs.Text.{text}
use Rattle.text.proofs.Adds.{added_within, ◌then◌}
use Rattle.listing.specs.Lines.{group_line}
use Rattle.listing.proofs.lines.group_line.Goals as goal

pub returns : goal.returns
unfolding group_line text
returns g c =
    let n = c.name_of.ensures in
    let A = c.put_filled_one.ensures then c.put_hex.ensures then c.put_filled_one-2.ensures in
    rw (sym n.0, sym c.root_of-root.ensures.0, sym c.from-2.ensures, sym c.from.ensures) (added_within A (omega (arith, n.1)))
