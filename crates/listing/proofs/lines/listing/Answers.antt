use Rattle.std.proofs.Common.{◌≡◌, ◌-◌, arith}
use Rattle.protocol.specs.Net.{in_channels}
use Rattle.net.specs.View.{view}
use Rattle.text.proofs.Puts.{◌then◌}
use Rattle.listing.specs.Lines.{listing}
use Rattle.listing.proofs.lines.listing.Goals as goal

pub returns : goal.returns
unfolding listing
returns c =
    let t = c.args.t in
    let left : t.sent - t.delivered - t.lost ≡ in_channels (view c.args.net.now) = omega (arith, c.requires) in
    rw (← left) (c.put_counts-next.ensures then rw c.of.ensures at c.group_texts.ensures)
