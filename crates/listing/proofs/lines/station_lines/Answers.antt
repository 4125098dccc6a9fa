use Rattle.std.proofs.Common.{arith}
use Rattle.text.specs.Text.{row}
use Rattle.text.proofs.Puts.{within_none, row_more, row-all}
use Rattle.listing.proofs.lines.station_lines.Goals as goal

pub loop-p-init : goal.loop-p-init
unfolding row
loop-p-init c = within_none _ _ _

pub loop-p-preserved : goal.loop-p-preserved
loop-p-preserved c = row_more _ _ c.loop-p.invariant c.put_station-next.ensures

pub returns : goal.returns
returns c = row-all _ _ _ (omega arith) (omega (arith, c.args.net.now.is_net)) c.loop-p.invariant
