use Rattle.std.proofs.Common.{arith}
use Rattle.text.specs.Text.{row}
use Rattle.text.proofs.Puts.{◌then◌, within_none, row_more, row-all}
use Rattle.listing.specs.Lines.{group_text}
use Rattle.listing.proofs.lines.group_texts.Goals as goal

pub loop-g-init : goal.loop-g-init
unfolding row
loop-g-init c = within_none _ _ _

pub loop-g-preserved : goal.loop-g-preserved
unfolding group_text
loop-g-preserved c = row_more _ _ c.loop-g.invariant (c.put_group-next.ensures then c.station_lines-next.ensures)

pub returns : goal.returns
returns c = row-all _ _ _ (omega arith) (omega (arith, c.args.net.now.is_net)) c.loop-g.invariant
