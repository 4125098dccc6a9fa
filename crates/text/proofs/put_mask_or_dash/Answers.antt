use Rattle.std.proofs.Common.{arith}
use Rattle.text.specs.Text.{row}
use Rattle.text.proofs.Puts.{within_none, row_more, row-all, dash-after}
use Rattle.text.proofs.put_mask_or_dash.Goals as goal

pub loop-p-init : goal.loop-p-init
unfolding row
loop-p-init c = within_none _ _ _

pub loop-p-preserved : goal.loop-p-preserved
loop-p-preserved c = row_more _ _ c.loop-p.invariant c.put_mask_item-next.ensures

pub returns : goal.returns
returns c = dash-after {k = 176} (row-all _ _ _ (omega arith) (omega arith) c.loop-p.invariant) c.put_byte_if.ensures
