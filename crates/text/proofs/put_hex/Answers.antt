use Rattle.std.proofs.Common.{arith}
use Rattle.text.specs.Text.{row, hex_byte, hex}
use Rattle.text.proofs.Puts.{within_none, row_more, row-all}
use Rattle.text.proofs.put_hex.Goals as goal

pub loop-b-init : goal.loop-b-init
unfolding row
loop-b-init c = within_none _ _ _

pub loop-b-preserved : goal.loop-b-preserved
unfolding hex_byte
loop-b-preserved c = row_more _ _ c.loop-b.invariant c.put_hex_byte-next.ensures

pub returns : goal.returns
unfolding hex
returns c = row-all _ _ _ (omega arith) (omega arith) c.loop-b.invariant
