use Rattle.std.proofs.Common.{arith}
use Rattle.text.proofs.Adds.{added_put}
use Rattle.text.proofs.Text.put_filled.Goals as goal

pub returns : goal.returns
returns g c = added_put c.put_filled-self-inside.ensures c.self.view_is (omega arith) (omega arith)
