use Rattle.std.proofs.Common.{arith}
use Rattle.text.proofs.Adds.{added_put}
use Rattle.text.proofs.Text.put_filled_one.Goals as goal

pub returns : goal.returns
returns g c = added_put c.put_filled_one-self-inside.ensures c.self.view_is (omega arith) (omega arith)
