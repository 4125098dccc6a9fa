use Rattle.std.proofs.Common.{arith}
use Rattle.text.proofs.Adds.{added_put}
use Rattle.text.proofs.Text.push.Goals as goal

pub returns : goal.returns
returns g c = added_put c.put_byte-self-inside.ensures c.self.view_is (omega arith) (omega arith)
