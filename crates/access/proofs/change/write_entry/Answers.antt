use Rattle.net.proofs.Records.{stores}
use Rattle.access.proofs.change.write_entry.Goals as goal

pub returns : goal.returns
returns c = cc (stores c.args.stretch.now c.args.at c.args.e, c.put.ensures, c.put-2.ensures, c.put-3.ensures)
