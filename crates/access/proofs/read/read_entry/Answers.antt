use Rattle.net.proofs.Records.{fields}
use Rattle.access.proofs.read.read_entry.Goals as goal

pub returns : goal.returns
returns c = cc (fields c.args.s.now c.args.at, c.get.ensures, c.get-2.ensures, c.get-3.ensures)
