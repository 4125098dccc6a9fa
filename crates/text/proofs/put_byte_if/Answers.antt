use Rattle.text.proofs.Puts.{within_none}
use Rattle.text.proofs.put_byte_if.Goals as goal

pub returns-then-so : goal.returns-then-so
returns-then-so c = rw c.if-so.true c.put_byte.ensures

pub returns-else-so : goal.returns-else-so
returns-else-so c = rw c.if-so.false (within_none _ _ _)
