use Rattle.std.proofs.Common.{sym, ◌∙◌, arith}
use borrow.Author.Tests.{le-ltb}
use Rattle.bits.proofs.Masks.{has-beyond}
use Rattle.bits.proofs.mask.has.Goals as goal

pub returns-else-j-lt16 : goal.returns-else-j-lt16
returns-else-j-lt16 c = le-ltb _ _ c.if-j-lt16.false ∙ sym (has-beyond c.args.m 16 c.args.j (omega arith) c.if-j-lt16.false)
