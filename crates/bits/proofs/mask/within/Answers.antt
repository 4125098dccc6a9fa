use Rattle.std.proofs.Common.{arith}
use Rattle.bits.proofs.Masks.{and-within}
use Rattle.bits.proofs.mask.within.Goals as goal

pub returns : goal.returns
returns c = and-within 16 c.args.a c.args.b (omega arith)
