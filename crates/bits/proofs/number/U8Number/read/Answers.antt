use Rattle.std.proofs.Common.{arith}
use Rattle.bits.specs.Numbers.{number, onto}
use Rattle.bits.specs.Parts.{number_at, part}
use Rattle.bits.proofs.number.U8Number.read.Goals as goal

pub returns : goal.returns
unfolding number_at number onto part
returns c = omega arith
