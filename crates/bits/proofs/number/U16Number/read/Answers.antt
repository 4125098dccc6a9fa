use Rattle.std.proofs.Common.{arith}
use native.Mathlib.Numerals.{towards_suc}
use Rattle.bits.specs.Numbers.{number, onto}
use Rattle.bits.specs.Parts.{number_at, part}
use Rattle.bits.proofs.number.U16Number.read.Goals as goal

pub returns : goal.returns
unfolding number_at number onto part
returns c = let e = simp towards_suc at c.from_be_bytes.ensures in omega arith
