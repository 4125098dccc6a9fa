use Rattle.std.proofs.Common.{ap, ◌∙◌, rules, bit_or}
use Rattle.bits.proofs.Masks.{one_shl, or-with}
use Rattle.bits.proofs.mask.with.Goals as goal

pub returns : goal.returns
returns c = let a = c.args in ap (bit_or a.m) (one_shl 16 a.j (search rules)) ∙ or-with a.m a.j
