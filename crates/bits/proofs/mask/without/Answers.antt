use Rattle.std.proofs.Common.{ℕ, ◌-◌, ap, ◌∙◌, arith, rules, bit_and}
use Rattle.bits.proofs.Masks.{one_shl, and-without}
use Rattle.bits.proofs.mask.without.Goals as goal

pub returns : goal.returns
returns c = let a = c.args in ap (λ (x : ℕ). bit_and a.m (65535 - x)) (one_shl 16 a.j (search rules)) ∙ and-without 16 a.m a.j (search rules) (omega arith)
