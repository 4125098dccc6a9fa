use Rattle.std.proofs.Common.{refl, rules}
use Rattle.bits.proofs.Below.{all_is}
use mathlib.Core.Bool.{not}
use Rattle.plan.specs.Planned.{same_names, new_name}
use Rattle.plan.proofs.groups.new_name.Goals as goal

pub returns : goal.returns
unfolding new_name
returns c = let a = c.args in all_is _ (λ b. not (same_names a.front.now.bytes.now a.a b)) _ a.a (λ i b f' k. search rules) _ _ refl _ c.all.ensures.ran
