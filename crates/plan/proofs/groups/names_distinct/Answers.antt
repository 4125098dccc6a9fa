use Rattle.std.proofs.Common.{refl, rules}
use Rattle.bits.proofs.Below.{all_is}
use Rattle.plan.specs.Planned.{new_name, names_distinct}
use Rattle.plan.proofs.groups.names_distinct.Goals as goal

pub returns : goal.returns
unfolding names_distinct
returns c = let a = c.args in all_is _ (new_name a.front.now.bytes.now) _ a.g (λ i b f' k. search rules) _ _ refl _ c.all.ensures.ran
