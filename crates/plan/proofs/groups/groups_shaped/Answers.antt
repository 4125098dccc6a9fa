use Rattle.std.proofs.Common.{ap₂, ◌&&◌, refl, rules}
use Rattle.bits.proofs.Below.{all_is}
use Rattle.layout.specs.Bounded.{table}
use Rattle.plan.specs.Planned.{group_shaped}
use Rattle.plan.proofs.groups.groups_shaped.Goals as goal

pub returns : goal.returns
unfolding table
returns c = let a = c.args in ap₂ ◌&&◌ (all_is _ (group_shaped a.front.now.bytes.now a.n) _ a.g (λ i b f' k. search rules) _ _ refl _ c.all.ensures.ran) c.zeros.ensures
