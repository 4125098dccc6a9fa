use Rattle.std.proofs.Common.{ap₂, ◌&&◌, refl, rules}
use Rattle.bits.proofs.Below.{all_is}
use Rattle.layout.specs.Bounded.{table}
use Rattle.plan.specs.Planned.{station_cabled}
use Rattle.plan.proofs.cables.cables_shaped.Goals as goal

pub returns : goal.returns
unfolding table
returns c = let a = c.args in ap₂ ◌&&◌ (all_is _ (station_cabled a.front.now.bytes.now a.n) _ a.n (λ i b f' k. search rules) _ _ refl _ c.all.ensures.ran) c.zeros.ensures
