use Rattle.std.proofs.Common.{ap₂, ◌&&◌, refl, rules}
use Rattle.bits.proofs.Below.{all_is}
use Rattle.layout.specs.Bounded.{table}
use Rattle.shape.specs.Shape.{route_row_shaped, routes_shaped}
use Rattle.shape.proofs.routes.routes_shaped.Goals as goal

pub returns : goal.returns
unfolding routes_shaped table
returns c = let a = c.args in ap₂ ◌&&◌ (all_is _ (route_row_shaped a.s.now a.n) _ a.n (λ i b f' k. search rules) _ _ refl _ c.all.ensures.ran) (c.zeros.ensures)
