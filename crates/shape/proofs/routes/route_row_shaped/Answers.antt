use Rattle.std.proofs.Common.{ap₂, ◌&&◌, refl, rules}
use Rattle.bits.proofs.Below.{fold_is}
use Rattle.layout.specs.Bounded.{table}
use native.Mathlib.Nat.{one-mul}
use Rattle.layout.specs.Layout.{neighbours, route_at}
use Rattle.shape.specs.Shape.{route_shaped}
use Rattle.shape.proofs.routes.route_row_shaped.Goals as goal

pub returns : goal.returns
unfolding table
returns c = let a = c.args in ap₂ ◌&&◌ (fold_is _ (λ d. route_shaped (neighbours a.s.now a.p) a.p d a.s.now (route_at a.p d)) _ a.n (λ ok i b f' k. search rules) _ refl _ c.fold.ensures.ran) (simp one-mul c.zeros.ensures)
