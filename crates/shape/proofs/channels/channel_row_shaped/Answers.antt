use Rattle.std.proofs.Common.{ap₂, ◌&&◌, refl, rules}
use Rattle.bits.proofs.Below.{fold_is}
use Rattle.layout.specs.Bounded.{table}
use Rattle.layout.specs.Layout.{neighbours, channel_at}
use Rattle.shape.specs.Shape.{channel_shaped}
use Rattle.shape.proofs.channels.channel_row_shaped.Goals as goal

pub returns : goal.returns
unfolding table
returns c = let a = c.args in ap₂ ◌&&◌ (fold_is _ (λ d. channel_shaped (neighbours a.s.now a.p) a.g d a.s.now (channel_at a.p d)) _ a.n (λ ok i b f' k. search rules) _ refl _ c.fold.ensures.ran) (c.zeros.ensures)
