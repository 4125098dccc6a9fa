use Rattle.std.proofs.Common.{ap₂, ◌&&◌, refl, rules}
use Rattle.bits.proofs.Below.{all_is}
use Rattle.layout.specs.Bounded.{table}
use Rattle.shape.specs.Shape.{channel_row_shaped, channels_shaped}
use Rattle.shape.proofs.channels.channels_shaped.Goals as goal

pub returns : goal.returns
unfolding channels_shaped table
returns c = let a = c.args in ap₂ ◌&&◌ (all_is _ (channel_row_shaped a.s.now a.n a.g) _ a.n (λ i b f' k. search rules) _ _ refl _ c.all.ensures.ran) (c.zeros.ensures)
