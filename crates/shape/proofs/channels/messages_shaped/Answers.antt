use Rattle.std.proofs.Common.{ap, ◌∙◌, arith, ap₂, ◌&&◌, refl, rules}
use Rattle.bits.proofs.Below.{all_is}
use Rattle.layout.specs.Bounded.{zeros, table}
use Rattle.layout.specs.Layout.{message_at}
use Rattle.shape.specs.Shape.{message_shaped}
use Rattle.shape.proofs.channels.messages_shaped.Goals as goal

pub returns : goal.returns
unfolding table
returns c = let a = c.args in ap₂ ◌&&◌ (all_is _ (λ i. message_shaped a.g a.s.now (message_at a.at i)) _ a.m (λ i b f' k. search rules) _ _ refl _ c.all.ensures.ran) (c.zeros.ensures ∙ ap (zeros _ _) (omega arith))
