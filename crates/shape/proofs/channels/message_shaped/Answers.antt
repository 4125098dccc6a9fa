use Rattle.shape.specs.Shape.{message_shaped}
use Rattle.shape.proofs.channels.message_shaped.Goals as goal

pub returns : goal.returns
unfolding message_shaped
returns c = cc
