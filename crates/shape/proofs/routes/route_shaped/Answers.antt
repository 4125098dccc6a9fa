use Rattle.shape.specs.Shape.{route_shaped}
use Rattle.shape.proofs.routes.route_shaped.Goals as goal

pub returns : goal.returns
unfolding route_shaped
returns c = cc
