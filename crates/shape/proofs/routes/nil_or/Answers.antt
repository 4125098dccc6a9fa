use Rattle.shape.specs.Shape.{nil_or}
use Rattle.shape.proofs.routes.nil_or.Goals as goal

pub returns : goal.returns
unfolding nil_or
returns c = cc
