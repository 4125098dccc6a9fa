use Rattle.shape.specs.Shape.{parents_shaped}
use Rattle.shape.proofs.station_entries.parents_shaped.Goals as goal

pub returns : goal.returns
unfolding parents_shaped
returns c = cc
