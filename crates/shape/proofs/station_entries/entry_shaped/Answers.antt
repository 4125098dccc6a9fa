use Rattle.shape.specs.Shape.{entry_shaped}
use Rattle.shape.proofs.station_entries.entry_shaped.Goals as goal

pub returns : goal.returns
unfolding entry_shaped
returns c = cc
