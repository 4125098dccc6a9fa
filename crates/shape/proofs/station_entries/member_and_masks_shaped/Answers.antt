use Rattle.shape.specs.Shape.{member_and_masks_shaped}
use Rattle.shape.proofs.station_entries.member_and_masks_shaped.Goals as goal

pub returns : goal.returns
unfolding member_and_masks_shaped
returns c = cc
