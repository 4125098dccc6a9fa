use Rattle.plan.specs.Planned.{station_cabled}
use Rattle.plan.proofs.cables.station_cabled.Goals as goal

pub returns : goal.returns
unfolding station_cabled
returns c = cc
