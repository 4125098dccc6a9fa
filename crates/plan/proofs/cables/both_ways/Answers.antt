use Rattle.plan.specs.Planned.{both_ways}
use Rattle.plan.proofs.cables.both_ways.Goals as goal

pub returns : goal.returns
unfolding both_ways
returns c = cc
