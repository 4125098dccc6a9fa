use Rattle.plan.specs.Planned.{header_shaped}
use Rattle.plan.proofs.groups.header_shaped.Goals as goal

pub returns : goal.returns
unfolding header_shaped
returns c = cc
