use Rattle.plan.specs.Planned.{same_names}
use Rattle.plan.proofs.groups.same_names.Goals as goal

pub returns : goal.returns
unfolding same_names
returns c = cc
