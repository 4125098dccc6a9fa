-- The falling number is 18 for each step of the allowance, and for a list of children one more for each child that may be left, and one.
use Rattle.std.proofs.Common.{◌+◌, ◌-◌, ◌*◌}
use Rattle.visit.proofs.+visit_children_visit_station.Given as goal

abbrev pub decreases-visit_children : goal.decreases-visit_children
decreases-visit_children l = l.allowance * 18 + (17 - l.j)

abbrev pub decreases-visit_station : goal.decreases-visit_station
decreases-visit_station l = l.allowance * 18
