-- The table of examples.
--     examples-right     every row is right: by computing it
--     examples-shaped    every net that a row starts from is well shaped
use mathlib.Core.Path.{◌≡◌, refl}
use mathlib.Core.Bool.{true}
use Rattle.bits.specs.Masks.{has, with, without, below, within}
use Rattle.bits.specs.Sums.{over}
use Rattle.bits.proofs.Cases.{and_l}
use Rattle.tree.specs.Tree.{agreed, climbs, on_tree}
use Rattle.tree.specs.Reach.{picked, visits, visit, reach}
use Rattle.tree.specs.Flood.{passes_to, flood, spread}
use Rattle.protocol.specs.Net.{upd, upd2, remove_at, set_entry, set_channel, set_route, send, take_at, group?, station?, near?, in_channels}
use Rattle.protocol.specs.Fresh.{fresh}
use Rattle.protocol.specs.Cases.{case_number, case_says, case_of, adopts}
use Rattle.protocol.specs.Entries.{joins, connected, stay_or_leave, hearing, is_of, count_of, under_way}
use Rattle.protocol.specs.Rules.{room?, tick, ask, refresh, answered, heard, case_at, deliver, lose, give_up, drop_child, member, route, rules}
use Rattle.protocol.specs.Steps.{verdict, rule, outcome, step, case_heard}
use Rattle.protocol.specs.Runs.{case_count, count_case, then, after, length_outcome, script_outcome, run}
use Rattle.protocol.specs.Names.{same_name, first_from, find}
use Rattle.protocol.specs.Calls.{tree_of, call_outcome, called, reach_list}
use Rattle.protocol.specs.Shaped.{All, Shaped}
use Rattle.protocol.specs.ExampleNets.{script_of, neighbours_by, plan_by, net, every}
use Rattle.protocol.specs.ExampleNets.{group_fits, differ, cable_fits, plan_fits, entry_fits, message_fits, proper}
use Rattle.protocol.specs.ExampleRows.{Row, right, message_numbers, list_numbers}
use Rattle.protocol.specs.Examples.{crowded, examples}
use Rattle.protocol.proofs.Laws.Maps.{All-map}
use Rattle.protocol.proofs.Examples.Nets.{every-all, proper-shaped}

pub examples-right : right examples ≡ true
unfolding right message_numbers list_numbers examples crowded
    script_of neighbours_by plan_by net every group_fits differ cable_fits plan_fits entry_fits message_fits proper
    has with without below within over
    agreed climbs on_tree picked visits visit reach passes_to flood spread
    upd upd2 remove_at set_entry set_channel set_route send take_at group? station? near? in_channels fresh
    case_number case_says case_of adopts joins connected stay_or_leave hearing is_of count_of under_way
    room? tick ask refresh answered heard case_at deliver lose give_up drop_child member route rules
    verdict rule outcome step case_heard case_count count_case then after length_outcome script_outcome run
    same_name first_from find tree_of call_outcome called reach_list
examples-right = refl

pub examples-shaped : All (λ (r : Row). Shaped (net r.start)) examples
unfolding right
examples-shaped = All-map (λ r t. proper-shaped r.start (and_l _ r.says t)) (every-all _ examples examples-right)
