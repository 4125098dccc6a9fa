-- A plan, a run and a net worked out byte by byte.
--     worked-shaped     the 112 bytes of the plan are well shaped
--     worked-shows      and show the plan of the examples' line
--     worked-begins     in any buffer of 15,728 bytes a fresh net is made of them: that of the line
--     worked-reachable    so that there are bytes that a bench can come to
--     listing-reachable, listing-shows, listing-tally, listing-calls
--                       the run of the listing on it: it too comes to such bytes; they show the net of which the rows of the listing
--                       tell; the tally in bytes; a call by station 2 with its list in bytes
--     worked-net        the bytes of a net: its front, its routes, two entries and a channel; worked-tells: they answer and leave what
--                       the rules say of it
--     worked-working    its bytes in the working form; worked-converts: a conversion leaves them, into any buffer of 15,728 bytes
use mathlib.Core.Path.{◌≡◌, refl, ap, subst, ◌∙◌}
use mathlib.Core.Bool.{true}
use mathlib.Core.List.{List, [], ◌++◌}
use Prim.Native.Nat.{ℕ}
use lib.ListN.{length, replicate, length-replicate}
use borrow.Author.Tests.{eq-eqb}
use Rattle.bits.specs.Masks.{has, with, without, below, within}
use Rattle.bits.specs.Numbers.{onto, number, bytes}
use Rattle.bits.specs.Parts.{part, number_at}
use Rattle.tree.specs.Tree.{agreed, climbs, on_tree}
use Rattle.tree.specs.Reach.{picked, visits, visit, reach}
use Rattle.tree.specs.Flood.{passes_to, flood, spread}
use Rattle.protocol.specs.Net.{upd, upd2, remove_at, set_entry, set_channel, set_route, send, take_at, group?, station?, near?}
use Rattle.protocol.specs.Fresh.{Plan, plan_of, fresh}
use Rattle.protocol.specs.Cases.{case_number, case_says, case_of, adopts}
use Rattle.protocol.specs.Entries.{joins, connected, stay_or_leave, hearing}
use Rattle.protocol.specs.Names.{same_name}
use Rattle.protocol.specs.Calls.{tree_of, Called, call_outcome, called, reach_list}
use Rattle.protocol.specs.Rules.{room?, tick, ask, answered, heard, case_at, deliver, member, route, rules}
use Rattle.protocol.specs.Steps.{verdict, rule, outcome, step}
use Rattle.protocol.specs.Runs.{case_count, count_case, then, after, length_outcome, script_outcome, run}
use Rattle.protocol.specs.Shaped.{ShapedPlan}
use Rattle.protocol.specs.ExampleNets.{script_of, neighbours_by, plan_by, net, every, group_fits, differ, cable_fits, plan_fits, entry_fits, message_fits, proper}
use Rattle.protocol.specs.Examples.{line, listing_script, listed}
use Rattle.protocol.proofs.Examples.Nets.{proper-shaped}
use Rattle.channel.specs.Slots.{flat, laid}
use Rattle.layout.specs.Layout.{net_length}
use Rattle.layout.specs.declared.form.Mark.TheVariants.{Saved, Working}
use Rattle.bits.specs.Below.{all_below}
use Rattle.layout.specs.Bounded.{all_bytes, zeros, same, table, used}
use Rattle.plan.specs.Planned.{header_shaped, group_shaped, same_names, new_name, names_distinct, both_ways, station_cabled, plan_header, planned, plan_shaped}
use Rattle.forms.specs.Cells.{cells}
use Rattle.forms.specs.Plans.{plan_in, name_bytes, header_bytes, group_cell, mask_cell, plan_bytes}
use Rattle.forms.proofs.Plan.Holds.{HoldsPlan, plan-holds}
use Rattle.forms.proofs.Plan.Back.{plan-back}
use Rattle.net.specs.View.{view}
use Rattle.net.specs.Encode.{entry_bytes, bytes_as, bytes_of}
use Rattle.fresh.specs.Fresh.{fresh_outcome, net_after_fresh}
use Rattle.run.specs.Runs.{run_outcome, net_after_run, tally_after_run}
use Rattle.run.specs.Tallies.{tally_length, replies_bytes, tally_bytes}
use Rattle.visit.specs.Lists.{list_length, list_fits, reach_bytes}
use Rattle.call.specs.Answers.{called_in, list_after_call}
use Rattle.convert.specs.Converts.{convert_outcome, after_convert}
use Rattle.demands.specs.Reachable.{Reachable, begun, ran}
use Rattle.examples.specs.Tells.{Tells}
use Rattle.examples.specs.Worked.{worked_plan, worked_tally, worked_list, worked_net, WorkedNet, WorkedWorking}
use Rattle.examples.proofs.Tells.{bytes-tell, having-after, having-shows}

pub worked-shaped : plan_shaped worked_plan ≡ true
unfolding worked_plan plan_shaped header_shaped group_shaped same_names new_name names_distinct both_ways station_cabled planned all_below all_bytes zeros same table
    number_at number onto part has below
worked-shaped = refl

-- the line and its plan
line-proper : proper line ≡ true
unfolding proper plan_fits every group_fits differ cable_fits
line-proper = refl

abbrev line_plan : Plan
line_plan = plan_of (net line)

line-shaped : ShapedPlan line_plan
line-shaped = (proper-shaped line line-proper).plan

worked-holds : HoldsPlan line_plan plan_header worked_plan
worked-holds = subst (HoldsPlan line_plan plan_header) same_bytes (plan-holds line_plan plan_header [])
  where
    same_bytes : plan_bytes line_plan plan_header ++ [] ≡ worked_plan
    same_bytes = unfold worked_plan plan_bytes header_bytes cells group_cell mask_cell name_bytes bytes part net plan_by fresh neighbours_by with has in refl

pub worked-shows : plan_in worked_plan ≡ line_plan
worked-shows = plan-back line_plan line-shaped plan_header worked_plan worked-holds

-- ---- the listing: what the rules come to, by computing
listing-computed : (proper listed ≡ true) × (script_outcome (script_of listing_script) ≡ 0)
    × (tally_bytes (run (net line) (script_of listing_script)).tally ≡ worked_tally)
    × (called (net listed) 0 2 true ≡ record { outcome = 0; reached = 3; copies = 2 }) × (reach_bytes (reach_list (net listed) 0) ≡ worked_list)
unfolding proper plan_fits every group_fits differ cable_fits net plan_by fresh neighbours_by script_of has with without
    upd upd2 remove_at set_entry set_channel set_route send take_at group? station? near? case_number case_says case_of adopts joins connected
    stay_or_leave hearing room? tick ask answered heard case_at deliver member route rules verdict rule outcome step case_count count_case then after
    length_outcome script_outcome run agreed climbs on_tree picked visits visit reach passes_to flood spread tree_of call_outcome called reach_list
    reach_bytes replies_bytes tally_bytes bytes
listing-computed = (refl, refl, refl, refl, refl)

module _ (buffer : List ℕ) (long : length buffer ≡ net_length) where
  pub worked-begins : (fresh_outcome worked_plan buffer ≡ 0) × (net_after_fresh worked_plan buffer ≡ bytes_of (net line))
  unfolding fresh_outcome net_after_fresh net fresh
  worked-begins =
      let o : fresh_outcome worked_plan buffer ≡ 0 = rw (eq-eqb _ _ long, worked-shaped) refl in
      (o, rw o (ap (λ (P : Plan). bytes_of (fresh P)) worked-shows))

  abbrev begins : List ℕ
  begins = net_after_fresh worked_plan buffer

  abbrev ends : List ℕ
  ends = net_after_run begins (script_of listing_script) true

  pub listing-reachable : Reachable Saved ends
  listing-reachable = ran (begun worked_plan buffer worked-begins.0) (script_of listing_script) true

  pub listing-accepted : run_outcome begins (script_of listing_script) true ≡ 0
  listing-accepted =
      let T = bytes-tell (net line) (proper-shaped line line-proper) in
      ap (λ (l : List ℕ). run_outcome l (script_of listing_script) true) worked-begins.1 ∙ T.script (script_of listing_script) true ∙ listing-computed.1

  pub listing-shows : view ends ≡ net listed
  listing-shows =
      ap (λ (l : List ℕ). view (net_after_run l (script_of listing_script) true)) worked-begins.1 ∙ having-shows line line-proper listing_script

  pub listing-tally : (t : List ℕ) → length t ≡ tally_length → tally_after_run begins (script_of listing_script) t ≡ worked_tally
  listing-tally t h =
      let T = bytes-tell (net line) (proper-shaped line line-proper) in
      ap (λ (l : List ℕ). tally_after_run l (script_of listing_script) t) worked-begins.1
      ∙ T.counts (script_of listing_script) t h listing-computed.1 ∙ listing-computed.2

  pub listing-calls : (out : List ℕ) → length out ≡ list_length
      → (called_in ends 0 2 true ≡ record { outcome = 0; reached = 3; copies = 2 }) × (list_after_call ends 0 2 out ≡ worked_list)
  listing-calls out h =
      let e : ends ≡ bytes_of (net listed) =
      ap (λ (l : List ℕ). net_after_run l (script_of listing_script) true) worked-begins.1 ∙ having-after line line-proper listing_script in
      let T = bytes-tell (net listed) (proper-shaped listed listing-computed.0) in
      let o : (called (net listed) 0 2 (list_fits out)).outcome ≡ 0 = rw h (ap (λ (a : Called). a.outcome) listing-computed.3) in
      rw e (T.called 0 2 true ∙ listing-computed.3, T.list 0 2 out o ∙ listing-computed.4)

pub worked-reachable : Reachable Saved (net_after_fresh worked_plan (replicate net_length 0))
worked-reachable = begun worked_plan _ (worked-begins _ (length-replicate {A = ℕ} net_length 0)).0

-- ---- the net
pub worked-net : WorkedNet (bytes_of (net worked_net))
unfolding net plan_by fresh neighbours_by script_of has with upd upd2 set_entry set_channel set_route send group? station? near?
    route rules verdict rule outcome step then after length_outcome script_outcome run
    bytes_as plan_bytes header_bytes cells group_cell mask_cell used name_bytes entry_bytes laid flat bytes part
worked-net = record {
  header = refl;
  groups = refl;
  masks = refl;
  routes = refl;
  entry10 = refl;
  entry21 = refl;
  channel01 = refl;
}

pub worked-working : WorkedWorking (bytes_as Working (net worked_net))
unfolding net plan_by fresh neighbours_by script_of has with upd upd2 set_entry set_channel set_route send group? station? near?
    route rules verdict rule outcome step then after length_outcome script_outcome run
    bytes_as plan_bytes header_bytes cells group_cell mask_cell used name_bytes entry_bytes laid flat bytes part
worked-working = record {
  header = refl;
  routes = refl;
  station0 = refl;
  station1 = refl;
  station2 = refl;
  channel01 = refl;
}

pub worked-tells : Tells (bytes_of (net worked_net)) (net worked_net)
worked-tells = bytes-tell (net worked_net) (proper-shaped worked_net is-proper)
  where
    is-proper : proper worked_net ≡ true
    is-proper = unfold proper plan_fits every group_fits differ cable_fits entry_fits message_fits below within same_name
        net plan_by fresh neighbours_by script_of has with upd upd2 set_entry set_channel set_route send group? station? near?
        route rules verdict rule outcome step then after length_outcome script_outcome run in refl

pub worked-converts : (out : List ℕ) → length out ≡ net_length
    → (convert_outcome Saved (bytes_of (net worked_net)) out ≡ 0) × (after_convert Saved Working (bytes_of (net worked_net)) out ≡ bytes_as Working (net worked_net))
unfolding convert_outcome after_convert
worked-converts out h =
    let s = worked-tells.shape in
    (rw (s, eq-eqb _ _ h) refl, rw (s, eq-eqb _ _ h) (ap (bytes_as Working) worked-tells.shows))
