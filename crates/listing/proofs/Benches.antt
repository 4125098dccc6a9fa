-- The bench program over the bytes that it stores: what they are refused with, and the run of the fresh net.
use mathlib.Core.Path.{◌≡◌, refl, sym, ap, ◌∙◌, subst}
use mathlib.Core.Bool.{true, false, cond}
use mathlib.Core.Logic.{◌≢◌}
use mathlib.Core.List.{List}
use Prim.Native.Nat.{ℕ, ◌+◌, ◌-◌, ◌/◌, ◌≤◌, ◌<◌}
use native.Mathlib.Omega.{arith}
use lib.Dec.{eqb}
use lib.ListN.{length, take, drop, length-take, length-drop}
use lib.Seq.{take-length}
use borrow.Author.Tests.{eq-eqb, ne_eqb}
use Rattle.bits.proofs.Sums.{over_zero}
use Rattle.bits.proofs.Cases.{is_false, by-lt}
use Rattle.protocol.specs.declared.Tally.{Tally}
use Rattle.protocol.specs.Net.{Net, in_channels}
use Rattle.protocol.specs.Shaped.{Shaped}
use Rattle.protocol.specs.Fresh.{Plan, fresh}
use Rattle.protocol.specs.Steps.{or_else}
use Rattle.protocol.specs.Runs.{length_outcome, script_outcome, run}
use Rattle.protocol.proofs.Steps.Steps.{or_else-pass}
use Rattle.protocol.proofs.Theorems.{run-conserves}
use Rattle.layout.specs.Layout.{plan_length, net_length}
use Rattle.plan.specs.Planned.{plan_shaped}
use Rattle.plan.proofs.Plans.{plan-long}
use Rattle.shape.specs.Shape.{shaped}
use Rattle.net.specs.View.{view}
use Rattle.net.specs.Encode.{bytes_of}
use Rattle.access.specs.Inner.Nets.{IsNet}
use Rattle.access.proofs.Laws.{is-net}
use Rattle.fresh.specs.Fresh.{fresh_outcome, net_after_fresh}
use Rattle.fresh.proofs.Views.{fresh-view}
use Rattle.run.specs.Runs.{run_answer, net_after_run}
use Rattle.run.proofs.Theorems.{run-shows, run-tells}
use Rattle.listing.specs.Lines.{listing, refused_text}
use Rattle.listing.specs.Bench.{plan_part, script_part, stored_outcome, stored_text}
use Rattle.forms.specs.Plans.{plan_in}
use Rattle.net.proofs.Forms.{seen}

no-messages : (P : Plan) → in_channels (fresh P) ≡ 0
unfolding in_channels fresh
no-messages P = over_zero _ (λ p. over_zero _ (λ q. refl) 0 P.stations) 0 P.stations

-- the script, as it is lent
pub rest-lent : (stored : List ℕ) → take (length stored - plan_length) (drop plan_length stored) ≡ script_part stored
rest-lent stored = ap (λ (k : ℕ). take k (drop plan_length stored)) (sym (length-drop plan_length stored)) ∙ take-length (drop plan_length stored)

module _ (stored : List ℕ) (beyond : ℕ) where
  -- ---- the outcome, test by test
  unplanned : plan_shaped (plan_part stored) ≡ false → 9 ≡ stored_outcome stored beyond
  unfolding stored_outcome
  unplanned f = rw f refl

  pub too_short : length stored < plan_length → 9 ≡ stored_outcome stored beyond
  too_short h = unplanned (is_false (plan_shaped (plan_part stored)) (λ t. omega (arith, plan-long (plan_part stored) t, length-take plan_length stored)))

  module _ (net : List ℕ) (long : length net ≡ net_length) where
    fresh-is : fresh_outcome (plan_part stored) net ≡ or_else (plan_shaped (plan_part stored)) 9 0
    unfolding fresh_outcome
    fresh-is = rw (eq-eqb _ _ long) refl

    no-plan : fresh_outcome (plan_part stored) net ≢ 0 → plan_shaped (plan_part stored) ≡ false
    no-plan n = is_false (plan_shaped (plan_part stored)) (λ t. n (fresh-is ∙ rw t refl))

    pub not-begun : fresh_outcome (plan_part stored) net ≢ 0 → 9 ≡ stored_outcome stored beyond
    not-begun n = unplanned (no-plan n)

    pub same-refusal : fresh_outcome (plan_part stored) net ≢ 0 → fresh_outcome (plan_part stored) net ≡ stored_outcome stored beyond
    same-refusal n = fresh-is ∙ rw (no-plan n) (not-begun n)

    pub begun : fresh_outcome (plan_part stored) net ≡ 0 → (length_outcome (length stored - plan_length + beyond) ≡ stored_outcome stored beyond)
        × (net_after_fresh (plan_part stored) net ≡ bytes_of (fresh (plan_in (plan_part stored))))
    unfolding stored_outcome net_after_fresh
    begun e =
        let t : plan_shaped (plan_part stored) ≡ true = (or_else-pass (plan_shaped (plan_part stored)) 9 0 0 (λ i. omega arith) (sym fresh-is ∙ e)).0 in
        (rw t (ap (λ (n : ℕ). length_outcome (n + beyond)) (sym (length-drop plan_length stored))), rw e refl)

  pub long-enough : stored_outcome stored beyond ≡ 0 → plan_length ≤ length stored
  long-enough z = by-lt (length stored) plan_length (λ h. omega (arith, too_short h, z)) (λ h. h)

  -- ---- the text, by the outcome
  pub refused : (k : ℕ) → k ≡ stored_outcome stored beyond → k ≢ 0 → refused_text k ≡ stored_text stored beyond
  unfolding stored_text
  refused k is n = rw (sym is, ne_eqb k 0 n) refl

  -- what a run leaves that is to be listed: a net, whose channels hold what the tally says; and its listing is the text
  pub record Listed (t : Tally) (l : List ℕ) : Type 0 where
    pub net : IsNet l
    pub left : t.sent ≡ t.delivered + t.lost + in_channels (view l)
    pub text : listing (view l) t ≡ stored_text stored beyond

  -- the run of the fresh net
  module _ (first s : List ℕ) (t : Tally) (l : List ℕ) (accepted : stored_outcome stored beyond ≡ 0)
      (made : first ≡ bytes_of (fresh (plan_in (plan_part stored)))) (rest : s ≡ script_part stored)
      (ran : (t ≡ (run_answer first s true).tally) × (l ≡ net_after_run first s true)) where
    abbrev N : Net
    N = fresh (plan_in (plan_part stored))

    planned : plan_shaped (plan_part stored) ≡ true
    unfolding stored_outcome
    planned = (or_else-pass (plan_shaped (plan_part stored)) 9 (length_outcome (length (script_part stored) + beyond)) 0 (λ i. omega arith) accepted).0

    shape : shaped first ≡ true
    shape = ap shaped made ∙ (fresh-view (plan_part stored) planned).0

    shows : view first ≡ N
    shows = ap view made ∙ (fresh-view (plan_part stored) planned).1

    ran-net : view l ≡ (run N s).net
    ran-net = ap view ran.1 ∙ (run-shows _ first s shape).1 ∙ ap (λ (M : Net). (run M s).net) shows

    ran-tally : t ≡ (run N s).tally
    ran-tally = ran.0 ∙ run-tells _ first s shape ∙ ap (λ (M : Net). (run M s).tally) shows

    -- "Messages waiting at the start plus sent equal delivered plus lost plus waiting at the end", and none wait at the start
    conserved : in_channels N + (run N s).tally.sent ≡ (run N s).tally.delivered + (run N s).tally.lost + in_channels (run N s).net
    unfolding run
    conserved = run-conserves N (subst Shaped shows (seen _ first shape)) s (cond (eqb (script_outcome s) 0) (length s / 4) 0)

    pub listed : Listed t l
    unfolding stored_text
    listed = record {
      net = is-net _ l (ap shaped ran.1 ∙ (run-shows _ first s shape).0);
      left = rw (ran-tally, ran-net) (omega (arith, conserved, no-messages (plan_in (plan_part stored))));
      text = rw (accepted, ran-net, ran-tally, rest) refl;
    }
