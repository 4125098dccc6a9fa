-- What a run does to the bytes, in each form, with a lent tally of the right size (`fits`) or not.
--     passed           an accepted run has passed each of its tests
--     refused-after    a refused run leaves every byte of the net
--     refused-tally    and the lent tally; refused-bytes: so a tally of bytes
--     run-after        an accepted run leaves the bytes of the net after all its steps, and they show it
--     run-in-turn      they are the bytes that the steps leave, taken one by one; each_turn: after each step
--     tally-after      its tally is that of the steps, whatever it was before; bytes_after: and so in bytes
--     run-conserves    "Messages waiting at the start plus sent equal delivered plus lost plus waiting at the end"
--     run-counts       every step is counted, as accepted or as refused
--     run-cases        each count of replies is the number of steps that hear a reply of its case
--     run-replies      the four together are the replies delivered; run-delivered: and with the requests delivered all that is delivered
--     run-shows        by value, accepted or not, the bytes of a net are left as those of the book's run; run-tells: and its tally
use mathlib.Core.Path.{◌≡◌, refl, sym, ap, ◌∙◌}
use mathlib.Core.Logic.{◌≢◌}
use mathlib.Core.Bool.{Bool, true}
use mathlib.Core.List.{List}
use Prim.Native.Nat.{ℕ, zero, suc, ◌+◌, ◌/◌}
use native.Mathlib.Omega.{arith}
use lib.Dec.{eqb}
use lib.ListN.{length}
use borrow.Author.Tests.{eq-eqb, ne_eqb}
use Rattle.bits.proofs.Cases.{by_bool}
use Rattle.protocol.specs.declared.Case.{Case}
use Rattle.protocol.specs.declared.Tally.{Tally}
use Rattle.protocol.specs.Net.{Net, request, reply, in_channels}
use Rattle.protocol.specs.Steps.{step}
use Rattle.protocol.specs.Runs.{case_count, RunState, no_tally, then, at_step, after, script_outcome, run, how_many, delivers, hears, all_replies}
use Rattle.protocol.proofs.Steps.Steps.{or_else-pass}
use Rattle.protocol.proofs.Theorems as book
use Rattle.protocol.proofs.CaseCounts as counts
use Rattle.layout.specs.declared.form.Mark.{Mark}
use Rattle.shape.specs.Shape.{shaped_as}
use Rattle.net.specs.View.{view}
use Rattle.net.specs.Encode.{bytes_as}
use Rattle.step.specs.Steps.{net_after_step_as}
use Rattle.step.proofs.After.{after-bytes}
use Rattle.run.specs.Tallies.{tally_fits, tally_bytes}
use Rattle.run.specs.Runs.{run_outcome_as, net_after_run_as, run_tally_as, tally_after_run_as, in_turn}
use Rattle.net.proofs.Forms.{seen, view-bytes, stands}

-- the tests that an accepted run has passed
pub record Passed (m : Mark) (l s : List ℕ) (fits : Bool) : Type 0 where
  pub shape : shaped_as m l ≡ true
  pub size : fits ≡ true
  pub script : script_outcome s ≡ 0

module _ (m : Mark) (l s : List ℕ) where
  abbrev steps : ℕ
  steps = length s / 4

  -- the book's net and tally after i steps
  abbrev at : ℕ → RunState
  at i = after (view l) s i

  run-all : script_outcome s ≡ 0 → run (view l) s ≡ at steps
  unfolding run
  run-all o = rw (eq-eqb (script_outcome s) 0 o) refl

  at-stands : shaped_as m l ≡ true → (i : ℕ) → (shaped_as m (bytes_as m (at i).net) ≡ true) × (view (bytes_as m (at i).net) ≡ (at i).net)
  at-stands h i = stands m _ _ (book.run-shaped (view l) s (seen m l h) i) refl

  -- in any case, of a net: the bytes left are a net's, and show the run
  pub run-shows : shaped_as m l ≡ true → (shaped_as m (net_after_run_as m l s true) ≡ true) × (view (net_after_run_as m l s true) ≡ (run (view l) s).net)
  unfolding net_after_run_as run_outcome_as run after
  run-shows h = by_bool (eqb (script_outcome s) 0) (λ t. rw (h, t) (at-stands h steps)) (λ f. rw (h, f) (h, refl))

  pub run-tells : shaped_as m l ≡ true → run_tally_as m l s true no_tally ≡ (run (view l) s).tally
  unfolding run_tally_as run_outcome_as run after
  run-tells h = by_bool (eqb (script_outcome s) 0) (λ t. rw (h, t) refl) (λ f. rw (h, f) refl)

  pub each_turn : shaped_as m l ≡ true → (i : ℕ) → bytes_as m (at i).net ≡ in_turn m l s i
  unfolding after then in_turn
  each_turn h zero = view-bytes m l h
  each_turn h (suc i) =
      let w = at-stands h i in
      ap (λ (M : Net). bytes_as m (at_step s i (step M))) (sym w.1)
      ∙ sym (after-bytes m (bytes_as m (at i).net) _ _ _ _ w.0)
      ∙ ap (λ (x : List ℕ). at_step s i (net_after_step_as m x)) (each_turn h i)

  pub refused-bytes : (t : List ℕ) → run_outcome_as m l s (tally_fits t) ≢ 0 → tally_after_run_as m l s t ≡ t
  unfolding tally_after_run_as
  refused-bytes t n = rw (ne_eqb _ 0 n) refl

  module _ (fits : Bool) where
    pub passed : run_outcome_as m l s fits ≡ 0 → Passed m l s fits
    unfolding run_outcome_as
    passed o =
        let h = or_else-pass (shaped_as m l) 1 _ 0 (λ i. omega arith) o in
        let t = or_else-pass fits 10 (script_outcome s) 0 (λ i. omega arith) h.1 in
        record { shape = h.0; size = t.0; script = t.1 }

    pub refused-after : run_outcome_as m l s fits ≢ 0 → net_after_run_as m l s fits ≡ l
    unfolding net_after_run_as
    refused-after n = rw (ne_eqb _ 0 n) refl

    pub refused-tally : run_outcome_as m l s fits ≢ 0 → (t : Tally) → run_tally_as m l s fits t ≡ t
    unfolding run_tally_as
    refused-tally n t = rw (ne_eqb _ 0 n) refl

    module _ (o : run_outcome_as m l s fits ≡ 0) where
      pub run-after : (net_after_run_as m l s fits ≡ bytes_as m (at steps).net) × (view (net_after_run_as m l s fits) ≡ (at steps).net)
      unfolding net_after_run_as
      run-after =
          let w = passed o in
          let e : net_after_run_as m l s fits ≡ bytes_as m (at steps).net =
          rw (eq-eqb (run_outcome_as m l s fits) 0 o) (ap (λ (R : RunState). bytes_as m R.net) (run-all w.script)) in
          (e, ap view e ∙ (at-stands w.shape steps).1)

      pub run-in-turn : net_after_run_as m l s fits ≡ in_turn m l s steps
      run-in-turn = run-after.0 ∙ each_turn (passed o).shape steps

      module _ (t : Tally) where
        -- "each set anew by the run": whatever the tally was
        pub tally-after : run_tally_as m l s fits t ≡ (at steps).tally
        unfolding run_tally_as
        tally-after = rw (eq-eqb (run_outcome_as m l s fits) 0 o) (ap (λ (R : RunState). R.tally) (run-all (passed o).script))

        pub run-conserves : in_channels (view l) + (run_tally_as m l s fits t).sent
            ≡ (run_tally_as m l s fits t).delivered + (run_tally_as m l s fits t).lost + in_channels (view (net_after_run_as m l s fits))
        run-conserves = rw (tally-after, run-after.1) (book.run-conserves (view l) (seen m l (passed o).shape) s steps)

        pub run-counts : (run_tally_as m l s fits t).accepted + (run_tally_as m l s fits t).refused ≡ steps
        run-counts = rw tally-after (book.run-counts (view l) s steps)

        pub run-cases : (x : Case) → case_count (run_tally_as m l s fits t).replies x ≡ how_many (hears x) (view l) s steps
        run-cases x = rw tally-after (counts.run-cases (view l) s steps x)

        pub run-replies : all_replies (run_tally_as m l s fits t).replies ≡ how_many (delivers reply) (view l) s steps
        run-replies = rw tally-after (counts.run-replies (view l) s (seen m l (passed o).shape) steps)

        pub run-delivered : (run_tally_as m l s fits t).delivered ≡ how_many (delivers request) (view l) s steps + all_replies (run_tally_as m l s fits t).replies
        run-delivered = rw tally-after (counts.run-delivered (view l) s (seen m l (passed o).shape) steps)

  pub bytes_after : (t : List ℕ) → run_outcome_as m l s (tally_fits t) ≡ 0 → tally_after_run_as m l s t ≡ tally_bytes (at steps).tally
  unfolding tally_after_run_as
  bytes_after t o = rw o (ap (λ (R : RunState). tally_bytes R.tally) (run-all (passed (tally_fits t) o).script))
