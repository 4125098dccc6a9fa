-- "Steps in both forms give the same outcome and corresponding nets": once, for all actions and any two forms; and so do runs.
--     two-forms                saved and working are two
--     other-form               bytes that are a net in one form are none in another; other-refused: a step, a run and a conversion that take
--                              that one give 1
--     converted-corresponds    what a conversion leaves corresponds to what it read
--     same_step                of corresponding nets, a step of the same numbers has the same answer, outcome and case, and leaves
--                              corresponding nets
--     same-run                 so does a run of the same script, with the same tally; same_bytes: and so in bytes
use mathlib.Core.Path.{◌≡◌, refl, sym, ap, ◌∙◌}
use mathlib.Core.Logic.{◌≢◌}
use mathlib.Core.Bool.{Bool, true, false, cond}
use mathlib.Core.List.{List}
use Prim.Native.Nat.{ℕ, ◌/◌}
use native.Mathlib.Omega.{arith}
use lib.Dec.{eqb}
use lib.ListN.{length}
use Rattle.bits.proofs.Cases.{by_bool, by-eq}
use Rattle.protocol.specs.declared.Tally.{Tally}
use Rattle.protocol.specs.Net.{Net}
use Rattle.protocol.specs.Steps.{outcome, step, case_heard}
use Rattle.protocol.specs.Runs.{after, run}
use Rattle.protocol.proofs.Theorems.{run-shaped}
use Rattle.layout.specs.declared.form.Mark.{Mark}
use Rattle.layout.specs.declared.form.Mark.TheVariants.{Saved, Working}
use Rattle.layout.specs.Marks.{mark_byte}
use Rattle.shape.specs.Shape.{shaped_as}
use Rattle.net.specs.View.{view}
use Rattle.net.proofs.Forms.{seen, stands}
use Rattle.step.specs.Steps.{step_outcome_as, step_case_as, step_answer_as, net_after_step_as}
use Rattle.step.proofs.After.{after-net}
use Rattle.run.specs.Tallies.{tally_fits, tally_bytes}
use Rattle.run.specs.Runs.{run_outcome_as, net_after_run_as, run_tally_as, tally_after_run_as}
use Rattle.run.proofs.Theorems.{refused-after, run-after}
use Rattle.convert.specs.Converts.{convert_outcome, after_convert}
use Rattle.convert.proofs.Theorems.{converted-net, one_form}
use Rattle.convert.proofs.Theorems as convert
use Rattle.demands.specs.Corresponds.{Corresponds}

pub two-forms : Saved ≢ Working
two-forms e = let marks : mark_byte Saved ≡ mark_byte Working = ap mark_byte e in omega arith

pub other-form : (m n : Mark) (l : List ℕ) → m ≢ n → shaped_as m l ≡ true → shaped_as n l ≡ false
other-form m n l e s = by_bool (shaped_as n l) (λ t. absurd (e (one_form m n l s t))) (λ f. f)

pub other-refused : (m n : Mark) (l : List ℕ) → m ≢ n → shaped_as m l ≡ true
    → ((k a b c : ℕ) → step_outcome_as n l k a b c ≡ 1) × ((s : List ℕ) (fits : Bool) → run_outcome_as n l s fits ≡ 1) × ((out : List ℕ) → convert_outcome n l out ≡ 1)
unfolding step_outcome_as run_outcome_as convert_outcome
other-refused m n l e s = let f = other-form m n l e s in ((λ k a b c. rw f refl), (λ s fits. rw f refl), (λ out. rw f refl))

pub converted-corresponds : (m n : Mark) (l out : List ℕ) → convert_outcome m l out ≡ 0 → Corresponds m n l (after_convert m n l out)
converted-corresponds m n l out o =
    let w = converted-net m n l out o in
    record { here = (convert.passed m n l out o).0; there = w.0; same = sym w.1 }

module _ (m n : Mark) (l w : List ℕ) (C : Corresponds m n l w) where
  pub same_step : (k a b c : ℕ) → (step_answer_as m l k a b c ≡ step_answer_as n w k a b c) × Corresponds m n (net_after_step_as m l k a b c) (net_after_step_as n w k a b c)
  unfolding step_outcome_as step_case_as
  same_step k a b c =
      let x = after-net m l k a b c C.here in
      let y = after-net n w k a b c C.there in (
        rw (C.here, C.there) (λ i. record { outcome = outcome (C.same i) k a b c; case = case_heard (C.same i) k a b c }),
        record { here = x.0; there = y.0; same = x.1 ∙ ap (λ (N : Net). step N k a b c) C.same ∙ sym y.1 },
      )

  module _ (s : List ℕ) where
    same_outcome : (fits : Bool) → run_outcome_as m l s fits ≡ run_outcome_as n w s fits
    unfolding run_outcome_as
    same_outcome fits = rw (C.here, C.there) refl

    same-net : (fits : Bool) → Corresponds m n (net_after_run_as m l s fits) (net_after_run_as n w s fits)
    same-net fits = by-eq (run_outcome_as m l s fits) 0
        (λ o.
        let p = sym (same_outcome fits) ∙ o in
        let x = run-after m l s fits o in
        let y = run-after n w s fits p in
        record {
          here = (stands m _ _ (run-shaped (view l) s (seen m l C.here) (length s / 4)) x.0).0;
          there = (stands n _ _ (run-shaped (view w) s (seen n w C.there) (length s / 4)) y.0).0;
          same = x.1 ∙ ap (λ (N : Net). (after N s (length s / 4)).net) C.same ∙ sym y.1;
        })
        (λ o. rw (refused-after m l s fits o, refused-after n w s fits (λ p. o (same_outcome fits ∙ p))) C)

    pub same-run : (fits : Bool) (t : Tally) → (run_outcome_as m l s fits ≡ run_outcome_as n w s fits)
        × Corresponds m n (net_after_run_as m l s fits) (net_after_run_as n w s fits) × (run_tally_as m l s fits t ≡ run_tally_as n w s fits t)
    unfolding run_tally_as
    same-run fits t =
        (same_outcome fits, same-net fits, (λ i. cond (eqb (same_outcome fits i) 0) (run (C.same i) s).tally t))

    pub same_bytes : (t : List ℕ) → tally_after_run_as m l s t ≡ tally_after_run_as n w s t
    unfolding tally_after_run_as
    same_bytes t = λ i. cond (eqb (same_outcome (tally_fits t) i) 0) (tally_bytes (run (C.same i) s).tally) t
