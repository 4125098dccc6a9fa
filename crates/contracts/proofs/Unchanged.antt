-- "A refusal .. changes no lent byte, entry or tally", function by function; and it tells zeros.
use mathlib.Core.Path.{◌≡◌, refl}
use mathlib.Core.Logic.{◌≢◌}
use mathlib.Core.Bool.{Bool}
use mathlib.Core.List.{List}
use Prim.Native.Nat.{ℕ}
use lib.Dec.{eqb, ltb}
use lib.ListN.{length}
use borrow.Author.Tests.{ne_eqb}
use Rattle.bits.proofs.Cases.{by_bool}
use Rattle.tree.specs.declared.Reach.{Reach}
use Rattle.protocol.specs.declared.Tally.{Tally}
use Rattle.protocol.specs.Calls.{call_outcome, called}
use Rattle.protocol.specs.Names.{first_from, same_name, find}
use Rattle.layout.specs.declared.form.Mark.{Mark}
use Rattle.shape.specs.Shape.{shaped}
use Rattle.net.specs.View.{view}
use Rattle.fresh.specs.Fresh.{fresh_outcome, net_after_fresh}
use Rattle.step.specs.Steps.{step_outcome_as, step_case_as, net_after_step_as}
use Rattle.run.specs.Tallies.{tally_fits}
use Rattle.run.specs.Runs.{run_outcome_as, net_after_run_as, run_tally_as, tally_after_run_as}
use Rattle.step.proofs.After.{refused-after as refused-after-step}
use Rattle.step.proofs.Hears.{refused-case}
use Rattle.run.proofs.Theorems.{refused-after, refused-tally, refused-bytes}
use Rattle.convert.specs.Converts.{convert_outcome, after_convert}
use Rattle.convert.proofs.Theorems.{refused-after as refused-after-convert}
use Rattle.find.specs.Answers.{found_in}
use Rattle.visit.specs.Lists.{list_fits}
use Rattle.call.specs.Answers.{called_in, list_after_call}
use Rattle.lent.specs.Lists.{called_on, records_after_call}

pub fresh-unchanged : (plan net : List ℕ) → fresh_outcome plan net ≢ 0 → net_after_fresh plan net ≡ net
unfolding net_after_fresh
fresh-unchanged plan net n = rw (ne_eqb _ 0 n) refl

pub step-unchanged : (m : Mark) (l : List ℕ) (k a b c : ℕ) → step_outcome_as m l k a b c ≢ 0 → net_after_step_as m l k a b c ≡ l
step-unchanged = refused-after-step

-- the net and the lent tally, as a record and as bytes
pub run-unchanged : (m : Mark) (l s : List ℕ) (fits : Bool) (t : Tally) → run_outcome_as m l s fits ≢ 0
    → (net_after_run_as m l s fits ≡ l) × (run_tally_as m l s fits t ≡ t)
run-unchanged m l s fits t n = (refused-after m l s fits n, refused-tally m l s fits n t)

pub run-into-unchanged : (m : Mark) (l s t : List ℕ) → run_outcome_as m l s (tally_fits t) ≢ 0
    → (net_after_run_as m l s (tally_fits t) ≡ l) × (tally_after_run_as m l s t ≡ t)
run-into-unchanged m l s t n = (refused-after m l s (tally_fits t) n, refused-bytes m l s t n)

-- what is to be written
pub convert-unchanged : (m n : Mark) (l out : List ℕ) → convert_outcome m l out ≢ 0 → after_convert m n l out ≡ out
convert-unchanged = refused-after-convert

-- the reach list, as bytes and as records
pub call-unchanged : (l : List ℕ) (g c : ℕ) (out : List ℕ) → (called_in l g c (list_fits out)).outcome ≢ 0 → list_after_call l g c out ≡ out
unfolding list_after_call
call-unchanged l g c out n = rw (ne_eqb _ 0 n) refl

pub lent-call-unchanged : (l : List ℕ) (g c : ℕ) (xs : List Reach) → (called_on l g c (length xs)).outcome ≢ 0 → records_after_call l g c xs ≡ xs
unfolding records_after_call
lent-call-unchanged l g c xs n = rw (ne_eqb _ 0 n) refl

-- "a refusal returns its number with zeros for every other result"
pub step-zeros : (m : Mark) (l : List ℕ) (k a b c : ℕ) → step_outcome_as m l k a b c ≢ 0 → step_case_as m l k a b c ≡ 0
step-zeros = refused-case

pub find-zeros : (l w : List ℕ) → (found_in l w).outcome ≢ 0 → (found_in l w).group ≡ 0
unfolding found_in find
find-zeros l w n =
    let first_one = first_from (λ g. same_name ((view l).name g) w) 0 (view l).groups in
    by_bool (shaped l)
    (λ s. by_bool (ltb first_one (view l).groups) (λ t. absurd (n (rw (s, t) refl))) (λ t. rw (s, t) refl))
    (λ s. rw s refl)

pub call-zeros : (l : List ℕ) (g c : ℕ) (fits : Bool) → (called_in l g c fits).outcome ≢ 0
    → ((called_in l g c fits).reached ≡ 0) × ((called_in l g c fits).copies ≡ 0)
unfolding called_in called
call-zeros l g c fits n = by_bool (shaped l)
    (λ s. by_bool (eqb (call_outcome (view l) g c fits) 0) (λ t. absurd (n (rw (s, t) refl))) (λ t. (rw (s, t) refl, rw (s, t) refl)))
    (λ s. (rw s refl, rw s refl))
