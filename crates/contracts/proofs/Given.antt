-- Each public function's outcome is the one that its refusal table gives, and no other: each refusal is given in its stated case only.
use mathlib.Core.Path.{◌≡◌, refl, sym, ◌∙◌, subst}
use mathlib.Core.Logic.{◌↔◌, ◌≢◌}
use mathlib.Core.Bool.{Bool, true}
use mathlib.Core.List.{List, [], ◌∷◌}
use Prim.Native.Nat.{ℕ}
use lib.Dec.{eqb, ltb}
use borrow.Author.Tests.{eqb-true}
use Rattle.bits.proofs.Cases.{by_bool}
use Rattle.protocol.specs.Steps.{or_else, verdict, outcome}
use Rattle.protocol.proofs.Steps.Steps.{or_else-pass}
use Rattle.protocol.specs.Runs.{length_outcome, script_outcome}
use Rattle.protocol.specs.Names.{first_from, same_name, find}
use Rattle.protocol.specs.Calls.{call_outcome, called}
use Rattle.layout.specs.declared.form.Mark.{Mark}
use Rattle.shape.specs.Shape.{shaped}
use Rattle.net.specs.View.{view}
use Rattle.fresh.specs.Fresh.{fresh_outcome}
use Rattle.step.specs.Steps.{step_outcome_as}
use Rattle.run.specs.Runs.{run_outcome_as}
use Rattle.convert.specs.Converts.{convert_outcome}
use Rattle.find.specs.Answers.{found_in}
use Rattle.call.specs.Answers.{called_in}
use Rattle.listing.specs.Bench.{bench_outcome}
use Rattle.contracts.specs.Tests.{Test, Given, accepted, fails, goes_on}
use Rattle.contracts.specs.Tables.{fresh_table, step_table, run_table, convert_table, find_table, call_table, bench_table}

-- the number of the first test that fails
abbrev first : List Test → ℕ
first [] = 0
first (t ∷ ts) = or_else t.passes t.number (first ts)

first-given : (ts : List Test) → Given ts (first ts)
first-given [] = accepted
first-given (t ∷ ts) = by_bool t.passes (λ p. at p (goes_on p (first-given ts))) (λ p. at p (fails p))
  where
    at : {b : Bool} → t.passes ≡ b → Given (t ∷ ts) (or_else b t.number (first ts)) → Given (t ∷ ts) (first (t ∷ ts))
    at p g = subst (λ (b : Bool). Given (t ∷ ts) (or_else b t.number (first ts))) (sym p) g

given-first : (ts : List Test) (o : ℕ) → Given ts o → o ≡ first ts
given-first [] o accepted = refl
given-first (t ∷ ts) o (fails p) = rw p refl
given-first (t ∷ ts) o (goes_on p g) = rw p (given-first ts o g)

-- of what is accepted, each test passes
pub passed : (t : Test) (ts : List Test) → t.number ≢ 0 → Given (t ∷ ts) 0 → (t.passes ≡ true) × Given ts 0
passed t ts n g =
    let w = or_else-pass t.passes t.number (first ts) 0 n (sym (given-first (t ∷ ts) 0 g)) in
    (w.0, subst (Given ts) w.1 (first-given ts))

-- an outcome that is the first failing test's is the one that the table gives
exactly : (ts : List Test) (o : ℕ) → o ≡ first ts → (k : ℕ) → (o ≡ k) ↔ Given ts k
exactly ts o e k = ((λ f. subst (Given ts) (sym e ∙ f) (first-given ts)), (λ g. e ∙ sym (given-first ts k g)))

pub fresh-given : (plan net : List ℕ) (k : ℕ) → (fresh_outcome plan net ≡ k) ↔ Given (fresh_table plan net) k
unfolding fresh_outcome
fresh-given plan net = exactly (fresh_table plan net) (fresh_outcome plan net) refl

pub step_given : (m : Mark) (l : List ℕ) (k a b c o : ℕ) → (step_outcome_as m l k a b c ≡ o) ↔ Given (step_table m l k a b c) o
unfolding step_outcome_as outcome verdict
step_given m l k a b c = exactly (step_table m l k a b c) (step_outcome_as m l k a b c) refl

pub run-given : (m : Mark) (l s : List ℕ) (fits : Bool) (k : ℕ) → (run_outcome_as m l s fits ≡ k) ↔ Given (run_table m l s fits) k
unfolding run_outcome_as script_outcome length_outcome
run-given m l s fits = exactly (run_table m l s fits) (run_outcome_as m l s fits) refl

pub convert-given : (m : Mark) (l out : List ℕ) (k : ℕ) → (convert_outcome m l out ≡ k) ↔ Given (convert_table m l out) k
unfolding convert_outcome
convert-given m l out = exactly (convert_table m l out) (convert_outcome m l out) refl

pub find-given : (l w : List ℕ) (k : ℕ) → ((found_in l w).outcome ≡ k) ↔ Given (find_table l w) k
find-given l w = exactly (find_table l w) (found_in l w).outcome is
  where
    is : (found_in l w).outcome ≡ first (find_table l w)
    is = unfold found_in find in let first_one = first_from (λ g. same_name ((view l).name g) w) 0 (view l).groups in
        by_bool (shaped l)
        (λ s. rw s (by_bool (ltb first_one (view l).groups) (λ t. rw t refl) (λ t. rw t refl)))
        (λ s. rw s refl)

pub call-given : (l : List ℕ) (g c : ℕ) (fits : Bool) (k : ℕ) → ((called_in l g c fits).outcome ≡ k) ↔ Given (call_table l g c fits) k
call-given l g c fits = exactly (call_table l g c fits) (called_in l g c fits).outcome is
  where
    outcome-is : (called (view l) g c fits).outcome ≡ call_outcome (view l) g c fits
    outcome-is = unfold called in by_bool (eqb (call_outcome (view l) g c fits) 0)
        (λ t. rw t (sym (eqb-true _ 0 t))) (λ t. rw t refl)

    is : (called_in l g c fits).outcome ≡ first (call_table l g c fits)
    is = unfold called_in call_outcome in by_bool (shaped l) (λ s. rw s outcome-is) (λ s. rw s refl)

pub bench-given : (input : List ℕ) (k : ℕ) → (bench_outcome input ≡ k) ↔ Given (bench_table input) k
unfolding bench_outcome script_outcome length_outcome
bench-given input = exactly (bench_table input) (bench_outcome input) refl
