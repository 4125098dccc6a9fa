-- An answer is known by what a contract says that it tells.
use Rattle.std.proofs.Common.{◌≡◌, ℕ, ◌<◌, Option, Some, None, Result, Ok, Err, refl, ap, arith}
use Rattle.protocol.specs.declared.Case.{Case}
use Rattle.protocol.specs.declared.Case.TheVariants.{Adopted, NotTentative, Unconnected, NotGreater}
use Rattle.protocol.specs.declared.Refusal.{Refusal}
use Rattle.protocol.specs.declared.Tally.{Tally}
use Rattle.protocol.specs.Cases.{case_number}
use Rattle.protocol.proofs.Laws.Cases.{own-number}
use Rattle.protocol.specs.Refusals.{number, outcome_of}
use Rattle.protocol.proofs.Refusals.{number-same, number-positive}
use Rattle.protocol.specs.Names.{Found}
use Rattle.protocol.specs.Calls.{Called}
use Rattle.step.specs.Steps as step
use Rattle.run.specs.Runs as run
use Rattle.find.specs.Answers.{found_of}
use Rattle.call.specs.declared.Reached.{Reached}
use Rattle.call.specs.Answers.{called_of}

-- what one tells of a value that it may hold determines the value, and a refusal is told by its number
module _ {A T : Type 0} (tells : Result A Refusal → T) (outcome : T → ℕ)
    (accepts : (a : A) → outcome (tells (Ok a)) ≡ 0) (refuses : (r : Refusal) → outcome (tells (Err r)) ≡ number r)
    (value : (a b : A) → tells (Ok a) ≡ tells (Ok b) → a ≡ b) where
  by_outcome : (x y : Result A Refusal) → tells x ≡ tells y → x ≡ y
  by_outcome (Ok a) (Ok b) e = ap Ok (value a b e)
  by_outcome (Ok a) (Err r) e = absurd (omega (arith, accepts a, ap outcome e, refuses r, number-positive r))
  by_outcome (Err r) (Ok b) e = absurd (omega (arith, accepts b, ap outcome e, refuses r, number-positive r))
  by_outcome (Err r) (Err s) e =
      let same : number r ≡ number s = omega (arith, refuses r, ap outcome e, refuses s) in
      ap Err (number-same r s same)

pub outcome_of-same : (x y : Result (Unit {0}) Refusal) → outcome_of x ≡ outcome_of y → x ≡ y
outcome_of-same = by_outcome outcome_of (λ k. k) (λ a. refl) (λ r. refl) (λ a b e. refl)

-- no case has the number that says that no reply was heard
case-positive : (x : Case) → 0 < case_number x
unfolding case_number
case-positive Adopted = omega arith
case-positive NotTentative = omega arith
case-positive Unconnected = omega arith
case-positive NotGreater = omega arith

case_told-same : (h k : Option Case) → step.case_told h ≡ step.case_told k → h ≡ k
case_told-same None None e = refl
case_told-same None (Some x) e = absurd (omega (arith, case-positive x, e))
case_told-same (Some x) None e = absurd (omega (arith, case-positive x, e))
case_told-same (Some x) (Some y) e = ap Some (own-number x y e)

pub told_step-same : (x y : Result (Option Case) Refusal) → step.told x ≡ step.told y → x ≡ y
told_step-same = by_outcome step.told (λ s. s.outcome) (λ h. refl) (λ r. refl) (λ h k e. case_told-same h k (ap (λ (s : step.Answer). s.case) e))

pub told_run-same : (x y : Result Tally Refusal) → run.told x ≡ run.told y → x ≡ y
told_run-same = by_outcome run.told (λ s. s.outcome) (λ t. refl) (λ r. refl) (λ t u e. ap (λ (s : run.Answer). s.tally) e)

pub found_of-same : (x y : Result ℕ Refusal) → found_of x ≡ found_of y → x ≡ y
found_of-same = by_outcome found_of (λ f. f.outcome) (λ g. refl) (λ r. refl) (λ g h e. ap (λ (f : Found). f.group) e)

pub called_of-same : (x y : Result Reached Refusal) → called_of x ≡ called_of y → x ≡ y
called_of-same = by_outcome called_of (λ c. c.outcome) (λ a. refl) (λ r. refl)
    (λ a b e. λ i. record { reached = ap (λ (c : Called). c.reached) e i; copies = ap (λ (c : Called). c.copies) e i })
