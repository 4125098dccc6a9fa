-- A step over bytes, in each form: what it answers, and the bytes that it leaves.
use Rattle.std.specs.Prelude.{cond, List, ℕ, eqb, Option, Some, None, Result, Ok, Err}
use Rattle.protocol.specs.declared.Case.{Case}
use Rattle.protocol.specs.declared.Refusal.{Refusal}
use Rattle.protocol.specs.Cases.{case_number, no_case}
use Rattle.protocol.specs.Refusals.{number}
use Rattle.protocol.specs.Steps.{or_else, outcome, step, case_heard}
use Rattle.layout.specs.declared.form.Mark.{Mark}
use Rattle.layout.specs.declared.form.Mark.TheVariants.{Saved}
use Rattle.shape.specs.Shape.{shaped_as}
use Rattle.net.specs.View.{view}
use Rattle.net.specs.Encode.{bytes_as}

-- an answer: the outcome number, and the number of the case of the reply that was heard
pub record Answer : Type 0 where
  pub outcome : ℕ
  pub case : ℕ

abbrev pub case_told : Option Case → ℕ
case_told None = no_case
case_told (Some x) = case_number x

-- what a result tells; "a refusal returns its number with zeros for every other result"
abbrev pub told : Result (Option Case) Refusal → Answer
told (Ok heard) = record { outcome = 0; case = case_told heard }
told (Err r) = record { outcome = number r; case = no_case }

-- 1: "the net is not 15,728 bytes or not well shaped", in the form of this mark; the others are the rules'
unfoldable pub step_outcome_as : Mark → List ℕ → ℕ → ℕ → ℕ → ℕ → ℕ
step_outcome_as m l k a b c = or_else (shaped_as m l) 1 (outcome (view l) k a b c)

-- the number of the case of the reply that is heard; "a refusal returns its number with zeros for every other result"
unfoldable pub step_case_as : Mark → List ℕ → ℕ → ℕ → ℕ → ℕ → ℕ
step_case_as m l k a b c = cond (shaped_as m l) (case_heard (view l) k a b c) no_case

abbrev pub step_answer_as : Mark → List ℕ → ℕ → ℕ → ℕ → ℕ → Answer
step_answer_as m l k a b c = record { outcome = step_outcome_as m l k a b c; case = step_case_as m l k a b c }

-- "A refusal .. changes no lent byte"; an accepted step leaves the bytes of the rule's next net, in the same form
unfoldable pub net_after_step_as : Mark → List ℕ → ℕ → ℕ → ℕ → ℕ → List ℕ
net_after_step_as m l k a b c = cond (eqb (step_outcome_as m l k a b c) 0) (bytes_as m (step (view l) k a b c)) l

-- the net of document 01 is the saved form
abbrev pub step_answer : List ℕ → ℕ → ℕ → ℕ → ℕ → Answer
step_answer l k a b c = step_answer_as Saved l k a b c

abbrev pub net_after_step : List ℕ → ℕ → ℕ → ℕ → ℕ → List ℕ
net_after_step l k a b c = net_after_step_as Saved l k a b c
