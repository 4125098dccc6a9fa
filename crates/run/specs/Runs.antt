-- A run over bytes, in each form: what it answers, and the bytes that it leaves. `fits` is whether the lent tally is of its size; a run that
-- hands its tally back has none lent, and `fits` is true.
use Rattle.std.specs.Prelude.{Bool, cond, List, ℕ, zero, suc, eqb, Result, Ok, Err}
use Rattle.protocol.specs.declared.Refusal.{Refusal}
use Rattle.protocol.specs.declared.Tally.{Tally}
use Rattle.protocol.specs.Refusals.{number}
use Rattle.protocol.specs.Steps.{or_else}
use Rattle.protocol.specs.Runs.{no_tally, at_step, script_outcome, run}
use Rattle.layout.specs.declared.form.Mark.{Mark}
use Rattle.layout.specs.declared.form.Mark.TheVariants.{Saved}
use Rattle.shape.specs.Shape.{shaped_as}
use Rattle.net.specs.View.{view}
use Rattle.net.specs.Encode.{bytes_as}
use Rattle.step.specs.Steps.{net_after_step_as}
use Rattle.run.specs.Tallies.{tally_fits, tally_bytes}

-- an answer: the outcome number, and the counts
pub record Answer : Type 0 where
  pub outcome : ℕ
  pub tally : Tally

-- what a result tells; "a refusal returns its number with zeros for every other result"
abbrev pub told : Result Tally Refusal → Answer
told (Ok t) = record { outcome = 0; tally = t }
told (Err r) = record { outcome = number r; tally = no_tally }

-- ---- of bytes that are to be a net in the form of this mark
module _ (m : Mark) (l s : List ℕ) where
  -- 1: "the net is not 15,728 bytes or not well shaped"; 10: "the lent output is not of the stated size"; then 11 and 12, of the script
  unfoldable pub run_outcome_as : Bool → ℕ
  run_outcome_as fits = or_else (shaped_as m l) 1 (or_else fits 10 (script_outcome s))

  -- what is lent, after a run: made by one that is accepted, and as it was after a refusal
  abbrev pub if_accepted : {A : Type 0} → Bool → A → A → A
  if_accepted fits made was = cond (eqb (run_outcome_as fits) 0) made was

  unfoldable pub net_after_run_as : Bool → List ℕ
  net_after_run_as fits = if_accepted fits (bytes_as m (run (view l) s).net) l

  -- the counts are "each set anew by the run"
  unfoldable pub run_tally_as : Bool → Tally → Tally
  run_tally_as fits t = if_accepted fits (run (view l) s).tally t

  -- the same of a tally of bytes
  unfoldable pub tally_after_run_as : List ℕ → List ℕ
  tally_after_run_as t = if_accepted (tally_fits t) (tally_bytes (run (view l) s).tally) t

  -- "a refusal returns its number with zeros for every other result"
  abbrev pub run_answer_as : Bool → Answer
  run_answer_as fits = record { outcome = run_outcome_as fits; tally = run_tally_as fits no_tally }

-- the bytes after the first i steps, taken one by one
unfoldable pub in_turn : Mark → List ℕ → List ℕ → ℕ → List ℕ
in_turn m l s zero = l
in_turn m l s (suc i) = at_step s i (net_after_step_as m (in_turn m l s i))

-- ---- the net of document 01 is the saved form
abbrev pub run_outcome : List ℕ → List ℕ → Bool → ℕ
run_outcome l s fits = run_outcome_as Saved l s fits

abbrev pub net_after_run : List ℕ → List ℕ → Bool → List ℕ
net_after_run l s fits = net_after_run_as Saved l s fits

abbrev pub run_tally : List ℕ → List ℕ → Bool → Tally → Tally
run_tally l s fits t = run_tally_as Saved l s fits t

abbrev pub tally_after_run : List ℕ → List ℕ → List ℕ → List ℕ
tally_after_run l s t = tally_after_run_as Saved l s t

abbrev pub run_answer : List ℕ → List ℕ → Bool → Answer
run_answer l s fits = run_answer_as Saved l s fits
