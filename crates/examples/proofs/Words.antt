-- The words of the C face read back: each value of an answer is in a byte of its own.
--     step-word-reads, found-reads, called-reads    of any values below 256
--     step-reads, find-reads, call-reads            of every answer: its values are below 256
use mathlib.Core.Bool.{Bool, true, false, ◌&&◌}
use mathlib.Core.List.{List}
use Prim.Native.Nat.{ℕ, ◌<◌}
use native.Mathlib.Omega.{arith}
use Rattle.bits.proofs.Cases.{by_bool, by-lt}
use Rattle.tree.specs.Tree.{on_tree}
use Rattle.tree.proofs.Chains.{on-tree}
use Rattle.protocol.specs.declared.Case.{Case}
use Rattle.protocol.specs.declared.Case.TheVariants.{Adopted, NotTentative, Unconnected, NotGreater}
use Rattle.protocol.specs.Net.{Net, reply, group?, station?}
use Rattle.protocol.specs.Cases.{case_number}
use Rattle.protocol.specs.Rules.{Rule}
use Rattle.protocol.specs.Steps.{or_else, verdict, action?, rule, outcome, case_heard}
use Rattle.protocol.specs.Runs.{delivers}
use Rattle.protocol.specs.Names.{same_name, first_from, Found, find}
use Rattle.protocol.specs.Calls.{tree_of, Called, call_outcome, called}
use Rattle.protocol.specs.Shaped.{Shaped}
use Rattle.protocol.proofs.Steps.Hears.{heard-is}
use Rattle.protocol.proofs.Finds.{find-hit, find-miss}
use Rattle.protocol.proofs.Calls.{tree-rooted, call-copies, reach_few}
use Rattle.layout.specs.declared.form.Mark.{Mark}
use Rattle.shape.specs.Shape.{shaped_as, shaped}
use Rattle.net.specs.View.{view}
use Rattle.step.specs.Steps.{Answer, step_outcome_as, step_case_as, step_answer_as}
use Rattle.find.specs.Answers.{found_in}
use Rattle.call.specs.Answers.{called_in}
use Rattle.call.proofs.Ends.{in_both}
use Rattle.rig.specs.Face.{step_word, found_word, called_word}
use Rattle.examples.specs.Words.{StepRead, FoundRead, CalledRead, SmallStep, SmallFound, SmallCalled}
use Rattle.net.proofs.Forms.{seen}

-- ---- any values
pub step-word-reads : (s : Answer) → SmallStep s → StepRead s
unfolding step_word
step-word-reads s h = record { outcome = omega arith; case = omega arith }

pub found-reads : (f : Found) → SmallFound f → FoundRead f
unfolding found_word
found-reads f s = record { outcome = omega arith; group = omega arith }

pub called-reads : (a : Called) → SmallCalled a → CalledRead a
unfolding called_word
called-reads a s = record { outcome = omega arith; reached = omega arith; copies = omega arith }

-- ---- the answers
-- the number of a test, and of what comes after it
test-small : (b : Bool) (k rest : ℕ) → k < 256 → rest < 256 → or_else b k rest < 256
test-small true k rest h r = r
test-small false k rest h r = h

verdict-small : (R : Rule Net) → verdict R < 256
unfolding verdict
verdict-small R =
    test-small R.operands 3 _ (omega arith) (test-small R.enabled 4 _ (omega arith)
    (test-small R.clock_room 5 _ (omega arith) (test-small R.send_room 6 0 (omega arith) (omega arith))))

number_small : (x : Case) → case_number x < 256
unfolding case_number
number_small Adopted = omega arith
number_small NotTentative = omega arith
number_small Unconnected = omega arith
number_small NotGreater = omega arith

module _ (N : Net) (H : Shaped N) where
  case-small : (k a b c : ℕ) → case_heard N k a b c < 256
  case-small k a b c = rw (heard-is N H k a b c) (by_bool (delivers reply N k a b c) (λ t. rw t (number_small _)) (λ f. rw f (omega arith)))

  find-small : (w : List ℕ) → SmallFound (find N w)
  find-small w = by-lt (first_from (λ i. same_name (N.name i) w) 0 N.groups) N.groups
      (λ h. rw (find-hit N w h) (omega arith, omega (arith, H.plan.groups_most)))
      (λ h. rw (find-miss N w h) (omega arith, omega arith))

  call-small : (g c : ℕ) (fits : Bool) → SmallCalled (called N g c fits)
  unfolding called call_outcome
  call-small g c fits = by_bool (group? N g && station? N c)
      (λ i. by_bool fits
      (λ j. by_bool (on_tree (tree_of N g) c)
      (λ t.
      let h = (in_both N g c i).0 in
      let few = reach_few N H g h in
      let k = call-copies N H g h c ((on-tree (tree_of N g) (tree-rooted N H g h) c).1 t) in
      rw (i, j, t) (omega arith, omega arith, omega arith))
      (λ t. rw (i, j, t) (omega arith, omega arith, omega arith)))
      (λ j. rw (i, j) (omega arith, omega arith, omega arith)))
      (λ i. rw i (omega arith, omega arith, omega arith))

pub step-reads : (m : Mark) (l : List ℕ) (k a b c : ℕ) → StepRead (step_answer_as m l k a b c)
unfolding step_outcome_as step_case_as outcome
step-reads m l k a b c = step-word-reads (step_answer_as m l k a b c) (by_bool (shaped_as m l)
    (λ s. rw s (test-small (action? k) 2 _ (omega arith) (verdict-small (rule (view l) k a b c)), case-small (view l) (seen m l s) k a b c))
    (λ f. rw f (omega arith, omega arith)))

pub find-reads : (l w : List ℕ) → FoundRead (found_in l w)
unfolding found_in
find-reads l w = found-reads (found_in l w) (by_bool (shaped l)
    (λ s. rw s (find-small (view l) (seen _ l s) w))
    (λ s. rw s (omega arith, omega arith)))

pub call-reads : (l : List ℕ) (g c : ℕ) (fits : Bool) → CalledRead (called_in l g c fits)
unfolding called_in
call-reads l g c fits = called-reads (called_in l g c fits) (by_bool (shaped l)
    (λ s. rw s (call-small (view l) (seen _ l s) g c fits))
    (λ s. rw s (omega arith, omega arith, omega arith)))
