-- The examples in bytes.
--     bytes-tell       the bytes of any well-shaped net answer and leave what the rules say of it
--     examples-tell    so do the bytes of every net that a row of the table starts from
--     having-after    the bytes of a net of the examples that has taken steps are those that the run of these steps leaves;
--                      having-shows: and they show it
use mathlib.Core.Path.{◌≡◌, refl, sym, ap, subst, ◌∙◌}
use mathlib.Core.Bool.{true}
use mathlib.Core.List.{List}
use Prim.Native.Nat.{ℕ}
use borrow.Author.Tests.{eq-eqb}
use Rattle.protocol.specs.Net.{Net}
use Rattle.protocol.specs.Runs.{run}
use Rattle.protocol.specs.Shaped.{All, Shaped}
use Rattle.protocol.specs.ExampleNets.{Step, script_of, Start, ◌having◌, net, proper}
use Rattle.protocol.specs.ExampleRows.{Row}
use Rattle.protocol.specs.Examples.{examples}
use Rattle.protocol.proofs.Laws.Maps.{All-map}
use Rattle.protocol.proofs.Examples.Nets.{proper-shaped}
use Rattle.protocol.proofs.Examples.Examples.{examples-shaped}
use Rattle.layout.specs.declared.form.Mark.TheVariants.{Saved}
use Rattle.shape.specs.Shape.{shaped}
use Rattle.net.specs.View.{view}
use Rattle.net.specs.Encode.{bytes_of}
use Rattle.find.specs.Answers.{found_in}
use Rattle.step.specs.Steps.{step_outcome_as, step_case_as}
use Rattle.step.proofs.After.{after-bytes}
use Rattle.run.specs.Runs.{run_outcome_as, net_after_run, run_tally_as, tally_after_run_as}
use Rattle.run.proofs.Theorems.{run-shows}
use Rattle.call.specs.Answers.{called_in, list_after_call}
use Rattle.examples.specs.Tells.{Tells}
use Rattle.net.proofs.Forms.{view-bytes, stands}

-- well-shaped bytes answer and leave what the rules say of the net that they show
shaped-tell : (l : List ℕ) → shaped l ≡ true → Tells l (view l)
unfolding step_outcome_as step_case_as run_outcome_as run_tally_as tally_after_run_as found_in called_in list_after_call
shaped-tell l s = record {
  shape = s;
  shows = refl;
  answer = λ k a b c. rw s refl;
  step = λ k a b c. after-bytes Saved l k a b c s;
  script = λ t fits. rw s refl;
  run = λ t. let w = run-shows Saved l t s in sym (view-bytes Saved _ w.0) ∙ ap bytes_of w.1;
  tally = λ t old o. rw (s, eq-eqb _ _ o) refl;
  counts = λ t old e o. rw (s, eq-eqb _ _ e, eq-eqb _ _ o) refl;
  found = λ w. rw s refl;
  called = λ g c fits. rw s refl;
  list = λ g c out o. rw (s, eq-eqb _ _ o) refl;
}

pub bytes-tell : (N : Net) → Shaped N → Tells (bytes_of N) N
bytes-tell N H = let w = stands Saved N (bytes_of N) H refl in subst (Tells (bytes_of N)) w.1 (shaped-tell (bytes_of N) w.0)

pub examples-tell : All (λ (r : Row). Tells (bytes_of (net r.start)) (net r.start)) examples
examples-tell = All-map (λ r. bytes-tell (net r.start)) examples-shaped

module _ (S : Start) (p : proper S ≡ true) (ts : List Step) where
  T : Tells (bytes_of (net S)) (net S)
  T = bytes-tell (net S) (proper-shaped S p)

  pub having-after : net_after_run (bytes_of (net S)) (script_of ts) true ≡ bytes_of (net (S having ts))
  unfolding net
  having-after = T.run (script_of ts)

  pub having-shows : view (net_after_run (bytes_of (net S)) (script_of ts) true) ≡ net (S having ts)
  unfolding net
  having-shows = (run-shows Saved (bytes_of (net S)) (script_of ts) T.shape).1 ∙ ap (λ (N : Net). (run N (script_of ts)).net) T.shows
