-- What it is for bytes to answer and leave what the rules say of a net.
use Rattle.std.specs.Prelude.{◌≡◌, Bool, true, List, ℕ, length}
use Rattle.protocol.specs.declared.Tally.{Tally}
use Rattle.protocol.specs.Net.{Net}
use Rattle.protocol.specs.Steps as book
use Rattle.protocol.specs.Runs as book-runs
use Rattle.protocol.specs.Names as book-names
use Rattle.protocol.specs.Calls as book-calls
use Rattle.shape.specs.Shape.{shaped}
use Rattle.net.specs.View.{view}
use Rattle.net.specs.Encode.{bytes_of}
use Rattle.find.specs.Answers.{found_in}
use Rattle.step.specs.Steps.{step_answer, net_after_step}
use Rattle.run.specs.Tallies.{tally_length, tally_bytes}
use Rattle.run.specs.Runs.{run_outcome, net_after_run, run_tally, tally_after_run}
use Rattle.visit.specs.Lists.{list_fits, reach_bytes}
use Rattle.call.specs.Answers.{called_in, list_after_call}

pub record Tells (l : List ℕ) (N : Net) : Type 0 where
  -- they are well shaped, and show the net
  pub shape : shaped l ≡ true
  pub shows : view l ≡ N
  -- a step
  pub answer : (k a b c : ℕ) → step_answer l k a b c ≡ record { outcome = book.outcome N k a b c; case = book.case_heard N k a b c }
  pub step : (k a b c : ℕ) → net_after_step l k a b c ≡ bytes_of (book.step N k a b c)
  -- a run, and the tally of an accepted one, as a record and in bytes
  pub script : (s : List ℕ) (fits : Bool) → run_outcome l s fits ≡ book.or_else fits 10 (book-runs.script_outcome s)
  pub run : (s : List ℕ) → net_after_run l s true ≡ bytes_of (book-runs.run N s).net
  pub tally : (s : List ℕ) (t : Tally) → book-runs.script_outcome s ≡ 0 → run_tally l s true t ≡ (book-runs.run N s).tally
  pub counts : (s t : List ℕ) → length t ≡ tally_length → book-runs.script_outcome s ≡ 0
      → tally_after_run l s t ≡ tally_bytes (book-runs.run N s).tally
  -- a name, a call, and the list of an accepted call
  pub found : (w : List ℕ) → found_in l w ≡ book-names.find N w
  pub called : (g c : ℕ) (fits : Bool) → called_in l g c fits ≡ book-calls.called N g c fits
  pub list : (g c : ℕ) (out : List ℕ) → (book-calls.called N g c (list_fits out)).outcome ≡ 0
      → list_after_call l g c out ≡ reach_bytes (book-calls.reach_list N g)
