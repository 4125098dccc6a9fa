-- The bench program: what it prints for an input, and the same from the part of the input that it stores.
use Rattle.std.specs.Prelude.{cond, List, ℕ, ◌+◌, eqb, length, take, drop}
use Rattle.protocol.specs.Fresh.{fresh}
use Rattle.protocol.specs.Steps.{or_else}
use Rattle.protocol.specs.Runs.{RunState, length_outcome, script_outcome, run}
use Rattle.protocol.specs.Net.{longest_script}
use Rattle.layout.specs.Layout.{plan_length}
use Rattle.plan.specs.Planned.{plan_shaped}
use Rattle.listing.specs.Lines.{listing, refused_text}
use Rattle.forms.specs.Plans.{plan_in}

-- "It reads a plan, then a script, from standard input"
abbrev pub plan_part : List ℕ → List ℕ
plan_part input = take plan_length input

abbrev pub script_part : List ℕ → List ℕ
script_part input = drop plan_length input

abbrev pub printed : ℕ → RunState → List ℕ
printed k R = cond (eqb k 0) (listing R.net R.tally) (refused_text k)

-- "Input under 112 bytes gives 9", and so does a plan that is not well shaped; "11 still comes before 12"
unfoldable pub bench_outcome : List ℕ → ℕ
bench_outcome input = or_else (plan_shaped (plan_part input)) 9 (script_outcome (script_part input))

unfoldable pub bench_text : List ℕ → List ℕ
bench_text input = printed (bench_outcome input) (run (fresh (plan_in (plan_part input))) (script_part input))

-- the program stores a plan and the longest script, and counts the rest: the same, where `beyond` more were counted
abbrev pub stored_length : ℕ
stored_length = plan_length + longest_script

-- no text is longer than this
abbrev pub text_room : ℕ
text_room = 16640

unfoldable pub stored_outcome : List ℕ → ℕ → ℕ
stored_outcome stored beyond = or_else (plan_shaped (plan_part stored)) 9 (length_outcome (length (script_part stored) + beyond))

unfoldable pub stored_text : List ℕ → ℕ → List ℕ
stored_text stored beyond = printed (stored_outcome stored beyond) (run (fresh (plan_in (plan_part stored))) (script_part stored))
