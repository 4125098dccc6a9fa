-- A call into a lent list of records: what it answers, and the list that it leaves.
use Rattle.std.specs.Prelude.{cond, List, ℕ, eqb, length}
use Rattle.tree.specs.declared.Reach.{Reach}
use Rattle.protocol.specs.Net.{most_stations}
use Rattle.protocol.specs.Calls.{Called, reach_list}
use Rattle.net.specs.View.{view}
use Rattle.call.specs.Answers.{called_in}

-- the call into a list of n entries: 10 unless they are "exactly 16"
abbrev pub called_on : List ℕ → ℕ → ℕ → ℕ → Called
called_on l g c n = called_in l g c (eqb n most_stations)

-- the reach list, and on a refusal the list as it was
unfoldable pub records_after_call : List ℕ → ℕ → ℕ → List Reach → List Reach
records_after_call l g c xs = cond (eqb (called_on l g c (length xs)).outcome 0) (reach_list (view l) g) xs
