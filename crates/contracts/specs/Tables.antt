-- The refusal table of each public function, in document 01's order: "tests are made in rising number, except that a fresh net tests 10
-- before 9, and a call tests 1, 3, 10, 8".
use Rattle.std.specs.Prelude.{Bool, ◌&&◌, List, [], ◌∷◌, ℕ, ◌%◌, eqb, ltb, leb, length}
use Rattle.tree.specs.Tree.{on_tree}
use Rattle.protocol.specs.Net.{group?, station?}
use Rattle.protocol.specs.Steps.{action?, rule}
use Rattle.protocol.specs.Net.{longest_script}
use Rattle.protocol.specs.Names.{first_from, same_name}
use Rattle.protocol.specs.Calls.{tree_of}
use Rattle.layout.specs.Layout.{net_length}
use Rattle.plan.specs.Planned.{plan_shaped}
use Rattle.layout.specs.declared.form.Mark.{Mark}
use Rattle.shape.specs.Shape.{shaped_as, shaped}
use Rattle.net.specs.View.{view}
use Rattle.listing.specs.Bench.{plan_part, script_part}
use Rattle.contracts.specs.Tests.{Test}

-- test k, which passes or not
abbrev pub test : ℕ → Bool → Test
test k b = record { number = k; passes = b }

-- 10, then 9
abbrev pub fresh_table : List ℕ → List ℕ → List Test
fresh_table plan net = test 10 (eqb (length net) net_length) ∷ test 9 (plan_shaped plan) ∷ []

-- 1 to 6, of a net in the form of this mark
abbrev pub step_table : Mark → List ℕ → ℕ → ℕ → ℕ → ℕ → List Test
step_table m l k a b c =
    let R = rule (view l) k a b c in
    test 1 (shaped_as m l) ∷ test 2 (action? k) ∷ test 3 R.operands ∷ test 4 R.enabled ∷ test 5 R.clock_room ∷ test 6 R.send_room ∷ []

-- 11, 12
abbrev pub script_table : List ℕ → List Test
script_table s = test 11 (eqb (length s % 4) 0) ∷ test 12 (leb (length s) longest_script) ∷ []

-- 1, 10, then the script's: a run by value has no tally lent, and passes 10
abbrev pub run_table : Mark → List ℕ → List ℕ → Bool → List Test
run_table m l s fits = test 1 (shaped_as m l) ∷ test 10 fits ∷ script_table s

-- 1 of what is read, 10 of what is written
abbrev pub convert_table : Mark → List ℕ → List ℕ → List Test
convert_table m l out = test 1 (shaped_as m l) ∷ test 10 (eqb (length out) net_length) ∷ []

-- 1, 7: "no group has exactly these name bytes"
abbrev pub find_table : List ℕ → List ℕ → List Test
find_table l w = test 1 (shaped l) ∷ test 7 (ltb (first_from (λ g. same_name ((view l).name g) w) 0 (view l).groups) (view l).groups) ∷ []

-- 1, 3, 10, 8
abbrev pub call_table : List ℕ → ℕ → ℕ → Bool → List Test
call_table l g c fits =
    test 1 (shaped l) ∷ test 3 (group? (view l) g && station? (view l) c) ∷ test 10 fits ∷ test 8 (on_tree (tree_of (view l) g) c) ∷ []

-- the bench program: 9, 11, 12
abbrev pub bench_table : List ℕ → List Test
bench_table input = test 9 (plan_shaped (plan_part input)) ∷ script_table (script_part input)
