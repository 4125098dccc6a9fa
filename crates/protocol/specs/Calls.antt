-- The reach of a call.
use Rattle.std.specs.Prelude.{Bool, cond, ◌&&◌, List, ◌++◌, ℕ, ◌-◌, eqb, length, replicate}
use Rattle.bits.specs.Masks.{has}
use Rattle.tree.specs.declared.Reach.{Reach}
use Rattle.tree.specs.Tree.{Tree, on_tree}
use Rattle.tree.specs.Reach.{reach}
use Rattle.tree.specs.Flood.{spread}
use Rattle.protocol.specs.Net.{Net, nil, most_stations, group?, station?}
use Rattle.protocol.specs.Steps.{or_else}

-- what the stations of net N say of each other in group g
unfoldable pub tree_of : Net → ℕ → Tree
tree_of N g = record {
  stations = N.stations;
  root = N.root g;
  parent = λ p. (N.entry g p).parent;
  lists = λ p j. has (N.entry g p).children j;
}

pub record Called : Type 0 where
  pub outcome : ℕ
  pub reached : ℕ
  pub copies : ℕ

-- 3 for a group or a station out of range, 10 for a lent list that is not of the stated size, 8 for a caller with "no agreed
-- chain to the root"
unfoldable pub call_outcome : Net → ℕ → ℕ → Bool → ℕ
call_outcome N g c fits = or_else (group? N g && station? N c) 3 (or_else fits 10 (or_else (on_tree (tree_of N g) c) 8 0))

-- "The answer gives the number reached and the copies; copies is the number of passings-on". A refusal gives zeros
unfoldable pub called : Net → ℕ → ℕ → Bool → Called
called N g c fits =
    let o = call_outcome N g c fits in
    cond (eqb o 0) (record { outcome = 0; reached = length (reach (tree_of N g)); copies = length (spread (tree_of N g) c) })
    (record { outcome = o; reached = 0; copies = 0 })

-- "Later entries hold 255 three times"
abbrev pub no_reach : Reach
no_reach = record { station = nil; parent = nil; depth = nil }

-- the reach list: "exactly 16 entries"
unfoldable pub reach_list : Net → ℕ → List Reach
reach_list N g = let l = reach (tree_of N g) in l ++ replicate (most_stations - length l) no_reach
