-- Demand 3, over the rules: what holds of a net after any steps in any order, and of any step.
use Rattle.std.specs.Prelude.{◌≡◌, ◌≢◌, true, ℕ, ◌≤◌, ◌<◌}
use Rattle.tree.specs.Tree.{Chain}
use Rattle.protocol.specs.Net.{Net, nil, request, reply}
use Rattle.protocol.specs.Entries.{joins, count_of}
use Rattle.protocol.specs.Calls.{tree_of}

-- station p reaches the root of group g in fewer hops than there are stations, and every parent on the way lists the one below: an
-- agreed chain leads to the root
pub record Reaches (N : Net) (g p : ℕ) : Type 0 where
  pub hops : ℕ
  pub fewer : hops < N.stations
  pub chain : Chain (tree_of N g) p hops

pub record Demand3 (N : Net) : Type 0 where
  pub reaches : (g p : ℕ) → g < N.groups → (N.entry g p).parent ≢ nil → Reaches N g p
  -- no channel holds more than one request and one reply of a group
  pub one_request : (g s d : ℕ) → g < N.groups → count_of request g (N.channel s d) ≤ 1
  pub one_reply : (g s d : ℕ) → g < N.groups → count_of reply g (N.channel s d) ≤ 1

-- a station with a parent keeps one while it is a member or has a child: from net N to net M
abbrev pub KeepsParents : Net → Net → Type 0
KeepsParents N M = (g p : ℕ) → (N.entry g p).parent ≢ nil → joins (M.entry g p) ≡ true → (M.entry g p).parent ≢ nil
