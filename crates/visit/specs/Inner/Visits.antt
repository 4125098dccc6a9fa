-- The bytes of a visit, and what the two functions that call each other ask.
use Rattle.std.specs.Prelude.{◌≡◌, List, ℕ, ◌+◌, ◌-◌, ◌≤◌, ◌<◌, length}
use Rattle.tree.specs.Tree.{Tree, agreed}
use Rattle.tree.specs.Reach.{picked, visits, visit}
use Rattle.protocol.specs.Net.{most_stations}
use Rattle.net.specs.View.{view}
use Rattle.visit.specs.Lists.{reach_bytes, list_length}

-- the bytes of the visit of station p, and of the visit of its list of agreed children from j on
unfoldable pub station_bytes : Tree → ℕ → ℕ → ℕ → List ℕ
station_bytes t allowance depth p = reach_bytes (visit t allowance depth p)

unfoldable pub children_bytes : Tree → ℕ → ℕ → ℕ → ℕ → List ℕ
children_bytes t allowance depth p j = reach_bytes (visits (visit t allowance depth) (picked (agreed t p) j (t.stations - j)))

-- what both visits ask: a group and a station of the net, and room for the bytes bs from `at` on
pub record MayVisit (net out : List ℕ) (g p depth allowance at : ℕ) (bs : List ℕ) : Type 0 where
  pub group : g < (view net).groups
  pub station : p < (view net).stations
  pub long : length out ≡ list_length
  pub deep : depth + allowance ≤ most_stations
  pub room : at + length bs ≤ list_length
