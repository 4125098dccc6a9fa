-- A place: what the plan says where a thing stands.
use Rattle.std.specs.Prelude.{◌≡◌, true, ℕ, ◌≤◌, ◌<◌}
use Rattle.bits.specs.Masks.{has}
use Rattle.protocol.specs.Net.{most_stations, most_groups}

pub record Place : Type 0 where
  pub near : ℕ  -- the neighbours of its station
  pub root : ℕ  -- of its group
  pub stations : ℕ  -- how many there are
  pub groups : ℕ
  pub row : ℕ
  pub col : ℕ

-- a route or a channel: its row is its station
abbrev pub station_place : (nb : ℕ → ℕ) (n g i j : ℕ) → Place
station_place nb n g i j = record { near = nb i; root = 0; stations = n; groups = g; row = i; col = j }

-- an entry: its row is its group, its column its station
abbrev pub entry_place : (nb r : ℕ → ℕ) (n g i j : ℕ) → Place
entry_place nb r n g i j = record { near = nb j; root = r i; stations = n; groups = g; row = i; col = j }

-- what a well-shaped plan makes sure of
pub record PlanBounds (c : Place) : Type 0 where
  pub stations : c.stations ≤ most_stations
  pub groups : c.groups ≤ most_groups
  pub near : (x : ℕ) → has c.near x ≡ true → x < c.stations
