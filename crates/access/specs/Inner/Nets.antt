-- Bytes that are a net's, in the form that they are in: what every function that reads or changes one asks.
use Rattle.std.specs.Prelude.{◌≡◌, true, List, ℕ, ◌≤◌, ◌<◌, length}
use Rattle.protocol.specs.declared.Entry.{Entry}
use Rattle.protocol.specs.Net.{Net, most_stations, most_groups, set_entry}
use Rattle.layout.specs.Layout.{net_length, stations, groups}
use Rattle.layout.specs.declared.form.Mark.{Mark}
use Rattle.layout.specs.Marks.{mark_of}
use Rattle.shape.specs.Shape.{shaped_as}
use Rattle.net.specs.View.{view}
use Rattle.net.specs.Encode.{bytes_as}

-- the first field says it all; the others follow from it, and are here for the callers' arithmetic
pub record IsNet (l : List ℕ) : Type 0 where
  pub shape : shaped_as (mark_of l) l ≡ true
  pub long : length l ≡ net_length
  pub stations_shown : (view l).stations ≡ stations l
  pub groups_shown : (view l).groups ≡ groups l
  pub stations_most : (view l).stations ≤ most_stations
  pub groups_most : (view l).groups ≤ most_groups

-- of whatever net l are the bytes, in the form of m, l' are those of it with the entry of group g and station p made into another
abbrev pub EntryMade : (m : Mark) (l l' : List ℕ) → (g p : ℕ) → (Entry → Entry) → Type 0
EntryMade m l l' g p f = (N : Net) → N.stations ≤ most_stations → N.groups ≤ most_groups → g < N.groups → p < N.stations → l ≡ bytes_as m N
    → l' ≡ bytes_as m (set_entry N g p (f (N.entry g p)))
