-- The bytes of a net, in each form: the table of document 01, read from the other side.
use Rattle.std.specs.Prelude.{List, [], ◌∷◌, ◌++◌, ℕ}
use Rattle.bits.specs.Numbers.{bytes}
use Rattle.protocol.specs.declared.Entry.{Entry}
use Rattle.protocol.specs.Net.{Net, most_stations, most_groups}
use Rattle.protocol.specs.Fresh.{plan_of}
use Rattle.layout.specs.Layout.{entry_size, channel_size, channel_row_size}
use Rattle.layout.specs.declared.form.Mark.{Mark}
use Rattle.layout.specs.declared.form.Mark.TheVariants.{Saved, Working}
use Rattle.layout.specs.Marks.{mark_of, by_group, by_station}
use Rattle.layout.specs.Bounded.{used}
use Rattle.channel.specs.Messages.{channel_bytes}
use Rattle.plan.specs.Planned.{net_header}
use Rattle.forms.specs.Cells.{cells, if_used}
use Rattle.forms.specs.Plans.{plan_bytes}

unfoldable pub entry_bytes : Entry → List ℕ
entry_bytes e = (e.parent ∷ e.tentative ∷ e.member ∷ 0 ∷ []) ++ bytes 4 e.clock ++ bytes 2 e.children ++ bytes 2 e.waiting

-- cells of group and station as they stand in memory: "by group, then station", or "by station, then group"
abbrev pub entries_laid : Mark → (ℕ → ℕ → List ℕ) → List ℕ
entries_laid Saved f = cells (by_group Saved) most_groups (λ g. cells entry_size most_stations (f g))
entries_laid Working f = cells (by_station Working) most_stations (λ p. cells entry_size most_groups (λ g. f g p))

module _ (N : Net) where
  abbrev pub route_cell : ℕ → ℕ → List ℕ
  route_cell p d = if_used (used p N.stations d N.stations) (N.route p d ∷ [])

  abbrev pub entry_cell : ℕ → ℕ → List ℕ
  entry_cell g p = if_used (used g N.groups p N.stations) (entry_bytes (N.entry g p))

  abbrev pub channel_cell : ℕ → ℕ → List ℕ
  channel_cell s d = if_used (used s N.stations d N.stations) (channel_bytes (N.channel s d))

unfoldable pub bytes_as : Mark → Net → List ℕ
bytes_as m N =
    plan_bytes (plan_of N) (net_header m)
    ++ (cells most_stations most_stations (λ p. cells 1 most_stations (route_cell N p))
    ++ (entries_laid m (entry_cell N)
    ++ cells channel_row_size most_stations (λ s. cells channel_size most_stations (channel_cell N s))))

-- the net of document 01 is the saved form
abbrev pub bytes_of : Net → List ℕ
bytes_of N = bytes_as Saved N

-- a net in the form of the bytes l
abbrev pub bytes_like : List ℕ → Net → List ℕ
bytes_like l N = bytes_as (mark_of l) N
