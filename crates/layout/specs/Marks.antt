-- A form of a net's bytes: its mark in byte 7, and where the station entries stand (document 02, No. 8). Everything else stands where it
-- stands in every form.
use Rattle.std.specs.Prelude.{cond, List, ℕ, ◌+◌, ◌*◌, ◌-◌, eqb}
use Rattle.protocol.specs.Net.{most_stations, most_groups}
use Rattle.layout.specs.declared.form.Mark.{Mark}
use Rattle.layout.specs.declared.form.Mark.TheVariants.{Saved, Working}
use Rattle.layout.specs.Layout.{byte, entries_at, entry_size}

-- 7: "zero" in the net of document 01, which is the saved form; one in the working form
abbrev pub mark_byte : Mark → ℕ
mark_byte Saved = 0
mark_byte Working = 1

-- the form that byte 7 says
unfoldable pub mark_of : List ℕ → Mark
mark_of l = cond (eqb (byte l 7) (mark_byte Working)) Working Saved

-- ---- "by group, then station"; and "by station, then group"
-- how far it is from a group's entry to the next group's
abbrev pub by_group : Mark → ℕ
by_group Saved = most_stations * entry_size
by_group Working = entry_size

-- and from a station's to the next station's
abbrev pub by_station : Mark → ℕ
by_station Saved = entry_size
by_station Working = most_groups * entry_size

-- the stretch of a group's entries, from its first to its last
abbrev pub stretch_at : Mark → ℕ → ℕ
stretch_at m g = entries_at + by_group m * g

abbrev pub stretch_size : Mark → ℕ
stretch_size m = by_station m * (most_stations - 1) + entry_size

abbrev pub in_stretch : Mark → ℕ → ℕ
in_stretch m p = by_station m * p

-- the entry of group g and station p
abbrev pub entry_at : Mark → ℕ → ℕ → ℕ
entry_at m g p = stretch_at m g + in_stretch m p
