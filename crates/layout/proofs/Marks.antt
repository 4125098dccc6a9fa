-- In every form the stretch of a group's entries ends before the channels, and an entry in its stretch.
use Prim.Native.Nat.{ℕ, ◌+◌, ◌≤◌, ◌<◌}
use native.Mathlib.Omega.{arith}
use Rattle.protocol.specs.Net.{most_stations, most_groups}
use Rattle.layout.specs.declared.form.Mark.{Mark}
use Rattle.layout.specs.declared.form.Mark.TheVariants.{Saved, Working}
use Rattle.layout.specs.Layout.{entry_size, channels_at}
use Rattle.layout.specs.Marks.{stretch_at, stretch_size, in_stretch}

pub stretch-inside : (m : Mark) (g : ℕ) → g < most_groups → stretch_at m g + stretch_size m ≤ channels_at
stretch-inside Saved g h = omega arith
stretch-inside Working g h = omega arith

pub entry-inside : (m : Mark) (p : ℕ) → p < most_stations → in_stretch m p + entry_size ≤ stretch_size m
entry-inside Saved p h = omega arith
entry-inside Working p h = omega arith
