-- Where a field of an entry is written.
use Rattle.std.specs.Prelude.{◌≡◌, ℕ, ◌+◌, ◌≤◌}
use Rattle.layout.specs.Layout.{entry_size, net_length}
use Rattle.layout.specs.declared.form.Mark.{Mark}
use Rattle.layout.specs.Marks.{stretch_at, in_stretch}
use Rattle.access.specs.declared.change.Field.{Field}

-- f is the stretch of group g, and in it the field o bytes into the entry of station p
pub record FieldIn (m : Mark) (g p o : ℕ) (f : Field) : Type 0 where
  pub starts : f.start ≡ stretch_at m g
  pub stands : f.at ≡ in_stretch m p + o
  pub fits : f.start + f.at + entry_size ≤ f.end + o
  pub inside : f.end ≤ net_length
