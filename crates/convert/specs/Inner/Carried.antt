-- The bytes on the way to another form, as the code carries them: proofs/Carried.antt shows that they come out as the net's in that form.
use Rattle.std.specs.Prelude.{List, [], ◌∷◌, ℕ}
use Rattle.bits.specs.Parts.{part, splice}
use Rattle.protocol.specs.Net.{most_groups, most_stations}
use Rattle.layout.specs.Layout.{entry_size}
use Rattle.layout.specs.declared.form.Mark.{Mark}
use Rattle.layout.specs.Marks.{mark_byte, entry_at}
use Rattle.forms.specs.Folds.{in_rows}

module _ (l : List ℕ) (m n : Mark) where
  unfoldable pub entry_carried : List ℕ → ℕ → ℕ → List ℕ
  entry_carried x g p = splice x (entry_at n g p) (part entry_size l (entry_at m g p))

  unfoldable pub remarked : List ℕ
  remarked = splice l 7 (mark_byte n ∷ [])

  unfoldable pub carried : List ℕ
  carried = in_rows entry_carried remarked most_groups most_stations
