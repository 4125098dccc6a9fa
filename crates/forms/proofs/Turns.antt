-- One more place of a row, and one more row.
use mathlib.Core.Path.{◌≡◌, ◌∙◌}
use Prim.Native.Nat.{ℕ, ◌+◌}
use native.Mathlib.Numerals.{add-one}
use Rattle.forms.specs.Folds.{in_row, in_rows}

module _ {A : Type 0} (put : A → ℕ → ℕ → A) where
  pub row-turn : (x s : A) (i m : ℕ) → s ≡ in_row put x i m → put s i m ≡ in_row put x i (m + 1)
  unfolding in_row
  row-turn x s i m e = rw (add-one, e)

  pub rows-turn : (x s t : A) (r m : ℕ) → s ≡ in_rows put x r m → t ≡ in_row put s r m → t ≡ in_rows put x (r + 1) m
  unfolding in_rows
  rows-turn x s t r m e f = f ∙ rw (add-one, e)
