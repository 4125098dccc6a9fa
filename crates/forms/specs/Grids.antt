-- A grid of cells among bytes: where cell (i, j) stands, the cells laid one after the other, and the test of a grid of which the first m rows
-- and n columns are used; and the laws that these keep. (proofs/Grids.antt makes grids, for any widths.)
use Rattle.std.specs.Prelude.{◌≡◌, ◌⊎◌, ◌≢◌, Bool, true, List, ℕ, ◌+◌, ◌≤◌, ◌<◌, length}
use Rattle.bits.specs.Parts.{part}
use Rattle.layout.specs.Layout.{byte}
use Rattle.forms.specs.Cells.{EachByte}

-- each cell stands between `from` and `to`, no two meet, and `lay` has them as they stand in memory
pub record Laid (rows cols : ℕ) (at : ℕ → ℕ → ℕ) (width from to : ℕ) (lay : (ℕ → ℕ → List ℕ) → List ℕ) : Type 0 where
  pub inside : (i j : ℕ) → i < rows → j < cols → (from ≤ at i j) × (at i j + width ≤ to)
  pub apart : (i j x y : ℕ) → i < rows → j < cols → x < rows → y < cols → (x ≢ i) ⊎ (y ≢ j) → (at x y + width ≤ at i j) ⊎ (at i j + width ≤ at x y)
  pub long : (f : ℕ → ℕ → List ℕ) → from + length (lay f) ≡ to
  pub cell : (f : ℕ → ℕ → List ℕ) (i j k : ℕ) → i < rows → j < cols → at i j ≡ from + k → part width (lay f) k ≡ part width (f i j) 0
  pub whole : (f : ℕ → ℕ → List ℕ) (l : List ℕ) → ((i j : ℕ) → i < rows → j < cols → part width l (at i j) ≡ part width (f i j) 0)
      → (n : ℕ) → from + n ≡ to → lay f ≡ part n l from
  pub bytes : (f : ℕ → ℕ → List ℕ) → ((i j : ℕ) → EachByte (f i j)) → EachByte (lay f)

-- P passes at each of the first m rows and n columns, and every byte of the other cells is zero
pub record Passes (rows cols : ℕ) (at : ℕ → ℕ → ℕ) (width : ℕ) (pass : List ℕ → (m n : ℕ) → (ℕ → ℕ → Bool) → Bool) : Type 0 where
  pub used : (l : List ℕ) (m n : ℕ) (P : ℕ → ℕ → Bool) → m ≤ rows → n ≤ cols → pass l m n P ≡ true → (i j : ℕ) → i < m → j < n → P i j ≡ true
  pub rest : (l : List ℕ) (m n : ℕ) (P : ℕ → ℕ → Bool) → pass l m n P ≡ true
      → (i j x : ℕ) → i < rows → j < cols → x < width → (m ≤ i) ⊎ (n ≤ j) → byte l (at i j + x) ≡ 0
  pub both : (l : List ℕ) (m n : ℕ) (P : ℕ → ℕ → Bool) → m ≤ rows → n ≤ cols → ((i j : ℕ) → i < m → j < n → P i j ≡ true)
      → ((i j x : ℕ) → i < rows → j < cols → x < width → (m ≤ i) ⊎ (n ≤ j) → byte l (at i j + x) ≡ 0) → pass l m n P ≡ true

pub record Grid (rows cols : ℕ) : Type 0 where
  pub at : ℕ → ℕ → ℕ
  pub width : ℕ
  pub from : ℕ
  pub to : ℕ
  pub lay : (ℕ → ℕ → List ℕ) → List ℕ
  pub pass : List ℕ → (m n : ℕ) → (ℕ → ℕ → Bool) → Bool
  pub laid : Laid rows cols at width from to lay
  pub passes : Passes rows cols at width pass
