-- Something put at each place of a grid, in turn.
use Rattle.std.specs.Prelude.{ℕ, zero, suc}

-- at (i, 0), .., (i, m - 1)
unfoldable pub in_row : {A : Type 0} → (A → ℕ → ℕ → A) → A → ℕ → ℕ → A
in_row put x i zero = x
in_row put x i (suc m) = put (in_row put x i m) i m

-- and so in each row below r
unfoldable pub in_rows : {A : Type 0} → (A → ℕ → ℕ → A) → A → ℕ → ℕ → A
in_rows put x zero m = x
in_rows put x (suc r) m = in_row put (in_rows put x r m) r m
