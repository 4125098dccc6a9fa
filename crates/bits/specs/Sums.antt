-- Sums over a range of numbers.
use Rattle.std.specs.Prelude.{Bool, true, false, ℕ, zero, suc, ◌+◌}

-- f j + .. + f (j + k - 1)
unfoldable pub over : (ℕ → ℕ) → ℕ → ℕ → ℕ
over f j zero = 0
over f j (suc k) = f j + over f (suc j) k

-- over the numbers below n
abbrev pub sum_below : ℕ → (ℕ → ℕ) → ℕ
sum_below n f = over f 0 n

-- 1 for true: what a test adds to a count
abbrev pub bit : Bool → ℕ
bit true = 1
bit false = 0
