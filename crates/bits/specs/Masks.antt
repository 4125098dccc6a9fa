-- Sets of small numbers as masks: `j` is in the set where bit `j` is 1.
use Rattle.std.specs.Prelude.{ℕ, zero, suc, ◌+◌, ◌-◌, ◌/◌, ◌%◌, ◌^◌, Bool, true, cond, not, ◌&&◌, ◌||◌, eqb}

-- `j` is in
unfoldable pub has : ℕ → ℕ → Bool
has m j = eqb (m / 2 ^ j % 2) 1

-- `j` is put in, and taken out
unfoldable pub with : ℕ → ℕ → ℕ
with m j = cond (has m j) m (m + 2 ^ j)

unfoldable pub without : ℕ → ℕ → ℕ
without m j = cond (has m j) (m - 2 ^ j) m

-- nothing is in but numbers below `w`
unfoldable pub below : ℕ → ℕ → Bool
below w m = eqb (m / 2 ^ w) 0

-- whatever is in `a`, of the numbers below `w`, is in `b`
unfoldable pub within : ℕ → ℕ → ℕ → Bool
within zero a b = true
within (suc w) a b = within w a b && (not (has a w) || has b w)
