-- A test at each number below a bound.
use Rattle.std.specs.Prelude.{Bool, true, ◌&&◌, ◌||◌, not, ℕ, zero, suc}

-- P passes at every number below n
unfoldable pub all_below : ℕ → (ℕ → Bool) → Bool
all_below zero P = true
all_below (suc n) P = all_below n P && P n

infixr 25 ◌implies◌
-- where a passes, b does
abbrev pub ◌implies◌ : Bool → Bool → Bool
a implies b = not a || b
