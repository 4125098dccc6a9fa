-- What a method leaves that adds to a text.
use Rattle.std.specs.Prelude.{◌≡◌, List, ◌++◌, ℕ, ◌≤◌, length}

-- `s` stands behind what stood there, and is no longer than `most`: by this a caller knows what room is left
pub record Added (most : ℕ) (old new s : List ℕ) : Type 0 where
  pub all : new ≡ old ++ s
  pub within : length s ≤ most
