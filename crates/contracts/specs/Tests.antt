-- A refusal table: tests in the order in which they are made, each with the number that is given when it fails.
use Rattle.std.specs.Prelude.{◌≡◌, Bool, true, false, List, [], ◌∷◌, ℕ}

pub record Test : Type 0 where
  pub number : ℕ
  pub passes : Bool

-- an outcome is given by a table: a number in its stated case only, where its test fails and every test before it passed, and 0
-- where all pass
pub data Given : List Test → ℕ → Type 0 where
  accepted : Given [] 0
  fails : {t : Test} {ts : List Test} → t.passes ≡ false → Given (t ∷ ts) t.number
  goes_on : {t : Test} {ts : List Test} {o : ℕ} → t.passes ≡ true → Given ts o → Given (t ∷ ts) o
