-- A part of a list, the number that stands there, and the list with a part replaced.
use Rattle.std.specs.Prelude.{◌≡◌, ℕ, zero, suc, ◌+◌, List, [], ◌∷◌, length, get_or}
use Rattle.std.proofs.lemmas.List.Edits.{sets}
use Rattle.bits.specs.Numbers.{number}

-- the `w` elements of `l` from index `i`; past the end they are 0
unfoldable pub part : ℕ → List ℕ → ℕ → List ℕ
part zero l i = []
part (suc w) l i = get_or l i 0 ∷ part w l (suc i)

-- the number of width `w` at index `i`
unfoldable pub number_at : ℕ → List ℕ → ℕ → ℕ
number_at w l i = number (part w l i)

-- `l` with the elements from index `i` on replaced by `vs`
unfoldable pub splice : List ℕ → ℕ → List ℕ → List ℕ
splice l i vs = sets l i vs

-- what a function leaves that puts `bs` into a lent buffer from index `i` on and answers the place after them: they stand there, and
-- nothing else changed
pub record Wrote (out out' : List ℕ) (i r : ℕ) (bs : List ℕ) : Type 0 where
  pub next : r ≡ i + length bs
  pub bytes : out' ≡ splice out i bs
