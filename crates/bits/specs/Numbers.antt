-- Big-endian numbers of any width.
use Rattle.std.specs.Prelude.{ℕ, zero, suc, ◌+◌, ◌*◌, ◌/◌, ◌%◌, ◌^◌, ◌<◌, List, [], ◌∷◌, get_or}

-- every element is a byte
abbrev pub Bytes : List ℕ → Type 0
Bytes l = (i : ℕ) → get_or l i 0 < 256

-- the number that is read when `a` has been read already and the bytes `bs` follow
unfoldable pub onto : ℕ → List ℕ → ℕ
onto a [] = a
onto a (b ∷ bs) = onto (a * 256 + b) bs

-- the number of a list of bytes
unfoldable pub number : List ℕ → ℕ
number bs = onto 0 bs

-- the `w` bytes of `n`
unfoldable pub bytes : ℕ → ℕ → List ℕ
bytes zero n = []
bytes (suc w) n = n / 256 ^ w % 256 ∷ bytes w n
