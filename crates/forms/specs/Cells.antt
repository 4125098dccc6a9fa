-- Cells: bytes of one width one after the other, of which some are used.
use Rattle.std.specs.Prelude.{Bool, true, false, List, [], ◌++◌, ℕ, zero, suc, ◌<◌}
use Rattle.bits.specs.Parts.{part}
use Rattle.protocol.specs.Shaped.{All}

-- n cells of w bytes each, one after the other: cell i holds f i, and zeros where that is shorter
unfoldable pub cells : ℕ → ℕ → (ℕ → List ℕ) → List ℕ
cells w zero f = []
cells w (suc n) f = cells w n f ++ part w (f n) 0

-- what is not used is nothing, so that its cell is all zero
abbrev pub if_used : Bool → List ℕ → List ℕ
if_used true xs = xs
if_used false xs = []

-- each element is a byte
abbrev pub EachByte : List ℕ → Type 0
EachByte l = All (λ (x : ℕ). x < 256) l
