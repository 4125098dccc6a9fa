-- Lists of which each element is a byte.
use mathlib.Core.List.{List, [], ◌∷◌, ◌++◌}
use Prim.Native.Nat.{ℕ, zero, suc}
use native.Mathlib.Omega.{arith}
use lib.ListN.{replicate}
use Rattle.bits.specs.Numbers.{Bytes, bytes}
use Rattle.bits.specs.Parts.{part}
use Rattle.bits.proofs.Numbers.{bytes-Bytes}
use Rattle.bits.proofs.Parts.{part-Bytes}
use Rattle.protocol.specs.Shaped.{none, both}
use Rattle.forms.specs.Cells.{cells, EachByte}

pub each_at : {l : List ℕ} → EachByte l → Bytes l
each_at none i = omega arith
each_at (both h hs) zero = h
each_at (both h hs) (suc i) = each_at hs i

pub each_of : (l : List ℕ) → Bytes l → EachByte l
each_of [] h = none
each_of (x ∷ l) h = both (h 0) (each_of l (λ i. h (suc i)))

pub each_append : {xs ys : List ℕ} → EachByte xs → EachByte ys → EachByte (xs ++ ys)
each_append none k = k
each_append (both h hs) k = both h (each_append hs k)

pub each-zero : (n : ℕ) → EachByte (replicate n 0)
each-zero zero = none
each-zero (suc n) = both {x = 0} (omega arith) (each-zero n)

pub each_number : (w n : ℕ) → EachByte (bytes w n)
each_number w n = each_of (bytes w n) (bytes-Bytes w n)

pub each_part : (w : ℕ) {l : List ℕ} → EachByte l → EachByte (part w l 0)
each_part w {l} h = each_of (part w l 0) (part-Bytes w l 0 (each_at h))

pub each-cell : (w n : ℕ) (f : ℕ → List ℕ) → ((i : ℕ) → EachByte (f i)) → EachByte (cells w n f)
unfolding cells
each-cell w zero f h = none
each-cell w (suc n) f h = each_append (each-cell w n f h) (each_part w (h n))
