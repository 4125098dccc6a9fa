-- Puts one after the other.
--     within_none, _then_         nothing put; one put, and another at the place that the first answers
--     within_of, within-as        with the room said; the same text, said otherwise
--     some-put, none-put          whether anything was put
--     dash-after                  a dash if nothing was put
--     row_more, row-all           one text more in a row, and all of them
use Rattle.std.proofs.Common.{◌≡◌, ℕ, ◌+◌, ◌*◌, ◌≤◌, Bool, not, List, [], ◌∷◌, ◌++◌, length, eqb, ltb, refl, ap, ◌∙◌, subst, arith, add-one}
use Prim.Native.Char.{code}
use native.Mathlib.Nat.{mul-suc}
use borrow.Author.Tests.{lt-ltb, le-ltb, eq-eqb, ne_eqb}
use Rattle.bits.specs.Parts.{Wrote}
use Rattle.bits.proofs.Parts.{length-splice, wrote_none, wrote_then}
use Rattle.text.specs.Text.{some, row, byte_if, or_dash}
use Rattle.text.specs.Inner.Within.{WroteWithin}

pub within_of : {o o' : List ℕ} {i r k : ℕ} {xs : List ℕ} → Wrote o o' i r xs → r ≤ i + k → WroteWithin k o o' i r xs
within_of {o} {o'} {i} {r} {k} {xs} W h = record { wrote = W; within = h; long = ap length W.bytes ∙ length-splice o i xs }

pub within_none : (k : ℕ) (o : List ℕ) (i : ℕ) → WroteWithin k o o i i []
within_none k o i = record { wrote = wrote_none o i; within = omega arith; long = refl }

infixl 65 ◌then◌
pub ◌then◌ : {o o' o'' : List ℕ} {i r r' j k : ℕ} {xs ys : List ℕ} → WroteWithin j o o' i r xs → WroteWithin k o' o'' r r' ys
    → WroteWithin (j + k) o o'' i r' (xs ++ ys)
W then X = record { wrote = wrote_then W.wrote X.wrote; within = omega arith; long = X.long ∙ W.long }

pub within-as : {o o' : List ℕ} {i r k : ℕ} {xs ys : List ℕ} → xs ≡ ys → WroteWithin k o o' i r xs → WroteWithin k o o' i r ys
within-as {o} {o'} {i} {r} {k} e W = subst (λ (zs : List ℕ). WroteWithin k o o' i r zs) e W

-- ---- the code asks whether anything stands there by asking whether the place has moved
some-put : (start at : ℕ) (xs : List ℕ) → at ≡ start + length xs → ltb start at ≡ some xs
unfolding some
some-put start at [] e = le-ltb start at (omega arith)
some-put start at (b ∷ bs) e = lt-ltb start at (omega arith)

none-put : (start at : ℕ) (xs : List ℕ) → at ≡ start + length xs → eqb at start ≡ not (some xs)
unfolding some
none-put start at [] e = eq-eqb at start (omega arith)
none-put start at (b ∷ bs) e = ne_eqb at start (λ i. omega arith)

pub dash-after : {o o' o'' : List ℕ} {start at r k : ℕ} {xs : List ℕ} → WroteWithin k o o' start at xs
    → WroteWithin 1 o' o'' at r (byte_if (eqb at start) (code "-")) → WroteWithin (k + 1) o o'' start r (or_dash xs)
dash-after {start = start} {at = at} {xs = xs} W X =
    W then within-as (ap (λ (t : Bool). byte_if t (code "-")) (none-put start at xs W.wrote.next)) X

-- one text more in a row, where k bytes are enough for each
pub row_more : {o o' o'' : List ℕ} {at r r' k : ℕ} (i : ℕ) (f : ℕ → Bool → List ℕ) → WroteWithin (k * i) o o' at r (row i f)
    → WroteWithin k o' o'' r r' (f i (ltb at r)) → WroteWithin (k * (i + 1)) o o'' at r' (row (i + 1) f)
unfolding row
row_more {at = at} {r = r} i f W X =
    rw (add-one, mul-suc) (W then within-as (ap (f i) (some-put at r (row i f) W.wrote.next)) X)

-- the row is done, and there is room for it
pub row-all : {o o' : List ℕ} {at r j k : ℕ} (i n : ℕ) (f : ℕ → Bool → List ℕ) → i ≡ n → j ≤ k → WroteWithin j o o' at r (row i f)
    → WroteWithin k o o' at r (row n f)
row-all i n f e h W = within-as (ap (λ (m : ℕ). row m f) e) (within_of W.wrote (omega arith))
