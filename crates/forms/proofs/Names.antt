-- Laws of the bytes of one name.
use mathlib.Core.Path.{◌≡◌, sym, ap, ◌∙◌}
use mathlib.Core.List.{List, ◌∷◌}
use Prim.Native.Nat.{ℕ, zero, suc, ◌≤◌, ◌<◌}
use native.Mathlib.Nat.{zero-add}
use native.Mathlib.Numerals.{one-add}
use native.Mathlib.Omega.{arith}
use lib.ListN.{length, get_or, take, drop, length-drop, get_or-eq_default}
use lib.Seq.{ext_get_or, length-take-le, get_or-take, get_or-drop}
use Rattle.bits.proofs.Cases.{by-lt}
use Rattle.bits.proofs.Parts.{length_part, get_or-part}
use Rattle.forms.specs.Plans.{name_of, name_bytes}

-- past the end of a name
pub past_end : (l : List ℕ) (x : ℕ) → length l ≤ x → get_or l x 0 ≡ 0
past_end l x h = get_or-eq_default l 0 h

pub name-zero : (n : List ℕ) → get_or (name_bytes n) 0 0 ≡ length n
unfolding name_bytes
name-zero n = get_or-part 17 (length n ∷ n) 0 0 (omega arith)

pub name-byte : (n : List ℕ) (x : ℕ) → x < 16 → get_or (name_bytes n) (suc x) 0 ≡ get_or n x 0
unfolding name_bytes
name-byte n x h = get_or-part 17 (length n ∷ n) 0 (suc x) (omega arith) ∙ ap (λ (k : ℕ). get_or (length n ∷ n) k 0) (zero-add (suc x))

pub length-name_bytes : (n : List ℕ) → length (name_bytes n) ≡ 17
unfolding name_bytes
length-name_bytes n = length_part 17 (length n ∷ n) 0

-- a name comes back from its bytes
pub name_back : (n : List ℕ) → length n ≤ 16 → name_of (name_bytes n) ≡ n
unfolding name_of
name_back n h =
    let len : length (take (get_or (name_bytes n) 0 0) (drop 1 (name_bytes n))) ≡ length n =
    length-take-le (get_or (name_bytes n) 0 0) (drop 1 (name_bytes n)) (simp length-drop (omega (arith, name-zero n, length-name_bytes n))) ∙ name-zero n in
    ext_get_or 0 _ n len (λ i k. let k' : i < length n = rw len at k in
    get_or-take (get_or (name_bytes n) 0 0) (drop 1 (name_bytes n)) i 0 (omega (arith, name-zero n)) ∙ get_or-drop 1 (name_bytes n) i 0
    ∙ ap (λ (m : ℕ). get_or (name_bytes n) m 0) (one-add i) ∙ name-byte n i (omega arith))

-- seventeen bytes whose padding is zero come back
pub name-form : (b : List ℕ) → length b ≡ 17 → get_or b 0 0 ≤ 16 → ((x : ℕ) → get_or b 0 0 < x → x < 17 → get_or b x 0 ≡ 0) → name_bytes (name_of b) ≡ b
name-form b n h z = ext_get_or 0 _ b (length-name_bytes (name_of b) ∙ sym n) (λ i k. at i (rw length-name_bytes at k))
  where
    long : length (name_of b) ≡ get_or b 0 0
    long = unfold name_of in length-take-le (get_or b 0 0) (drop 1 b) (simp length-drop (omega arith))

    inside : (x : ℕ) → x < 16 → get_or (name_of b) x 0 ≡ get_or b (suc x) 0
    inside x l = by-lt x (get_or b 0 0)
        (λ k. unfold name_of in get_or-take (get_or b 0 0) (drop 1 b) x 0 k ∙ get_or-drop 1 b x 0 ∙ ap (λ (m : ℕ). get_or b m 0) (one-add x))
        (λ k. past_end (name_of b) x (rw long k) ∙ sym (z (suc x) (omega arith) (omega arith)))

    at : (i : ℕ) → i < 17 → get_or (name_bytes (name_of b)) i 0 ≡ get_or b i 0
    at zero k = name-zero (name_of b) ∙ long
    at (suc x) k = name-byte (name_of b) x (omega arith) ∙ inside x (omega arith)
