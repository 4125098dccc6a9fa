-- Laws of big-endian numbers, for any width.
--     number_lt           a number of w bytes is below 256 ^ w
--     number-bytes        decode of encode
--     bytes-number        encode of decode
--     onto-append         a number of two widths is one number of both joined
use mathlib.Core.Path.{◌≡◌, refl, sym, ap, ap₂, ◌∙◌}
use mathlib.Core.List.{List, [], ◌∷◌, ◌++◌}
use Prim.Native.Nat.{ℕ, zero, suc, ◌+◌, ◌*◌, ◌/◌, ◌%◌, ◌^◌, ◌<◌}
use native.Mathlib.Nat.{pow-suc, div-one, mod-eq_of_lt, mod-one, mul-add-div_right, mul_comm}
use native.Mathlib.Omega.{arith}
use lib.Arith.{digits_lt, digits_div, mod-mul}
use lib.ListN.{length}
use Rattle.std.specs.Int.{bytes_high_first}
use Rattle.bits.specs.Numbers.{Bytes, onto, number, bytes}

pow256-pos : (w : ℕ) → 0 < 256 ^ w
pow256-pos zero = omega arith
pow256-pos (suc w) = rw pow-suc (let h = pow256-pos w in omega arith)

-- ---- the fold
pub onto-split : (a : ℕ) (bs : List ℕ) → onto a bs ≡ a * 256 ^ length bs + number bs
unfolding onto number
onto-split a [] = omega arith
onto-split a (b ∷ bs) =
    onto-split (a * 256 + b) bs
    ∙ (let h : onto (0 * 256 + b) bs ≡ (0 * 256 + b) * 256 ^ length bs + onto 0 bs = onto-split (0 * 256 + b) bs in
    rw h (rw pow-suc (omega arith)))

pub number-cons : (b : ℕ) (bs : List ℕ) → number (b ∷ bs) ≡ b * 256 ^ length bs + number bs
unfolding number onto
number-cons b bs = onto-split (0 * 256 + b) bs ∙ ap (λ (x : ℕ). x * 256 ^ length bs + number bs) (omega arith)

pub number_lt : (bs : List ℕ) → Bytes bs → number bs < 256 ^ length bs
unfolding number onto
number_lt [] h = omega arith
number_lt (b ∷ bs) h =
    rw (number-cons b bs, pow-suc, mul_comm (256 ^ length bs) 256)
    (digits_lt (h 0) (number_lt bs (λ i. h (suc i))))

-- ---- bytes
pub length-bytes : (w n : ℕ) → length (bytes w n) ≡ w
unfolding bytes
length-bytes zero n = refl
length-bytes (suc w) n = ap suc (length-bytes w n)

-- the bytes that the library gives, and the one byte of a byte
pub bytes-high_first : (w n : ℕ) → bytes_high_first w n ≡ bytes w n
unfolding bytes
bytes-high_first zero n = refl
bytes-high_first (suc zero) n = rw div-one
bytes-high_first (suc (suc w)) n = ap (λ (l : List ℕ). n / 256 ^ suc w % 256 ∷ l) (bytes-high_first (suc w) n)

pub bytes-one : (n : ℕ) → n < 256 → bytes 1 n ≡ n ∷ []
unfolding bytes
bytes-one n h = rw div-one (ap (λ (b : ℕ). b ∷ []) (mod-eq_of_lt h))

pub bytes-Bytes : (w n : ℕ) → Bytes (bytes w n)
unfolding bytes
bytes-Bytes zero n i = omega arith
bytes-Bytes (suc w) n zero = omega arith
bytes-Bytes (suc w) n (suc i) = bytes-Bytes w n i

pub number-bytes-mod : (w n : ℕ) → number (bytes w n) ≡ n % 256 ^ w
unfolding bytes number onto
number-bytes-mod zero n = sym (mod-one n)
number-bytes-mod (suc w) n =
    number-cons (n / 256 ^ w % 256) (bytes w n)
    ∙ rw (length-bytes w n, number-bytes-mod w n, pow-suc, mul_comm (256 ^ w) 256)
    (sym (mod-mul n (omega arith) (pow256-pos w)))

pub number-bytes : (w n : ℕ) → n < 256 ^ w → number (bytes w n) ≡ n
number-bytes w n h = number-bytes-mod w n ∙ mod-eq_of_lt h

bytes_high : (w q r : ℕ) → bytes w (q * 256 ^ w + r) ≡ bytes w r
unfolding bytes
bytes_high zero q r = refl
bytes_high (suc w) q r =
    let e : q * 256 ^ suc w + r ≡ q * 256 * 256 ^ w + r = rw pow-suc (omega arith) in
    rw e
    (ap₂ ◌∷◌
    (ap (λ (x : ℕ). x % 256) (mul-add-div_right (pow256-pos w) (q * 256) r) ∙ omega arith)
    (bytes_high w (q * 256) r))

pub bytes-number : (bs : List ℕ) → Bytes bs → bytes (length bs) (number bs) ≡ bs
unfolding bytes
bytes-number [] h = refl
bytes-number (b ∷ bs) h =
    rw (number-cons b bs)
    (ap₂ ◌∷◌
    (ap (λ (x : ℕ). x % 256) (digits_div b (number_lt bs (λ i. h (suc i)))) ∙ mod-eq_of_lt (h 0))
    (bytes_high (length bs) b (number bs) ∙ bytes-number bs (λ i. h (suc i))))

-- ---- two widths
pub onto-append : (a : ℕ) (xs ys : List ℕ) → onto a (xs ++ ys) ≡ onto (onto a xs) ys
unfolding onto
onto-append a [] ys = refl
onto-append a (x ∷ xs) ys = onto-append (a * 256 + x) xs ys
