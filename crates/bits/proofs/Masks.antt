-- Laws of masks, for any width: each by induction on the bit's number, by the step from m to m / 2.
--     with-hit, with-miss, without-hit, without-miss    what is in afterwards
--     has-ext                                           two masks are equal where they hold the same
--     or-with, and-without, one_shl, and-within         what the code's `|`, `&` and `<<` do
use mathlib.Core.Path.{◌≡◌, refl, sym, ap, subst⁻¹, ◌∙◌}
use mathlib.Core.Bool.{Bool, true, false, cond}
use mathlib.Core.Logic.{◌≢◌}
use Prim.Native.Nat.{ℕ, zero, suc, ◌+◌, ◌-◌, ◌*◌, ◌/◌, ◌%◌, ◌^◌, ◌≤◌, ◌<◌, suc-le-suc, min}
use native.Mathlib.Nat.{div-div-eq-div-mul, div-one, lt-div-mul-add, mod-eq_of_lt}
use native.Mathlib.Omega.{arith}
use borrow.Author.Tests.{eq-eqb, ne_eqb, eqb-true, eqb-false}
use lib.Dec.{eqb}
use lib.Arith.{lt-one}
use lib.Bits.{bit_or, or_step, or_zero_r, bit_and, and_step, and_mask, and_shr, and_zero_l}
use lib.Pow.{shl_exact, shr-shr, pow_mono}
use Rattle.bits.specs.Masks.{has, with, without, below, within}
use Rattle.bits.proofs.Cases.{by_bool, by-eq, by-lt, is_false, same_test, suppose, supposed, and_l, and_r, and_both}

-- ---- the steps
pub has-low : (m : ℕ) → has m 0 ≡ eqb (m % 2) 1
unfolding has
has-low m = ap (λ (x : ℕ). eqb (x % 2) 1) (div-one m)

pub has-suc : (m j : ℕ) → has m (suc j) ≡ has (m / 2) j
unfolding has
has-suc m j = ap (λ (x : ℕ). eqb (x % 2) 1) (sym (div-div-eq-div-mul m 2 (2 ^ j) ∙ ap (λ (x : ℕ). m / x) (omega arith)))

-- a bit that is in is worth its power
pub has-le : (m j : ℕ) → has m j ≡ true → 2 ^ j ≤ m
has-le m zero h = let e = eqb-true (m % 2) 1 (sym (has-low m) ∙ h) in omega arith
has-le m (suc j) h = let e = has-le (m / 2) j (sym (has-suc m j) ∙ h) in omega arith

with-zero : (m : ℕ) → with m 0 ≡ m / 2 * 2 + 1
unfolding with
with-zero m = go (has m 0) refl
  where
    go : (b : Bool) → has m 0 ≡ b → cond b m (m + 1) ≡ m / 2 * 2 + 1
    go true e = let f = eqb-true (m % 2) 1 (sym (has-low m) ∙ e) in omega arith
    go false e = let f = eqb-false (m % 2) 1 (sym (has-low m) ∙ e) in omega arith

with-suc : (m j : ℕ) → with m (suc j) ≡ with (m / 2) j * 2 + m % 2
unfolding with
with-suc m j = rw (has-suc m j) (go (has (m / 2) j))
  where
    go : (b : Bool) → cond b m (m + 2 ^ suc j) ≡ cond b (m / 2) (m / 2 + 2 ^ j) * 2 + m % 2
    go true = omega arith
    go false = omega arith

without-zero : (m : ℕ) → without m 0 ≡ m / 2 * 2
unfolding without
without-zero m = go (has m 0) refl
  where
    go : (b : Bool) → has m 0 ≡ b → cond b (m - 1) m ≡ m / 2 * 2
    go true e = let f = eqb-true (m % 2) 1 (sym (has-low m) ∙ e) in omega arith
    go false e = let f = eqb-false (m % 2) 1 (sym (has-low m) ∙ e) in omega arith

without-suc : (m j : ℕ) → without m (suc j) ≡ without (m / 2) j * 2 + m % 2
unfolding without
without-suc m j = rw (has-suc m j) (go (has (m / 2) j) refl)
  where
    go : (b : Bool) → has (m / 2) j ≡ b → cond b (m - 2 ^ suc j) m ≡ cond b (m / 2 - 2 ^ j) (m / 2) * 2 + m % 2
    go true e = let f = has-le (m / 2) j e in omega arith
    go false e = omega arith

half : (a r : ℕ) → r < 2 → (a * 2 + r) / 2 ≡ a
half a r h = omega arith

low : (a m : ℕ) → (a * 2 + m % 2) % 2 ≡ m % 2
low a m = omega arith

-- ---- what is in afterwards
pub with-hit : (m j : ℕ) → has (with m j) j ≡ true
with-hit m zero = rw with-zero (has-low _ ∙ eq-eqb ((m / 2 * 2 + 1) % 2) 1 (omega arith))
with-hit m (suc j) = rw with-suc (has-suc _ j ∙ ap (λ (x : ℕ). has x j) (half _ _ (omega arith)) ∙ with-hit (m / 2) j)

pub with-miss : (m j k : ℕ) → k ≢ j → has (with m j) k ≡ has m k
with-miss m zero zero h = absurd (h refl)
with-miss m zero (suc k) h = rw with-zero (has-suc _ k ∙ ap (λ (x : ℕ). has x k) (half _ _ (omega arith)) ∙ sym (has-suc m k))
with-miss m (suc j) zero h = rw with-suc (has-low _ ∙ ap (λ (x : ℕ). eqb x 1) (low _ m) ∙ sym (has-low m))
with-miss m (suc j) (suc k) h =
    rw with-suc
    (has-suc _ k ∙ ap (λ (x : ℕ). has x k) (half _ _ (omega arith)) ∙ with-miss (m / 2) j k (λ e. h (ap suc e)) ∙ sym (has-suc m k))

pub without-hit : (m j : ℕ) → has (without m j) j ≡ false
without-hit m zero = rw without-zero (has-low _ ∙ ne_eqb (m / 2 * 2 % 2) 1 (omega arith))
without-hit m (suc j) = rw without-suc (has-suc _ j ∙ ap (λ (x : ℕ). has x j) (half _ _ (omega arith)) ∙ without-hit (m / 2) j)

pub without-miss : (m j k : ℕ) → k ≢ j → has (without m j) k ≡ has m k
without-miss m zero zero h = absurd (h refl)
without-miss m zero (suc k) h = rw without-zero (has-suc _ k ∙ ap (λ (x : ℕ). has x k) (omega arith) ∙ sym (has-suc m k))
without-miss m (suc j) zero h = rw without-suc (has-low _ ∙ ap (λ (x : ℕ). eqb x 1) (low _ m) ∙ sym (has-low m))
without-miss m (suc j) (suc k) h =
    rw without-suc
    (has-suc _ k ∙ ap (λ (x : ℕ). has x k) (half _ _ (omega arith)) ∙ without-miss (m / 2) j k (λ e. h (ap suc e)) ∙ sym (has-suc m k))

pub has-zero : (j : ℕ) → has 0 j ≡ false
has-zero zero = has-low 0
has-zero (suc j) = has-suc 0 j ∙ has-zero j

-- ---- two masks are equal where they hold the same
bit-eq : (a b : ℕ) → eqb (a % 2) 1 ≡ eqb (b % 2) 1 → a % 2 ≡ b % 2
bit-eq a b e = go (eqb (b % 2) 1) refl
  where
    go : (t : Bool) → eqb (b % 2) 1 ≡ t → a % 2 ≡ b % 2
    go true f = let x = eqb-true (b % 2) 1 f in let y = eqb-true (a % 2) 1 (e ∙ f) in omega arith
    go false f = let x = eqb-false (b % 2) 1 f in let y = eqb-false (a % 2) 1 (e ∙ f) in omega arith

pub has-ext : (w a b : ℕ) → a < 2 ^ w → b < 2 ^ w → ((j : ℕ) → j < w → has a j ≡ has b j) → a ≡ b
has-ext zero a b ha hb h = omega arith
has-ext (suc w) a b ha hb h =
    let lo : a % 2 ≡ b % 2 = bit-eq a b (sym (has-low a) ∙ h 0 (omega arith) ∙ has-low b) in
    let high : a / 2 ≡ b / 2 = has-ext w (a / 2) (b / 2) (omega arith) (omega arith) (λ j k. sym (has-suc a j) ∙ h (suc j) (omega arith) ∙ has-suc b j) in
    omega arith

-- ---- the bit operator
pub or-with : (m j : ℕ) → bit_or m (2 ^ j) ≡ with m j
or-with m zero = rw with-zero (or_step m 1 ∙ (let e : bit_or (m / 2) 0 ≡ m / 2 = or_zero_r (m / 2) in rw e (omega arith)))
or-with m (suc j) =
    let h : 2 ^ suc j / 2 ≡ 2 ^ j = omega arith in
    rw with-suc (or_step m (2 ^ suc j) ∙ rw (h, or-with (m / 2) j) (omega arith))

-- all that is in but j
pub and-without : (w m j : ℕ) → j < w → m < 2 ^ w → bit_and m (2 ^ w - 1 - 2 ^ j) ≡ without m j
and-without zero m j h l = absurd (omega arith)
and-without (suc w) m zero h l =
    let b : ℕ = 2 ^ suc w - 1 - 2 ^ 0 in
    let half : b / 2 ≡ 2 ^ w - 1 = omega arith in
    let rest : bit_and (m / 2) (b / 2) ≡ m / 2 = rw half (and_mask (m / 2) w ∙ mod-eq_of_lt (omega arith)) in
    rw without-zero (and_step m b ∙ rw rest (omega arith))
and-without (suc w) m (suc j) h l =
    let b : ℕ = 2 ^ suc w - 1 - 2 ^ suc j in
    let fits : 2 ^ suc j ≤ 2 ^ w = pow_mono (omega arith) in
    let half : b / 2 ≡ 2 ^ w - 1 - 2 ^ j = omega arith in
    let rest : bit_and (m / 2) (b / 2) ≡ without (m / 2) j = rw half (and-without w (m / 2) j (omega arith) (omega arith)) in
    rw without-suc (and_step m b ∙ rw rest (omega arith))

-- ---- what the code's `1 << j` is, at any width
pub one_shl : (w j : ℕ) → j < w → 1 * 2 ^ j % 2 ^ w ≡ 2 ^ j
one_shl w j h = shl_exact {a = 1} 1 j w (omega arith) (omega arith) ∙ omega arith

-- ---- by cases
pub with-keeps : (m j k : ℕ) → has m k ≡ true → has (with m j) k ≡ true
with-keeps m j k t = by-eq k j (λ e. rw e (with-hit m j)) (λ n. with-miss m j k n ∙ t)

-- ---- a mask that fits w bits has numbers below w only
shifted : (m w j : ℕ) → has (m / 2 ^ w) j ≡ has m (w + j)
unfolding has
shifted m w j = ap (λ (x : ℕ). eqb (x % 2) 1) (shr-shr m w j)

pow_pos : (w : ℕ) → 0 < 2 ^ w
pow_pos zero = omega arith
pow_pos (suc w) = let h = pow_pos w in omega arith

pub no_bits : (m : ℕ) → ((j : ℕ) → has m j ≡ false) → m ≡ 0
no_bits m h = has-ext m m 0 (below-pow m) (pow_pos m) (λ j _. h j ∙ sym (has-zero j))
  where
    below-pow : (w : ℕ) → w < 2 ^ w
    below-pow zero = omega arith
    below-pow (suc w) = let h = below-pow w in omega arith

-- the test `below`, both ways
pub below_of : (w m : ℕ) → ((j : ℕ) → has m j ≡ true → j < w) → below w m ≡ true
unfolding below
below_of w m h = eq-eqb _ 0 (no_bits (m / 2 ^ w)
    (λ j. is_false _ (λ e. let l = h (w + j) (sym (shifted m w j) ∙ e) in omega arith)))

pub below-fits : (w m : ℕ) → below w m ≡ true → m < 2 ^ w
unfolding below
below-fits w m t =
    let z : m / 2 ^ w ≡ 0 = eqb-true _ 0 t in
    omega (arith, lt-div-mul-add {a = m} {b = 2 ^ w} (pow_pos w), ap (λ (x : ℕ). x * 2 ^ w) z)

pub mask_fits : (w m : ℕ) → ((j : ℕ) → has m j ≡ true → j < w) → m < 2 ^ w
mask_fits w m h = below-fits w m (below_of w m h)

pub bits_below : (m w j : ℕ) → m < 2 ^ w → has m j ≡ true → j < w
bits_below m w j h t = by-lt j w (λ l. l) (λ l. absurd (let a = has-le m j t in let b = pow_mono l in omega arith))

pub has-beyond : (m w j : ℕ) → m < 2 ^ w → w ≤ j → has m j ≡ false
has-beyond m w j h k = is_false (has m j) (λ e. let l = bits_below m w j h e in omega arith)

pub below-has : (w m j : ℕ) → below w m ≡ true → has m j ≡ true → j < w
below-has w m j t = bits_below m w j (below-fits w m t)

-- ---- one mask within another: the test, both ways, and the code's `&`
pub within_of : (w a b : ℕ) → ((j : ℕ) → j < w → has a j ≡ true → has b j ≡ true) → within w a b ≡ true
unfolding within
within_of zero a b f = refl
within_of (suc w) a b f =
    and_both (within w a b) _ (within_of w a b (λ j l. f j (omega arith))) (suppose (has a w) (has b w) (f w (omega arith)))

pub within_has : (w a b j : ℕ) → within w a b ≡ true → j < w → has a j ≡ true → has b j ≡ true
unfolding within
within_has zero a b j t l = absurd (omega arith)
within_has (suc w) a b j t l = by-eq j w
    (λ e. rw e (supposed (has a w) (has b w) (and_r (within w a b) _ t)))
    (λ n. within_has w a b j (and_l (within w a b) _ t) (omega arith))

and-inside : (a b : ℕ) → bit_and a b ≡ a → (j : ℕ) → has a j ≡ true → has b j ≡ true
unfolding has
and-inside a b e j h =
    let x : a / 2 ^ j % 2 ≡ 1 = eqb-true _ 1 h in
    let s : a / 2 ^ j ≡ bit_and (a / 2 ^ j / 2) (b / 2 ^ j / 2) * 2 + min (a / 2 ^ j % 2) (b / 2 ^ j % 2) =
    ap (λ (m : ℕ). m / 2 ^ j) (sym e) ∙ and_shr a b j ∙ and_step (a / 2 ^ j) (b / 2 ^ j) in
    eq-eqb (b / 2 ^ j % 2) 1 (omega arith)

inside-and : (w a b : ℕ) → a < 2 ^ w → ((j : ℕ) → j < w → has a j ≡ true → has b j ≡ true) → bit_and a b ≡ a
inside-and zero a b l f = subst⁻¹ (λ (m : ℕ). bit_and m b ≡ m) (lt-one l) (and_zero_l b)
inside-and (suc w) a b l f =
    let high : bit_and (a / 2) (b / 2) ≡ a / 2 = inside-and w (a / 2) (b / 2) (omega arith)
    (λ j h e. sym (has-suc b j) ∙ f (suc j) (suc-le-suc h) (has-suc a j ∙ e)) in
    by_bool (eqb (a % 2) 1)
    (λ t. let x = eqb-true (b % 2) 1 (sym (has-low b) ∙ f 0 (omega arith) (has-low a ∙ t)) in omega (arith, and_step a b, eqb-true (a % 2) 1 t))
    (λ t. omega (arith, and_step a b, eqb-false (a % 2) 1 t))

pub and-within : (w a b : ℕ) → a < 2 ^ w → eqb (bit_and a b) a ≡ within w a b
and-within w a b l = same_test _ _
    (λ e. within_of w a b (λ j _. and-inside a b (eqb-true _ _ e) j))
    (λ e. eq-eqb _ _ (inside-and w a b l (λ j. within_has w a b j e)))
