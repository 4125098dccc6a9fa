-- Digits: of a number below ten, of any other, and all but the last; and a number in decimal is what std writes.
use Rattle.std.proofs.Common.{◌≡◌, ℕ, zero, suc, ◌+◌, ◌-◌, ◌/◌, ◌%◌, ◌^◌, ◌<◌, ◌≤◌, [], ◌∷◌, ◌++◌, pow-suc, arith, refl}
use Rattle.std.specs.Fmt.{decimal as written}
use Rattle.std.proofs.lemmas.Fmt.{decimal_from_appends, AppendsLastDigit, length-decimal-le}
use native.Mathlib.Numerals.{unary_clauses}
use borrow.Author.Tests.{lt-ltb, le-ltb}
use Rattle.text.specs.Text.{digits_by, decimal}

pub one-digit : (most n : ℕ) → 0 < most → n < 10 → digits_by most n ≡ ((48 + n) ∷ [])
unfolding digits_by
one-digit zero n h hn = let z : ◌≡◌ {A = ℕ} 0 1 = omega arith in cc
one-digit (suc most) n h hn = simp (lt-ltb _ _ hn)

pub more-digits : (most n : ℕ) → 0 < most → 10 ≤ n → digits_by most n ≡ digits_by (most - 1) (n / 10) ++ ((48 + n % 10) ∷ [])
unfolding digits_by
more-digits zero n h hn = let z : ◌≡◌ {A = ℕ} 0 1 = omega arith in cc
more-digits (suc most) n h hn = let e : suc most - 1 ≡ most = omega arith in rw (le-ltb _ _ hn, e)

-- all digits but the last
pub fewer : (most n : ℕ) → n < 10 ^ most → 10 ≤ n → (n / 10 < 10 ^ (most - 1)) × (0 < most - 1)
fewer zero n h hn = omega (arith, simp unary_clauses at h)
fewer (suc zero) n h hn = omega arith
fewer (suc (suc most)) n h hn =
    let e : suc (suc most) - 1 ≡ suc most = omega arith in
    rw e (omega (arith, rw pow-suc at h), omega arith)

by-digits : AppendsLastDigit digits_by
unfolding digits_by
by-digits = record { one = λ k n h. simp (lt-ltb _ _ h); more = λ k n h. rw (le-ltb _ _ h) refl }

pub decimal_written : (n : ℕ) → n < 2 ^ 32 → decimal n ≡ written n
unfolding decimal
decimal_written n h =
    decimal_from_appends digits_by by-digits 10 n (omega arith) (length-decimal-le 10 n (omega arith) (omega arith) (omega arith))
