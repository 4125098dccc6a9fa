-- Splits by a test, and what a test that joins others says of them.
use mathlib.Core.Path.{◌≡◌, refl, sym, ap, ◌∙◌}
use mathlib.Core.Logic.{◌≢◌}
use mathlib.Core.Bool.{Bool, true, false, not, ◌&&◌, ◌||◌, false≢true, true≢false}
use Prim.Native.Nat.{ℕ, ◌≤◌, ◌<◌}
use lib.Dec.{eqb, ltb}
use borrow.Author.Tests.{eqb-true, eqb-false, ne_eqb, not-true, ltb-true, ltb-false}

pub by_bool {ℓ} : {P : Type ℓ} (b : Bool) → (b ≡ true → P) → (b ≡ false → P) → P
by_bool true f g = f refl
by_bool false f g = g refl

pub by-eq {ℓ} : {P : Type ℓ} (x y : ℕ) → (x ≡ y → P) → (x ≢ y → P) → P
by-eq x y f g = by_bool (eqb x y) (λ t. f (eqb-true x y t)) (λ t. g (eqb-false x y t))

pub by-lt {ℓ} : {P : Type ℓ} (x y : ℕ) → (x < y → P) → (y ≤ x → P) → P
by-lt x y f g = by_bool (ltb x y) (λ t. f (ltb-true x y t)) (λ t. g (ltb-false x y t))

-- both, one after the other
pub and_l : (a b : Bool) → (a && b) ≡ true → a ≡ true
and_l true b t = refl
and_l false b t = t

pub and_r : (a b : Bool) → (a && b) ≡ true → b ≡ true
and_r true b t = t
and_r false b t = absurd (false≢true t)

pub and_both : (a b : Bool) → a ≡ true → b ≡ true → (a && b) ≡ true
and_both a b s t = rw (s, t)

-- one of two
pub or_l : (a b : Bool) → a ≡ true → (a || b) ≡ true
or_l a b t = rw t

pub or_r : (a b : Bool) → b ≡ true → (a || b) ≡ true
or_r true b t = refl
or_r false b t = t

pub by-or {ℓ} : {P : Type ℓ} (a b : Bool) → (a || b) ≡ true → (a ≡ true → P) → (b ≡ true → P) → P
by-or true b t f g = f refl
by-or false b t f g = g t

pub or-false-l : (a b : Bool) → (a || b) ≡ false → a ≡ false
or-false-l true b t = t
or-false-l false b t = refl

pub or-false-r : (a b : Bool) → (a || b) ≡ false → b ≡ false
or-false-r true b t = absurd (true≢false t)
or-false-r false b t = t

-- one only if the other
pub suppose : (a b : Bool) → (a ≡ true → b ≡ true) → (not a || b) ≡ true
suppose true b f = f refl
suppose false b f = refl

pub supposed : (a b : Bool) → (not a || b) ≡ true → a ≡ true → b ≡ true
supposed true b t s = t
supposed false b t s = absurd (false≢true s)

-- two tests that pass in the same cases are one
pub same_test : (a b : Bool) → (a ≡ true → b ≡ true) → (b ≡ true → a ≡ true) → a ≡ b
same_test true b f g = sym (f refl)
same_test false true f g = g refl
same_test false false f g = refl

pub is_false : (b : Bool) → (b ≡ true → ⊥) → b ≡ false
is_false true h = absurd (h refl)
is_false false h = refl

-- a test cannot both pass and fail
pub clash {ℓ} : {P : Type ℓ} {b : Bool} → b ≡ true → b ≡ false → P
clash t f = absurd (true≢false (sym t ∙ f))

-- a negated comparison
pub ne_of : (x y : ℕ) → not (eqb x y) ≡ true → x ≢ y
ne_of x y t = eqb-false x y (not-true (eqb x y) t)

pub of-ne : (x y : ℕ) → x ≢ y → not (eqb x y) ≡ true
of-ne x y h = ap not (ne_eqb x y h)

pub eqb-sym : (x y : ℕ) → eqb x y ≡ eqb y x
eqb-sym x y = same_test (eqb x y) (eqb y x) (flip x y) (flip y x)
  where
    flip : (a b : ℕ) → eqb a b ≡ true → eqb b a ≡ true
    flip a b t = borrow.Author.Tests.eq-eqb b a (sym (eqb-true a b t))
