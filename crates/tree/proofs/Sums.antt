-- Sums with a test in front of each term, and how often a number stands in a list.
use mathlib.Core.Path.{◌≡◌, refl, sym, ap, ◌∙◌}
use mathlib.Core.List.{List, [], ◌∷◌, ◌++◌}
use mathlib.Core.Bool.{Bool, true, false}
use Prim.Native.Nat.{ℕ, zero, suc, ◌+◌, ◌≤◌, ◌<◌}
use native.Mathlib.Nat.{lt_of_not-le}
use native.Mathlib.Omega.{arith}
use lib.ListN.{length}
use lib.Dec.{eqb}
use borrow.Author.Tests.{eq-eqb, ne_eqb}
use Rattle.bits.specs.Sums.{bit, over}
use Rattle.bits.proofs.Sums.{over-ext, over_zero, over_add}
use Rattle.bits.proofs.Cases.{by-eq, eqb-sym}
use Rattle.tree.specs.Reach.{picked, keep, count}

-- n, if the test holds
abbrev pub gate : Bool → ℕ → ℕ
gate true n = n
gate false n = 0

-- over the numbers of a list
unfoldable pub total : (ℕ → ℕ) → List ℕ → ℕ
total f [] = 0
total f (c ∷ cs) = f c + total f cs

-- ---- gates
pub gate-zero : (b : Bool) → gate b 0 ≡ 0
gate-zero true = refl
gate-zero false = refl

pub gate-one : (b : Bool) → gate b 1 ≡ bit b
gate-one true = refl
gate-one false = refl

pub gate-swap : (a b : Bool) → gate a (bit b) ≡ gate b (bit a)
gate-swap true true = refl
gate-swap true false = refl
gate-swap false true = refl
gate-swap false false = refl

pub gate-add : (b : Bool) (m n : ℕ) → gate b (m + n) ≡ gate b m + gate b n
gate-add true m n = refl
gate-add false m n = refl

pub gate-gate : (a b : Bool) (m n : ℕ) → gate a (m + gate b n) ≡ gate a m + gate b (gate a n)
gate-gate true b m n = refl
gate-gate false true m n = refl
gate-gate false false m n = refl

pub gate-if : (b : Bool) (m n : ℕ) → (b ≡ true → m ≡ n) → gate b m ≡ gate b n
gate-if true m n h = h refl
gate-if false m n h = refl

pub gate-not : (b : Bool) (m : ℕ) → (gate b m ≡ 0 → ⊥) → (b ≡ true) × (m ≡ 0 → ⊥)
gate-not true m h = (refl, h)
gate-not false m h = absurd (h refl)

pub one-le : (b : Bool) → bit b ≤ 1
one-le true = omega arith
one-le false = omega arith

pub one-mono : (a b : Bool) → (a ≡ true → b ≡ true) → bit a ≤ bit b
one-mono true b h = rw (h refl) (omega arith)
one-mono false b h = omega arith

-- ---- sums of gated terms
pub over-gate : (b : Bool) (f : ℕ → ℕ) (j k : ℕ) → over (λ i. gate b (f i)) j k ≡ gate b (over f j k)
over-gate true f j k = refl
over-gate false f j k = over_zero (λ i. 0) (λ i. refl) j k

-- one term alone
over-miss : (f : ℕ → ℕ) (x j k : ℕ) → x < j → over (λ i. gate (eqb i x) (f i)) j k ≡ 0
unfolding over
over-miss f x j zero l = refl
over-miss f x j (suc k) l = rw (ne_eqb j x (λ e. omega arith), over-miss f x (suc j) k (omega arith))

pub over-one : (f : ℕ → ℕ) (x j k : ℕ) → j ≤ x → x < j + k → over (λ i. gate (eqb i x) (f i)) j k ≡ f x
unfolding over
over-one f x j zero l r = absurd (omega arith)
over-one f x j (suc k) l r = at (over-one f x (suc j) k)
  where
    at : (suc j ≤ x → x < suc j + k → over (λ i. gate (eqb i x) (f i)) (suc j) k ≡ f x)
        → gate (eqb j x) (f j) + over (λ i. gate (eqb i x) (f i)) (suc j) k ≡ f x
    at more = by-eq j x
        (λ e. rw (eq-eqb j x e, over-miss f x (suc j) k (omega arith), e) (omega arith))
        (λ n. rw (ne_eqb j x n) (let h = more (omega arith) (omega arith) in omega arith))

pub total-picked : (f : ℕ → ℕ) (a : ℕ → Bool) (j k : ℕ) → total f (picked a j k) ≡ over (λ i. gate (a i) (f i)) j k
unfolding total picked over
total-picked f a j zero = refl
total-picked f a j (suc k) = at (a j) (total-picked f a (suc j) k)
  where
    at : (b : Bool) → total f (picked a (suc j) k) ≡ over (λ i. gate (a i) (f i)) (suc j) k
        → total f (keep b j (picked a (suc j) k)) ≡ gate b (f j) + over (λ i. gate (a i) (f i)) (suc j) k
    at true h = ap (f j +◌) h
    at false h = omega arith

-- ---- how often a number stands in a list
pub count-append : (x : ℕ) (l m : List ℕ) → count x (l ++ m) ≡ count x l + count x m
unfolding count
count-append x [] m = omega arith
count-append x (y ∷ l) m = let h = count-append x l m in omega arith

-- a list of numbers below n is as long as the counts of the numbers below n come to
pub length-count : (n : ℕ) (l : List ℕ) → ((x : ℕ) → n ≤ x → count x l ≡ 0) → length l ≡ over (λ x. count x l) 0 n
unfolding count
length-count n [] off = sym (over_zero (λ x. 0) (λ x. refl) 0 n)
length-count n (y ∷ l) off =
    let inside : y < n = lt_of_not-le (λ le. let z : 1 + count y l ≡ 0 = rw (eq-eqb y y refl) at (off y le) in omega arith) in
    let rest = length-count n l (λ x le. let z = off x le in omega arith) in
    let this : over (λ x. bit (eqb y x)) 0 n ≡ 1 =
    over-ext _ _ (λ x. ap bit (eqb-sym y x) ∙ sym (gate-one (eqb x y))) 0 n ∙ over-one (λ x. 1) y 0 n (omega arith) (omega arith) in
    let sum = over_add (λ x. bit (eqb y x)) (λ x. count x l) 0 n in
    omega arith
