-- Laws of sums over a range.
use mathlib.Core.Path.{◌≡◌, refl}
use Prim.Native.Nat.{ℕ, zero, suc, ◌+◌, ◌*◌, ◌≤◌, ◌<◌}
use native.Mathlib.Omega.{arith}
use Rattle.bits.specs.Sums.{over}
use Rattle.bits.proofs.Cases.{by-eq}

pub over-ext : (f g : ℕ → ℕ) → ((i : ℕ) → f i ≡ g i) → (j k : ℕ) → over f j k ≡ over g j k
unfolding over
over-ext f g e j zero = refl
over-ext f g e j (suc k) = rw (e j, over-ext f g e (suc j) k)

pub over_zero : (f : ℕ → ℕ) → ((i : ℕ) → f i ≡ 0) → (j k : ℕ) → over f j k ≡ 0
unfolding over
over_zero f e j zero = refl
over_zero f e j (suc k) = rw (e j, over_zero f e (suc j) k)

pub over_add : (f g : ℕ → ℕ) (j k : ℕ) → over (λ i. f i + g i) j k ≡ over f j k + over g j k
unfolding over
over_add f g j zero = refl
over_add f g j (suc k) = let h = over_add f g (suc j) k in omega arith

pub over-le : (f : ℕ → ℕ) → ((i : ℕ) → f i ≤ 1) → (j k : ℕ) → over f j k ≤ k
unfolding over
over-le f h j zero = omega arith
over-le f h j (suc k) = let a = over-le f h (suc j) k in omega (arith, h j)

over-mono : (f g : ℕ → ℕ) → ((i : ℕ) → f i ≤ g i) → (j k : ℕ) → over f j k ≤ over g j k
unfolding over
over-mono f g h j zero = omega arith
over-mono f g h j (suc k) = let a = over-mono f g h (suc j) k in omega (arith, h j)

pub over-strict : (f g : ℕ → ℕ) → ((i : ℕ) → f i ≤ g i) → (x : ℕ) → f x < g x → (j k : ℕ) → j ≤ x → x < j + k → over f j k < over g j k
unfolding over
over-strict f g h x lt j zero l r = absurd (omega arith)
over-strict f g h x lt j (suc k) l r = at (over-strict f g h x lt (suc j) k)
  where
    at : (suc j ≤ x → x < suc j + k → over f (suc j) k < over g (suc j) k) → f j + over f (suc j) k < g j + over g (suc j) k
    at more = by-eq j x
        (λ e. let here : f j < g j = rw e lt in omega (arith, over-mono f g h (suc j) k))
        (λ n. let rest = more (omega arith) (omega arith) in omega (arith, h j))

pub over-const : (c j k : ℕ) → over (λ i. c) j k ≡ c * k
unfolding over
over-const c j zero = omega arith
over-const c j (suc k) = let h = over-const c (suc j) k in omega arith
