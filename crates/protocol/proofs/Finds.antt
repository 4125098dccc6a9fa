-- A group is found by its full name or not at all.
--     found-full     where a group is found it is one of the groups, and the name is its full name
--     found-one      a group is found by its own full name, whatever the other names begin with
--     found_none     where no group has the name, the answer is 7; none_found: and only there
--     found-short, found-long    an empty name, and one of over 16 bytes, gives 7
use mathlib.Core.Path.{◌≡◌, refl, sym, ap, ap₂, ◌∙◌}
use mathlib.Core.Logic.{◌≢◌}
use mathlib.Core.Bool.{Bool, true, false, false≢true}
use mathlib.Core.List.{List, [], ◌∷◌}
use Prim.Native.Nat.{ℕ, zero, suc, ◌+◌, ◌≤◌, ◌<◌}
use native.Mathlib.Omega.{arith}
use lib.Dec.{eqb}
use lib.ListN.{length}
use borrow.Author.Tests.{eqb-true, eq-eqb, lt-ltb, le-ltb}
use Rattle.bits.proofs.Cases.{by_bool, by-eq, by-lt, and_l, and_r, clash}
use Rattle.protocol.specs.Net.{Net, longest_name}
use Rattle.protocol.specs.Names.{same_name, first_from, Found, find}
use Rattle.protocol.specs.Shaped.{Shaped}

-- ---- the test compares full names
pub same-name : (l m : List ℕ) → same_name l m ≡ true → l ≡ m
unfolding same_name
same-name [] [] t = refl
same-name [] (y ∷ m) t = absurd (false≢true t)
same-name (x ∷ l) [] t = absurd (false≢true t)
same-name (x ∷ l) (y ∷ m) t =
    ap₂ ◌∷◌ (eqb-true x y (and_l (eqb x y) (same_name l m) t)) (same-name l m (and_r (eqb x y) (same_name l m) t))

own_name : (l : List ℕ) → same_name l l ≡ true
unfolding same_name
own_name [] = refl
own_name (x ∷ l) = rw (eq-eqb x x refl) (own_name l)

pub name-same : (l m : List ℕ) → l ≡ m → same_name l m ≡ true
name-same l m e = rw (← e) (own_name l)

-- ---- the first number that passes a test
module _ (P : ℕ → Bool) where
  pub first_step : (j k : ℕ) → P j ≡ false → first_from P j (suc k) ≡ first_from P (suc j) k
  unfolding first_from
  first_step j k f = rw f

  pub first-here : (j k : ℕ) → P j ≡ true → first_from P j (suc k) ≡ j
  unfolding first_from
  first-here j k t = rw t

  pub first-end : (j : ℕ) → first_from P j 0 ≡ j
  unfolding first_from
  first-end j = refl

  first_passes : (j k : ℕ) → first_from P j k < j + k → P (first_from P j k) ≡ true
  first_passes j zero h = absurd (omega (arith, first-end j))
  first_passes j (suc k) h = by_bool (P j)
      (λ t. rw (first-here j k t) t)
      (λ f. rw (first_step j k f) (first_passes (suc j) k (omega (arith, first_step j k f))))

  first-low : (j k i : ℕ) → j ≤ i → i < j + k → P i ≡ true → first_from P j k ≤ i
  first-low j zero i l h t = absurd (omega arith)
  first-low j (suc k) i l h t = by_bool (P j)
      (λ s. omega (arith, first-here j k s))
      (λ f. by-eq j i
      (λ e. clash t (ap P (sym e) ∙ f))
      (λ n. omega (arith, first_step j k f, first-low (suc j) k i (omega arith) (omega arith) t)))

-- ---- the answer
module _ (N : Net) (w : List ℕ) where
  named : ℕ → Bool
  named i = same_name (N.name i) w

  pub find-hit : first_from (λ i. same_name (N.name i) w) 0 N.groups < N.groups
      → find N w ≡ record { outcome = 0; group = first_from (λ i. same_name (N.name i) w) 0 N.groups }
  unfolding find
  find-hit h = rw (lt-ltb _ _ h)

  pub find-miss : N.groups ≤ first_from (λ i. same_name (N.name i) w) 0 N.groups → find N w ≡ record { outcome = 7; group = 0 }
  unfolding find
  find-miss h = rw (le-ltb _ _ h)

  pub found-full : (find N w).outcome ≡ 0 → ((find N w).group < N.groups) × (N.name (find N w).group ≡ w)
  unfolding named
  found-full z = by-lt (first_from named 0 N.groups) N.groups
      (λ h. rw (find-hit h) (h, same-name _ w (first_passes named 0 N.groups (omega arith))))
      (λ h. absurd (let e : ◌≡◌ {A = ℕ} 7 0 = ap (λ (f : Found). f.outcome) (sym (find-miss h)) ∙ z in omega arith))

  -- a group that has the name is found, or one before it
  some-found : (g : ℕ) → g < N.groups → N.name g ≡ w → (find N w).outcome ≡ 0
  unfolding named
  some-found g h e =
      let low : first_from named 0 N.groups ≤ g = first-low named 0 N.groups g (omega arith) (omega arith) (name-same _ w e) in
      ap (λ (f : Found). f.outcome) (find-hit (omega arith))

  pub found_none : ((g : ℕ) → g < N.groups → N.name g ≢ w) → find N w ≡ record { outcome = 7; group = 0 }
  unfolding named
  found_none no· = by-lt (first_from named 0 N.groups) N.groups
      (λ h. absurd (no· _ h (same-name _ w (first_passes named 0 N.groups (omega arith)))))
      find-miss

  pub none_found : (find N w).outcome ≡ 7 → (g : ℕ) → g < N.groups → N.name g ≢ w
  none_found s g h e = absurd (let z : ◌≡◌ {A = ℕ} 7 0 = sym s ∙ some-found g h e in omega arith)

module _ (N : Net) (H : Shaped N) where
  -- at most one group can answer
  pub one_name : (g h : ℕ) → g < N.groups → h < N.groups → N.name g ≡ N.name h → g ≡ h
  one_name g h lg lh e = by-lt g h
      (λ l. absurd (H.plan.distinct h g lh l (sym e)))
      (λ l. by-eq g h (λ i. i) (λ n. absurd (H.plan.distinct g h lg (omega arith) e)))

  pub found-one : (g : ℕ) → g < N.groups → find N (N.name g) ≡ record { outcome = 0; group = g }
  found-one g h =
      let z = some-found N (N.name g) g h refl in
      let f = found-full N (N.name g) z in
      let i : (find N (N.name g)).group ≡ g = one_name _ g f.0 h f.1 in
      λ k. record { outcome = z k; group = i k }

  pub found-short : find N [] ≡ record { outcome = 7; group = 0 }
  found-short = found_none N [] (λ g h e. let z = (H.plan.named g h).0 in let l : length (N.name g) ≡ 0 = ap (length {A = ℕ}) e in omega arith)

  pub found-long : (w : List ℕ) → longest_name < length w → find N w ≡ record { outcome = 7; group = 0 }
  found-long w l = found_none N w (λ g h e. let z = (H.plan.named g h).1 in let m : length (N.name g) ≡ length w = ap (length {A = ℕ}) e in omega arith)
