-- Laws of a test at each number below a bound.
--     all_first                       the first number apart from those after it
--     all_none, all_more, all_done    a loop that joins such tests: where it begins, one turn more, its end
--     all-at, all_of                  what the test says, and when it passes
--     fold_of, all_fold               a fold that joins such tests over a list: what its code gives, and that it is this test
use mathlib.Core.Path.{◌≡◌, refl, sym, ap, subst, ◌∙◌}
use mathlib.Core.List.{List, [], ◌∷◌}
use mathlib.Core.Bool.{Bool, true, false, ◌&&◌}
use Prim.Native.Nat.{ℕ, zero, suc, ◌+◌, ◌≤◌, ◌<◌}
use native.Mathlib.Numerals.{add-one}
use lib.ListN.{length, get_or}
use denote.Param.Members.{Mut}
use Rattle.std.specs.declared.option.Option.{Option}
use Rattle.std.specs.Fn.{Called}
use Rattle.std.proofs.iter.Yields.{nat_range_steps}
use Rattle.std.specs.Bool.{MatchBool}
use Rattle.std.specs.Option.{MatchOption}
use Rattle.std.specs.declared.ops.Range.{Range}
use Rattle.std.specs.Iterator.{Drains, YieldsThen}
use Rattle.std.specs.List.{fold, FoldsTo, range_with_len, AllWithin, HoldsAt}
use Rattle.std.proofs.lemmas.Fn.{fold_over}
use Rattle.std.proofs.lemmas.Iterator.{YieldsList, YieldsList-from_range, cases_from_all}
use Rattle.std.proofs.lemmas.List.FromFn.{length-range_with_len, get_or-range_with_len}
use Rattle.std.proofs.lemmas.List.Sums.{fold_push}
use Rattle.std.proofs.Math.Bool.{and-true, and_assoc}
use native.Mathlib.Nat.{le_antisymm, zero-add}
use native.Mathlib.Omega.{arith}
use Rattle.bits.specs.Below.{all_below}
use Rattle.bits.proofs.Cases.{by-eq, and_l, and_r, and_both, is_false, clash}

module _ (P : ℕ → Bool) where
  pub all_none : true ≡ all_below 0 P
  unfolding all_below
  all_none = refl

  pub all_more : {i : ℕ} {ok r : Bool} → ok ≡ all_below i P → r ≡ P i → (ok && r) ≡ all_below (i + 1) P
  unfolding all_below
  all_more e f = rw (add-one, e, f)

  pub all_done : {i n : ℕ} {ok : Bool} → i ≤ n → n ≤ i → ok ≡ all_below i P → ok ≡ all_below n P
  all_done h k e = e ∙ ap (λ (m : ℕ). all_below m P) (le_antisymm h k)

  pub all-at : (n : ℕ) → all_below n P ≡ true → (k : ℕ) → k < n → P k ≡ true
  unfolding all_below
  all-at zero e k h = absurd (omega arith)
  all-at (suc n) e k h = by-eq k n
      (λ q. rw q (and_r (all_below n P) (P n) e))
      (λ q. all-at n (and_l (all_below n P) (P n) e) k (omega arith))

  pub all_of : (n : ℕ) → ((k : ℕ) → k < n → P k ≡ true) → all_below n P ≡ true
  unfolding all_below
  all_of zero f = refl
  all_of (suc n) f = and_both (all_below n P) (P n) (all_of n (λ k h. f k (omega arith))) (f n (omega arith))

pub all_first : (P : ℕ → Bool) (n : ℕ) → all_below (suc n) P ≡ (P 0 && all_below n (λ i. P (suc i)))
unfolding all_below
all_first P zero = sym (and-true (P 0))
all_first P (suc n) = rw (all_first P n) (and_assoc (P 0) (all_below n (λ i. P (suc i))) (P (suc n)))

pub all_fold : {A : Type 0} (test : A → Bool) (d : A) (xs : List A) (n : ℕ) (P : ℕ → Bool) → length xs ≡ n → ((i : ℕ) → i < n → test (get_or xs i d) ≡ P i)
    → (ok : Bool) → fold (λ b x. b && test x) ok xs ≡ (ok && all_below n P)
unfolding all_below
all_fold test d [] zero P e f ok = sym (and-true ok)
all_fold test d [] (suc n) P e f ok = cc
all_fold test d (x ∷ xs) zero P e f ok = cc
all_fold test d (x ∷ xs) (suc n) P e f ok =
    all_fold test d xs n (λ i. P (suc i)) (omega (arith, e)) (λ i h. f (suc i) (omega arith)) (ok && test x)
    ∙ and_assoc ok (test x) (all_below n (λ i. P (suc i)))
    ∙ ap (λ (b : Bool). ok && b) (ap (λ (b : Bool). b && all_below n (λ i. P (suc i))) (f 0 (omega arith)) ∙ sym (all_first P n))

-- what the code of such a fold gives: each call of its closure puts in the test of one more
pub fold_of : {S A B F : Type 0} {steps : S → Option A → S → Type 0} {v : A → B} {s : S} {all : List B} (g : Mut F (Bool × (A × Unit {0})) Bool) (test : B → Bool) (f : F)
    → YieldsList steps v s all
    → ((a : Bool) (x : A) (b : Bool) (f' : F) → Called g f (a, (x, tt)) b f' → (b ≡ (a && test (v x))) × (f' ≡ f)) → (r : Bool)
    → (xs : List A) × (f' : F) × Drains steps s xs × FoldsTo {P = F × Bool} (λ p x q. Called g p.0 (p.1, (x, tt)) q.1 q.0) (f, true) xs (f', r)
    → r ≡ fold (λ ok x. ok && test x) true all
fold_of {steps = steps} {v = v} {s = s} {all = all} g test f y call r ran =
    fold_over steps v g (λ ys b. b ≡ fold (λ ok x. ok && test x) true ys) f
    (λ ys a x b f' j k. let e = call a x b f' k in
    (e.0 ∙ ap (λ (t : Bool). t && test (v x)) j ∙ sym (fold_push (λ ok z. ok && test z) true ys (v x)), e.1))
    s all true r y.runs refl ran

place : (n k : ℕ) → k < n → get_or (range_with_len 0 n) k 0 ≡ k
place n k h = get_or-range_with_len 0 n k 0 h ∙ zero-add k

-- what `(0..n).all(..)` answers, where each call of its closure answers the test at its number
pub all_is : {F : Type 0} (g : Mut F (ℕ × Unit {0}) Bool) (P : ℕ → Bool) (f : F) (n : ℕ)
    → ((i : ℕ) (b : Bool) (f' : F) → Called g f (i, tt) b f' → (b ≡ P i) × (f' ≡ f)) → (s u : Range ℕ) → s ≡ record { start = 0; end = n } → (r : Bool)
    → (xs : List ℕ) × (o : Option ℕ) × (j : F) × YieldsThen nat_range_steps s xs o u × FoldsTo (λ p x q. Called g p (x, tt) true q) f xs j
    × MatchOption o (r ≡ true) (λ x. (r ≡ false) × ((h : F) × Called g j (x, tt) false h))
    → r ≡ all_below n P
all_is g P f n call s u e r ran =
    answer r (cases_from_all u f r (λ i. P i ≡ true) (λ i. P i ≡ false) ran (YieldsList-from_range 0 n n e (omega arith))
    (λ i q k. let c = call i true q k in (c.1, sym c.0)) (λ i q k. sym (call i false q k).0))
  where
    answer : (b : Bool) → MatchBool b (AllWithin (λ i. P i ≡ true) (range_with_len 0 n) 0 (length (range_with_len 0 n)))
        ((k : ℕ) × (k < length (range_with_len 0 n)) × HoldsAt (λ i. P i ≡ false) (range_with_len 0 n) k)
        → b ≡ all_below n P
    answer true m = sym (all_of P n (λ k h. subst (λ (i : ℕ). P i ≡ true) (place n k h) (m k 0 (omega arith) (omega (arith, length-range_with_len 0 n)))))
    answer false m =
        let h : m.0 < n = omega (arith, m.1, length-range_with_len 0 n) in
        sym (is_false _ (λ t. clash (all-at P n t m.0 h) (subst (λ (i : ℕ). P i ≡ false) (place n m.0 h) (m.2 0))))

-- and what `(0..n).fold(true, ..)` gives, where each call puts in the test at its number
pub fold_is : {F : Type 0} (g : Mut F (Bool × (ℕ × Unit {0})) Bool) (P : ℕ → Bool) (f : F) (n : ℕ)
    → ((a : Bool) (i : ℕ) (b : Bool) (f' : F) → Called g f (a, (i, tt)) b f' → (b ≡ (a && P i)) × (f' ≡ f)) → (s : Range ℕ) → s ≡ record { start = 0; end = n }
    → (r : Bool) → (xs : List ℕ) × (f' : F) × Drains nat_range_steps s xs × FoldsTo {P = F × Bool} (λ p x q. Called g p.0 (p.1, (x, tt)) q.1 q.0) (f, true) xs (f', r)
    → r ≡ all_below n P
fold_is g P f n call s e r ran =
    fold_of g P f (YieldsList-from_range 0 n n e (omega arith)) call r ran
    ∙ all_fold P 0 (range_with_len 0 n) n P (length-range_with_len 0 n) (λ i h. ap P (place n i h)) true
