-- A function changed at one place, and statements about each element of a list.
use mathlib.Core.Path.{◌≡◌, refl, sym, ap, subst, fun_ext, ◌∙◌}
use mathlib.Core.Logic.{◌≢◌}
use mathlib.Core.List.{List, [], ◌∷◌, ◌++◌, map}
use Prim.Native.Nat.{ℕ, zero, suc, ◌+◌, ◌≤◌, ◌<◌}
use native.Mathlib.Omega.{arith}
use lib.ListN.{length, get_or, length-append}
use borrow.Author.Tests.{eq-eqb, ne_eqb}
use Rattle.bits.proofs.Cases.{by-eq}
use Rattle.protocol.specs.Net.{NetOf, upd, upd2, remove_at, set_entry}
use Rattle.protocol.specs.Shaped.{All, none, both}

module _ {A : Type 0} where
  -- ---- one argument
  pub upd-hit : (f : ℕ → A) (i : ℕ) (v : A) (x : ℕ) → x ≡ i → upd f i v x ≡ v
  unfolding upd
  upd-hit f i v x e = rw (eq-eqb x i e)

  pub upd-miss : (f : ℕ → A) (i : ℕ) (v : A) (x : ℕ) → x ≢ i → upd f i v x ≡ f x
  unfolding upd
  upd-miss f i v x h = rw (ne_eqb x i h)

  -- what holds of the new value at i and of the old ones elsewhere holds of the changed function
  pub upd-all : (Q : ℕ → A → Type 0) {f : ℕ → A} {i : ℕ} {v : A} → Q i v → ((x : ℕ) → x ≢ i → Q x (f x)) → (x : ℕ) → Q x (upd f i v x)
  upd-all Q {f} {i} {v} a b x = by-eq x i
      (λ e. rw (upd-hit f i v x e) (subst (λ (y : ℕ). Q y v) (sym e) a))
      (λ h. rw (upd-miss f i v x h) (b x h))

  pub upd_same : (f : ℕ → A) (i : ℕ) (v : A) → f i ≡ v → upd f i v ≡ f
  upd_same f i v e = fun_ext (upd-all (λ x (w : A). w ≡ f x) (sym e) (λ x _. refl))

  -- a change at the same place goes over the one before it
  pub upd-again : (f : ℕ → A) (i : ℕ) (v w : A) → upd (upd f i v) i w ≡ upd f i w
  upd-again f i v w = fun_ext (upd-all (λ x (y : A). y ≡ upd f i w x) (sym (upd-hit f i w i refl)) (λ x n. upd-miss f i v x n ∙ sym (upd-miss f i w x n)))

-- ---- two arguments
module _ {A : Type 0} where
  pub upd2-again : (f : ℕ → ℕ → A) (i j : ℕ) (v w : A) → upd2 (upd2 f i j v) i j w ≡ upd2 f i j w
  unfolding upd2
  upd2-again f i j v w = upd-again f i (upd (f i) j v) _ ∙ ap (upd f i) (ap (λ (r : ℕ → A). upd r j w) (upd-hit f i (upd (f i) j v) i refl) ∙ upd-again (f i) j v w)

  pub upd2-hit : (f : ℕ → ℕ → A) (i j : ℕ) (v : A) → upd2 f i j v i j ≡ v
  unfolding upd2
  upd2-hit f i j v = rw (upd-hit f i (upd (f i) j v) i refl) (upd-hit (f i) j v j refl)

  pub upd2-row : (f : ℕ → ℕ → A) (i j : ℕ) (v : A) → upd2 f i j v i ≡ upd (f i) j v
  unfolding upd2
  upd2-row f i j v = upd-hit f i (upd (f i) j v) i refl

  pub upd2-off : (f : ℕ → ℕ → A) (i j : ℕ) (v : A) (x : ℕ) → x ≢ i → upd2 f i j v x ≡ f x
  unfolding upd2
  upd2-off f i j v x h = upd-miss f i (upd (f i) j v) x h

pub upd2-all : {A : Type 0} (Q : ℕ → ℕ → A → Type 0) {f : ℕ → ℕ → A} {i j : ℕ} {v : A}
    → Q i j v → ((x y : ℕ) → (x ≡ i → y ≡ j → ⊥) → Q x y (f x y)) → (x y : ℕ) → Q x y (upd2 f i j v x y)
unfolding upd2
upd2-all {A} Q {f} {i} {j} {v} a b x =
    upd-all (λ z (g : ℕ → A). (y : ℕ) → Q z y (g y))
    (upd-all (λ y w. Q i y w) a (λ y h. b i y (λ _ e. h e)))
    (λ z h y. b z y (λ e _. h e))
    x

pub upd2-miss : {A : Type 0} (f : ℕ → ℕ → A) (i j : ℕ) (v : A) (x y : ℕ) → (x ≡ i → y ≡ j → ⊥) → upd2 f i j v x y ≡ f x y
upd2-miss {A} f i j v x y n =
    upd2-all (λ x y (w : A). (x ≡ i → y ≡ j → ⊥) → w ≡ f x y) (λ m. absurd (m refl refl)) (λ x y _ _. refl) x y n

-- an entry put where one was put before
pub set-again : {E M : Type 0} (N : NetOf E M) (g p : ℕ) (e f : E) → set_entry (set_entry N g p e) g p f ≡ set_entry N g p f
unfolding set_entry
set-again N g p e f = rw (upd2-again N.entry g p e f) refl

-- the entry that is there put again
pub set_same : {E M : Type 0} (N : NetOf E M) (g p : ℕ) → set_entry N g p (N.entry g p) ≡ N
unfolding set_entry upd2
set_same N g p = rw (upd_same (N.entry g) p (N.entry g p) refl, upd_same N.entry g (N.entry g) refl) refl

-- a function of the changed map is the function's map, changed
pub upd-map : {A B : Type 0} (f : A → B) (F : ℕ → A) (i : ℕ) (v : A) → (λ x. f (upd F i v x)) ≡ upd (λ x. f (F x)) i (f v)
upd-map {A} f F i v = fun_ext (λ x. by-eq x i
    (λ e. ap f (upd-hit F i v x e) ∙ sym (upd-hit (λ y. f (F y)) i (f v) x e))
    (λ n. ap f (upd-miss F i v x n) ∙ sym (upd-miss (λ y. f (F y)) i (f v) x n)))

pub upd2-map : {A B : Type 0} (f : A → B) (F : ℕ → ℕ → A) (i j : ℕ) (v : A) → (λ x y. f (upd2 F i j v x y)) ≡ upd2 (λ x y. f (F x y)) i j (f v)
unfolding upd2
upd2-map {A} {B} f F i j v = upd-map {B = ℕ → B} (λ (g : ℕ → A) y. f (g y)) F i (upd (F i) j v) ∙ ap (upd (λ x y. f (F x y)) i) (upd-map f (F i) j v)

-- ---- lists
module _ {A B : Type 0} (f : A → B) where
  pub map-append : (xs ys : List A) → map f (xs ++ ys) ≡ map f xs ++ map f ys
  map-append [] ys = refl
  map-append (x ∷ xs) ys = rw (map-append xs ys)

  pub map-remove_at : (i : ℕ) (l : List A) → map f (remove_at i l) ≡ remove_at i (map f l)
  unfolding remove_at
  map-remove_at i [] = refl
  map-remove_at zero (x ∷ l) = refl
  map-remove_at (suc i) (x ∷ l) = rw (map-remove_at i l)

module _ {A : Type 0} where
  pub All-map : {P Q : A → Type 0} → ((x : A) → P x → Q x) → {l : List A} → All P l → All Q l
  All-map f none = none
  All-map f (both p h) = both (f _ p) (All-map f h)

  pub All-map2 : {P Q R : A → Type 0} → ((x : A) → P x → Q x → R x) → {l : List A} → All P l → All Q l → All R l
  All-map2 f none none = none
  All-map2 f (both p h) (both q g) = both (f _ p q) (All-map2 f h g)

  pub All-snoc : {P : A → Type 0} {l : List A} (x : A) → All P l → P x → All P (l ++ (x ∷ []))
  All-snoc x none p = both p none
  All-snoc x (both q h) p = both q (All-snoc x h p)

  pub All-remove : {P : A → Type 0} (i : ℕ) {l : List A} → All P l → All P (remove_at i l)
  unfolding remove_at
  All-remove i none = none
  All-remove zero (both p h) = h
  All-remove (suc i) (both p h) = both p (All-remove i h)

  pub All-get_or : {P : A → Type 0} (i : ℕ) {l : List A} (d : A) → P d → All P l → P (get_or l i d)
  All-get_or i d p none = p
  All-get_or zero d p (both q h) = q
  All-get_or (suc i) d p (both q h) = All-get_or i d p h

  pub All-at : {P : A → Type 0} (i : ℕ) {l : List A} (d : A) → i < length l → All P l → P (get_or l i d)
  All-at i d h none = absurd (omega arith)
  All-at zero d h (both q a) = q
  All-at (suc i) d h (both q a) = All-at i d (omega arith) a

  pub length-snoc : (l : List A) (x : A) → length (l ++ (x ∷ [])) ≡ length l + 1
  length-snoc l x = length-append l (x ∷ [])

  pub length_removed : (i : ℕ) (l : List A) → i < length l → length (remove_at i l) + 1 ≡ length l
  unfolding remove_at
  length_removed i [] h = absurd (omega arith)
  length_removed zero (x ∷ l) h = omega arith
  length_removed (suc i) (x ∷ l) h = omega (arith, length_removed i l (omega arith))

  pub length-remove : (i : ℕ) (l : List A) → length (remove_at i l) ≤ length l
  unfolding remove_at
  length-remove i [] = omega arith
  length-remove zero (x ∷ l) = omega arith
  length-remove (suc i) (x ∷ l) = omega (arith, length-remove i l)
