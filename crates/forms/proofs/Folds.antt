-- What stands after something is put at each place of a grid of r₀ rows and m₀ columns. Q holds of what comes first, and each put keeps it.
--     rows-hold    Q
--     rows-kept    what no put touches
--     rows-read    what is read at a place where it was put
--     rows-tied    the same puts on two sides
use mathlib.Core.Path.{◌≡◌, refl, ap, ◌∙◌}
use Prim.Native.Nat.{ℕ, zero, suc, ◌≤◌, ◌<◌}
use native.Mathlib.Omega.{arith}
use Rattle.bits.proofs.Cases.{by-eq}
use Rattle.forms.specs.Folds.{in_row, in_rows}

module _ {A : Type 0} (put : A → ℕ → ℕ → A) (Q : A → Type 0) (r₀ m₀ : ℕ) (keeps : (x : A) (i j : ℕ) → i < r₀ → j < m₀ → Q x → Q (put x i j)) where
  row-holds : (x : A) (i m : ℕ) → Q x → i < r₀ → m ≤ m₀ → Q (in_row put x i m)
  unfolding in_row
  row-holds x i zero q h k = q
  row-holds x i (suc m) q h k = keeps _ i m h (omega arith) (row-holds x i m q h (omega arith))

  pub rows-hold : (x : A) (r m : ℕ) → Q x → r ≤ r₀ → m ≤ m₀ → Q (in_rows put x r m)
  unfolding in_rows
  rows-hold x zero m q h k = q
  rows-hold x (suc r) m q h k = row-holds _ r m (rows-hold x r m q (omega arith) k) (omega arith) k

  module _ {W : Type 0} (read : A → ℕ → ℕ → W) (v : ℕ → ℕ → W)
      (puts : (x : A) (i j : ℕ) → Q x → i < r₀ → j < m₀ → read (put x i j) i j ≡ v i j)
      (stays : (x : A) (i j p d : ℕ) → Q x → i < r₀ → j < m₀ → p < r₀ → d < m₀ → read x p d ≡ v p d → read (put x i j) p d ≡ v p d) where
    row_stays : (x : A) (i m p d : ℕ) → Q x → i < r₀ → m ≤ m₀ → p < r₀ → d < m₀ → read x p d ≡ v p d → read (in_row put x i m) p d ≡ v p d
    unfolding in_row
    row_stays x i zero p d q h k hp hd e = e
    row_stays x i (suc m) p d q h k hp hd e =
        stays _ i m p d (row-holds x i m q h (omega arith)) h (omega arith) hp hd (row_stays x i m p d q h (omega arith) hp hd e)

    row_read : (x : A) (i m d : ℕ) → Q x → i < r₀ → m ≤ m₀ → d < m → read (in_row put x i m) i d ≡ v i d
    unfolding in_row
    row_read x i zero d q h k hd = absurd (omega arith)
    row_read x i (suc m) d q h k hd = by-eq d m
        (λ e. rw e (puts _ i m (row-holds x i m q h (omega arith)) h (omega arith)))
        (λ n. stays _ i m i d (row-holds x i m q h (omega arith)) h (omega arith) h (omega arith) (row_read x i m d q h (omega arith) (omega arith)))

    pub rows-read : (x : A) (r m p d : ℕ) → Q x → r ≤ r₀ → m ≤ m₀ → p < r → d < m → read (in_rows put x r m) p d ≡ v p d
    unfolding in_rows
    rows-read x zero m p d q h k hp hd = absurd (omega arith)
    rows-read x (suc r) m p d q h k hp hd = by-eq p r
        (λ e. rw e (row_read _ r m d (rows-hold x r m q (omega arith) k) (omega arith) k hd))
        (λ n. row_stays _ r m p d (rows-hold x r m q (omega arith) k) (omega arith) k (omega arith) (omega arith)
        (rows-read x r m p d q (omega arith) k (omega arith) hd))

  -- `out` carries one side's put to the other's
  module _ {B : Type 0} (put' : B → ℕ → ℕ → B) (out : A → B) (tie : (x : A) (i j : ℕ) → Q x → i < r₀ → j < m₀ → out (put x i j) ≡ put' (out x) i j) where
    row-tied : (x : A) (i m : ℕ) → Q x → i < r₀ → m ≤ m₀ → out (in_row put x i m) ≡ in_row put' (out x) i m
    unfolding in_row
    row-tied x i zero q h k = refl
    row-tied x i (suc m) q h k = tie _ i m (row-holds x i m q h (omega arith)) h (omega arith) ∙ ap (λ (y : B). put' y i m) (row-tied x i m q h (omega arith))

    pub rows-tied : (x : A) (r m : ℕ) → Q x → r ≤ r₀ → m ≤ m₀ → out (in_rows put x r m) ≡ in_rows put' (out x) r m
    unfolding in_rows
    rows-tied x zero m q h k = refl
    rows-tied x (suc r) m q h k = row-tied _ r m (rows-hold x r m q (omega arith) k) (omega arith) k ∙ ap (λ (y : B). in_row put' y r m) (rows-tied x r m q (omega arith) k)

-- what no put touches
pub rows-kept : {A B : Type 0} (put : A → ℕ → ℕ → A) (f : A → B) (r₀ m₀ : ℕ) → ((x : A) (i j : ℕ) → i < r₀ → j < m₀ → f (put x i j) ≡ f x)
    → (x : A) (r m : ℕ) → r ≤ r₀ → m ≤ m₀ → f (in_rows put x r m) ≡ f x
rows-kept {A} put f r₀ m₀ same x r m h k = rows-hold put (λ (y : A). f y ≡ f x) r₀ m₀ (λ y i j hi hj e. same y i j hi hj ∙ e) x r m refl h k
