-- How a grid is made.
--     by_rows          row after row, cell after cell, for any widths
--     turned          the same cells, (i, j) for (j, i): column after column
--     cell-by-cell    tested cell by cell, wherever they stand; either_way: which says the same
use mathlib.Core.Path.{◌≡◌, sym, ap, ◌∙◌}
use mathlib.Core.Bool.{Bool}
use mathlib.Core.List.{List, ◌++◌}
use mathlib.Core.Logic.{◌⊎◌, inl, inr, ⊎_elim, ◌≢◌}
use Prim.Native.Nat.{ℕ, suc, ◌+◌, ◌-◌, ◌*◌, ◌≤◌, ◌<◌}
use native.Mathlib.Nat.{mul-suc, mul-le-mul_left}
use native.Mathlib.Omega.{arith}
use lib.ListN.{length}
use Rattle.bits.specs.Parts.{part}
use Rattle.bits.proofs.Cases.{by-lt, same_test}
use Rattle.bits.proofs.Parts.{part_left, part_right}
use Rattle.layout.specs.Layout.{byte}
use Rattle.layout.specs.Bounded.{table, grid_pass}
use Rattle.layout.proofs.Bounded.{table_at, cells_at, cells_rest}
use Rattle.layout.proofs.Bounded as tables
use Rattle.forms.specs.Cells.{cells}
use Rattle.forms.specs.Grids.{Laid, Passes, Grid}
use Rattle.forms.proofs.Each.{each-cell}
use Rattle.forms.proofs.Cells.{grid-cell, grid-of, length-grid}

-- w further on for each of x steps is before the i-th
pub steps : (w x i : ℕ) → x < i → w * x + w ≤ w * i
steps w x i h = let b : w * suc x ≤ w * i = mul-le-mul_left w h in omega (arith, mul-suc w x)

-- w is the width of a cell, r of a row
module _ (from w cols r rows : ℕ) (e : r ≡ w * cols) (wide : 0 < w) (some : 0 < r) (at : ℕ → ℕ → ℕ) (place : (i j : ℕ) → at i j ≡ from + r * i + w * j) where
  pub aparts : (i j x y : ℕ) → j < cols → y < cols → (x ≢ i) ⊎ (y ≢ j) → (at x y + w ≤ at i j) ⊎ (at i j + w ≤ at x y)
  aparts i j x y hj hy o = by-lt x i
      (λ a. inl (omega (arith, steps r x i a, steps w y cols hy, place x y, place i j)))
      (λ a. by-lt i x
      (λ b. inr (omega (arith, steps r i x b, steps w j cols hj, place x y, place i j)))
      (λ b. let same : x ≡ i = omega arith in let same' : r * x ≡ r * i = ap (λ (k : ℕ). r * k) same in
      by-lt y j
      (λ c. inl (omega (arith, steps w y j c, place x y, place i j)))
      (λ c. inr (let d : j < y = ⊎_elim (λ n. absurd (n same)) (λ n. omega arith) o in omega (arith, steps w j y d, place x y, place i j)))))

  pub rows-laid : Laid rows cols at w from (from + r * rows) (λ f. cells r rows (λ i. cells w cols (f i)))
  rows-laid = record {
    inside = λ i j hi hj. (omega (arith, place i j), omega (arith, place i j, steps r i rows hi, steps w j cols hj));
    apart = λ i j x y hi hj hx hy o. aparts i j x y hj hy o;
    long = λ f. ap (λ (k : ℕ). from + k) (length-grid w cols r rows e f);
    cell = λ f i j k hi hj q. let b : k ≡ r * i + w * j = omega (arith, place i j) in ap (part w (cells r rows (λ i. cells w cols (f i)))) b ∙ grid-cell w cols r rows e f i j hi hj;
    whole = λ f l K n q. let b : r * rows ≡ n = omega arith in grid-of w cols r rows e f l from (λ i j hi hj. sym (K i j hi hj) ∙ ap (part w l) (place i j)) ∙ ap (λ (m : ℕ). part m l from) b;
    bytes = λ f h. each-cell r rows _ (λ i. each-cell w cols _ (h i));
  }

  pub rows_pass : Passes rows cols at w (λ l m n P. table l from r rows m (λ i. table l (from + r * i) w cols n (P i)))
  rows_pass = record {
    used = λ l m n P hm hn t i j hi hj. table_at l _ _ _ _ _ (table_at l _ _ _ _ _ t i hi) j hj;
    rest = λ l m n P t i j x hi hj hx o. ap (λ (k : ℕ). byte l (k + x)) (place i j) ∙ tables.grid-rest l from w cols r rows m n P e t i j x hi hj hx o;
    both = λ l m n P hm hn f z. tables.grid-of l from w cols r rows m n P e wide some hm f (λ i j x hi hj hx o. ap (λ (k : ℕ). byte l (k + x)) (sym (place i j)) ∙ z i j x hi hj hx o);
  }

  abbrev pub by_rows : Grid rows cols
  by_rows = record {
    at = at;
    width = w;
    from = from;
    to = from + r * rows;
    lay = λ f. cells r rows (λ i. cells w cols (f i));
    pass = λ l m n P. table l from r rows m (λ i. table l (from + r * i) w cols n (P i));
    laid = rows-laid;
    passes = rows_pass;
  }

pub swap : {A B : Type 0} → A ⊎ B → B ⊎ A
swap (inl a) = inr a
swap (inr b) = inl b

pub turned : {rows cols : ℕ} {at : ℕ → ℕ → ℕ} {w from to : ℕ} {lay : (ℕ → ℕ → List ℕ) → List ℕ} → Laid rows cols at w from to lay
    → Laid cols rows (λ i j. at j i) w from to (λ f. lay (λ i j. f j i))
turned G = record {
  inside = λ i j hi hj. G.inside j i hj hi;
  apart = λ i j x y hi hj hx hy o. G.apart j i y x hj hi hy hx (swap o);
  long = λ f. G.long (λ i j. f j i);
  cell = λ f i j k hi hj q. G.cell (λ i j. f j i) j i k hj hi q;
  whole = λ f l K n q. G.whole (λ i j. f j i) l (λ i j hi hj. K j i hj hi) n q;
  bytes = λ f h. G.bytes (λ i j. f j i) (λ i j. h j i);
}

pub cell-by-cell : (rows cols : ℕ) (at : ℕ → ℕ → ℕ) (w : ℕ) → Passes rows cols at w (λ l m n P. grid_pass l at w rows cols m n P)
cell-by-cell rows cols at w = record {
  used = λ l m n P hm hn. cells_at l at w rows cols m n P hm hn;
  rest = λ l m n P. cells_rest l at w rows cols m n P;
  both = λ l m n P hm hn. tables.cells_of l at w rows cols m n P;
}

-- two tests of the same cells say the same, whichever way they go about it
pub either_way : {rows cols : ℕ} {at : ℕ → ℕ → ℕ} {w : ℕ} {pass pass' : List ℕ → (m n : ℕ) → (ℕ → ℕ → Bool) → Bool}
    → Passes rows cols at w pass → Passes rows cols at w pass'
    → (l : List ℕ) (m n : ℕ) (P : ℕ → ℕ → Bool) → m ≤ rows → n ≤ cols → pass l m n P ≡ pass' l m n P
either_way A B l m n P hm hn = same_test _ _
    (λ t. B.both l m n P hm hn (A.used l m n P hm hn t) (A.rest l m n P t))
    (λ t. A.both l m n P hm hn (B.used l m n P hm hn t) (B.rest l m n P t))

-- a cell of a grid that is laid between other bytes
pub laid-between : {rows cols : ℕ} (G : Grid rows cols) (f : ℕ → ℕ → List ℕ) (xs ys : List ℕ) → length xs ≡ G.from → (i j : ℕ) → i < rows → j < cols
    → part G.width (xs ++ (G.lay f ++ ys)) (G.at i j) ≡ part G.width (f i j) 0
laid-between G f xs ys n i j hi hj =
    let here = G.laid.inside i j hi hj in
    let long = G.laid.long f in
    let at : G.at i j ≡ G.from + (G.at i j - G.from) = omega arith in
    ap (part G.width (xs ++ (G.lay f ++ ys))) at ∙ part_right G.width xs (G.lay f ++ ys) n (G.at i j - G.from)
    ∙ part_left G.width (G.lay f) ys (G.at i j - G.from) (omega arith) ∙ G.laid.cell f i j (G.at i j - G.from) hi hj at
