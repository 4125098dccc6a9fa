-- Laws of cells: any width, any number.
--     part-cells, grid-cell    what stands in cell i, and in cell j of row i
--     cells_of, grid-of        a list whose parts are the cells is the cells
--     is-cell, is_zero         a part that is a used cell's, and that of an unused one
use mathlib.Core.Path.{◌≡◌, sym, ap, ap₂, ◌∙◌}
use mathlib.Core.List.{List, [], ◌++◌}
use Prim.Native.Nat.{ℕ, zero, suc, ◌+◌, ◌*◌, ◌≤◌, ◌<◌}
use native.Mathlib.Nat.{add-zero, mul-zero, mul-suc, mul-le-mul_left}
use native.Mathlib.Omega.{arith}
use lib.ListN.{length, get_or, length-append}
use Rattle.bits.specs.Parts.{part}
use Rattle.bits.proofs.Cases.{by-eq}
use Rattle.bits.proofs.Parts.{length_part, get_or-part, part-cong, part-part, part-add, part-all, part_left, part_right, part_same}
use Rattle.layout.specs.Layout.{byte}
use Rattle.forms.specs.Cells.{cells}

-- ---- a part that is a cell: xs is what the cell holds
module _ (w : ℕ) (l : List ℕ) (at : ℕ) (xs : List ℕ) where
  pub is-cell : xs ≡ part w l at → part w l at ≡ part w xs 0
  is-cell e = sym (part_same w l at) ∙ ap (λ (ys : List ℕ). part w ys 0) (sym e)

  pub is_zero : xs ≡ [] → ((x : ℕ) → x < w → byte l (at + x) ≡ 0) → part w l at ≡ part w xs 0
  is_zero e z = part-cong w l [] at 0 z ∙ ap (λ (ys : List ℕ). part w ys 0) (sym e)

  pub zero-cell : part w l at ≡ part w xs 0 → xs ≡ [] → (x : ℕ) → x < w → byte l (at + x) ≡ 0
  zero-cell e z x h = sym (get_or-part w l at x h) ∙ ap (λ (b : List ℕ). get_or b x 0) (e ∙ ap (λ (ys : List ℕ). part w ys 0) z) ∙ get_or-part w [] 0 x h

-- ---- one row of cells
pub length-cells : (w n : ℕ) (f : ℕ → List ℕ) → length (cells w n f) ≡ w * n
unfolding cells
length-cells w zero f = sym (mul-zero w)
length-cells w (suc n) f =
    length-append (cells w n f) (part w (f n) 0) ∙ rw (length-cells w n f, length_part w (f n) 0) (sym (mul-suc w n))

pub part-cells : (w n : ℕ) (f : ℕ → List ℕ) (i : ℕ) → i < n → part w (cells w n f) (w * i) ≡ part w (f i) 0
unfolding cells
part-cells w zero f i h = absurd (omega arith)
part-cells w (suc n) f i h = by-eq i n
    (λ e. rw e (ap (part w (cells w n f ++ part w (f n) 0)) (sym (add-zero (w * n)))
    ∙ part_right w (cells w n f) (part w (f n) 0) (length-cells w n f) 0 ∙ part_same w (f n) 0))
    (λ n'. part_left w (cells w n f) (part w (f n) 0) (w * i)
    (let m : w * suc i ≤ w * n = mul-le-mul_left w (omega arith) in rw (length-cells w n f) (omega (arith, mul-suc w i)))
    ∙ part-cells w n f i (omega arith))

pub cells_of : (w n : ℕ) (f : ℕ → List ℕ) (l : List ℕ) (at : ℕ) → ((i : ℕ) → i < n → part w (f i) 0 ≡ part w l (at + w * i))
    → cells w n f ≡ part (w * n) l at
unfolding cells part
cells_of w zero f l at h = ap (λ (k : ℕ). part k l at) (sym (mul-zero w))
cells_of w (suc n) f l at h =
    ap₂ ◌++◌ (cells_of w n f l at (λ i b. h i (omega arith))) (h n (omega arith))
    ∙ sym (part-add (w * n) w l at) ∙ ap (λ (k : ℕ). part k l at) (sym (mul-suc w n))

-- ---- rows of cells: r is the width of a row
module _ (w cols r rows : ℕ) (e : r ≡ w * cols) (f : ℕ → ℕ → List ℕ) where
  row : (i : ℕ) → part r (cells w cols (f i)) 0 ≡ cells w cols (f i)
  row i = ap (λ (k : ℕ). part k (cells w cols (f i)) 0) (e ∙ sym (length-cells w cols (f i))) ∙ part-all (cells w cols (f i))

  pub grid-cell : (i j : ℕ) → i < rows → j < cols → part w (cells r rows (λ i. cells w cols (f i))) (r * i + w * j) ≡ part w (f i j) 0
  grid-cell i j h k =
      let L = cells r rows (λ i. cells w cols (f i)) in
      let b : w * suc j ≤ w * cols = mul-le-mul_left w k in
      sym (part-part w r L (r * i) (w * j) (omega (arith, mul-suc w j)))
      ∙ ap (λ (x : List ℕ). part w x (w * j)) (part-cells r rows (λ i. cells w cols (f i)) i h ∙ row i)
      ∙ part-cells w cols (f i) j k

  pub grid-of : (l : List ℕ) (at : ℕ) → ((i j : ℕ) → i < rows → j < cols → part w (f i j) 0 ≡ part w l (at + r * i + w * j))
      → cells r rows (λ i. cells w cols (f i)) ≡ part (r * rows) l at
  grid-of l at h = cells_of r rows (λ i. cells w cols (f i)) l at
      (λ i b. row i ∙ cells_of w cols (f i) l (at + r * i) (λ j. h i j b) ∙ ap (λ (k : ℕ). part k l (at + r * i)) (sym e))

  pub length-grid : length (cells r rows (λ i. cells w cols (f i))) ≡ r * rows
  length-grid = length-cells r rows (λ i. cells w cols (f i))
