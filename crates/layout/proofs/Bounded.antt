-- Laws of the bounded tests of bytes.
--     zeros-at, zeros_of                            what the test of a stretch says, and when it passes
--     zeros_fold, same_fold                         what the code of such a test does
--     table_done, table_at, table-rest, table_of    a loop over a table ends, what the test of a table says, and when it passes
--     grid-rest, grid-of                            the same of a table of tables
--     cell-used, cell_free                          the test of a cell that is used, and of one that is not
--     cells_at, cells_rest, cells_of                what the test of a grid says, and when it passes
use mathlib.Core.Path.{◌≡◌, sym, subst, ap, ap₂, ◌∙◌}
use mathlib.Core.List.{List}
use mathlib.Core.Logic.{◌⊎◌, inl, inr, ⊎_elim}
use mathlib.Core.Bool.{Bool, true, false, ◌&&◌}
use Prim.Native.Nat.{ℕ, suc, ◌+◌, ◌-◌, ◌*◌, ◌/◌, ◌%◌, ◌≤◌, ◌<◌}
use native.Mathlib.Nat.{add-sub_cancel_left, add-sub_of_le, mul-suc, mul_comm, mul-le-mul_left, div-add-mod', div-lt_iff_lt-mul, mod-lt}
use native.Mathlib.Omega.{arith}
use lib.Dec.{eqb, ltb}
use lib.ListN.{length, get_or-eq_default}
use borrow.Author.Tests.{eqb-true, eq-eqb, ltb-true, lt-ltb, le-ltb}
use Rattle.bits.proofs.Cases.{by-lt, and_l, and_r, and_both}
use Rattle.bits.specs.Below.{all_below}
use Rattle.bits.proofs.Below.{all_done, all-at, all_of, all_fold}
use Rattle.bits.specs.Parts.{part}
use Rattle.bits.proofs.Parts.{lent, length_part, get_or-part, part-lent}
use Rattle.std.specs.List.{fold, zip}
use Rattle.std.proofs.lemmas.Slice.Zip.{length-zip, get_or-zip}
use Rattle.layout.specs.Layout.{byte}
use Rattle.layout.specs.Bounded.{all_bytes, zeros, same, table, used, cell_pass, grid_pass}

-- ---- stretches of bytes
pub zeros-at : (l : List ℕ) (a e : ℕ) → zeros l a e ≡ true → (i : ℕ) → a ≤ i → i < e → byte l i ≡ 0
unfolding zeros
zeros-at l a e z i h k =
    subst (λ (m : ℕ). byte l m ≡ 0) (add-sub_of_le h) (eqb-true _ _ (all-at (λ i. eqb (byte l (a + i)) 0) (e - a) z (i - a) (omega arith)))

pub zeros_of : (l : List ℕ) (a e : ℕ) → ((i : ℕ) → a ≤ i → i < e → byte l i ≡ 0) → zeros l a e ≡ true
unfolding zeros
zeros_of l a e f = all_of _ (e - a) (λ i h. eq-eqb _ _ (f (a + i) (omega arith) (omega arith)))

pub same_at : (l : List ℕ) (a b n : ℕ) → same l a b n ≡ true → (i : ℕ) → i < n → byte l (a + i) ≡ byte l (b + i)
unfolding same
same_at l a b n t i h = eqb-true _ _ (all-at (λ i. eqb (byte l (a + i)) (byte l (b + i))) n t i h)

pub same_of : (l : List ℕ) (a b n : ℕ) → ((i : ℕ) → i < n → byte l (a + i) ≡ byte l (b + i)) → same l a b n ≡ true
unfolding same
same_of l a b n f = all_of _ n (λ i h. eq-eqb _ _ (f i h))

-- what the code does: it goes over the bytes of a stretch, or of two side by side
pub zeros_fold : (l : List ℕ) (a e : ℕ) → a ≤ e → e ≤ length l → fold (λ ok x. ok && eqb x 0) true (lent a (e - a) l) ≡ zeros l a e
unfolding zeros
zeros_fold l a e h k =
    ap (fold (λ ok x. ok && eqb x 0) true) (part-lent (e - a) l a (omega arith))
    ∙ all_fold (λ x. eqb x 0) 0 (part (e - a) l a) (e - a) _ (length_part (e - a) l a)
    (λ i m. ap (λ (x : ℕ). eqb x 0) (get_or-part (e - a) l a i m)) true

pub same_fold : (l : List ℕ) (a b n : ℕ) → a + n ≤ length l → b + n ≤ length l
    → fold (λ ok (p : ℕ × ℕ). ok && eqb p.0 p.1) true (zip (lent a (a + n - a) l) (lent b (b + n - b) l)) ≡ same l a b n
unfolding same
same_fold l a b n h k =
    rw (add-sub_cancel_left a n, add-sub_cancel_left b n, part-lent n l a h, part-lent n l b k)
    (all_fold (λ (p : ℕ × ℕ). eqb p.0 p.1) (0, 0) (zip (part n l a) (part n l b)) n _ (length-zip (part n l a) (part n l b) ∙ omega (arith, length_part n l a, length_part n l b))
    (λ i m. let x : i < length (part n l a) = omega (arith, length_part n l a) in
    let y : i < length (part n l b) = omega (arith, length_part n l b) in
    ap (λ (p : ℕ × ℕ). eqb p.0 p.1) (get_or-zip (part n l a) (part n l b) i (0, 0) x y) ∙ ap₂ eqb (get_or-part n l a i m) (get_or-part n l b i m)) true)

pub bytes_of : (l : List ℕ) → ((i : ℕ) → byte l i < 256) → all_bytes l ≡ true
unfolding all_bytes
bytes_of l h = all_of _ (length l) (λ i _. lt-ltb _ _ (h i))

pub bytes-at : (l : List ℕ) → all_bytes l ≡ true → (i : ℕ) → byte l i < 256
unfolding all_bytes
bytes-at l e i = by-lt i (length l)
    (λ h. ltb-true _ _ (all-at (λ i. ltb (byte l i) 256) (length l) e i h))
    (λ h. let z : byte l i ≡ 0 = get_or-eq_default l 0 h in omega arith)

-- ---- tables
-- the end of a loop over the used records, with the test of the others
pub table_done : (l : List ℕ) (at size most n : ℕ) (P : ℕ → Bool) {i : ℕ} {ok z : Bool} → i ≤ n → n ≤ i → ok ≡ all_below i P
    → z ≡ zeros l (at + size * n) (at + size * most) → (ok && z) ≡ table l at size most n P
unfolding table
table_done l at size most n P h k e f = ap₂ ◌&&◌ (all_done P h k e) f

module _ (l : List ℕ) (at size most n : ℕ) (P : ℕ → Bool) where
  pub table_at : table l at size most n P ≡ true → (k : ℕ) → k < n → P k ≡ true
  unfolding table
  table_at e k h = all-at P n (and_l (all_below n P) _ e) k h

  pub table-rest : table l at size most n P ≡ true → (i : ℕ) → at + size * n ≤ i → i < at + size * most → byte l i ≡ 0
  unfolding table
  table-rest e = zeros-at l (at + size * n) (at + size * most) (and_r (all_below n P) _ e)

  pub table_of : ((k : ℕ) → k < n → P k ≡ true) → ((i : ℕ) → at + size * n ≤ i → i < at + size * most → byte l i ≡ 0) → table l at size most n P ≡ true
  unfolding table
  table_of f g = and_both (all_below n P) _ (all_of P n f) (zeros_of l _ _ g)

-- ---- a table whose records are tables: r is the width of a row of `cols` records of w bytes. A byte of a record that is not used
pub grid-rest : (l : List ℕ) (at w cols r rows m n : ℕ) (P : ℕ → ℕ → Bool) → r ≡ w * cols
    → table l at r rows m (λ i. table l (at + r * i) w cols n (P i)) ≡ true
    → (i j x : ℕ) → i < rows → j < cols → x < w → (m ≤ i) ⊎ (n ≤ j) → byte l (at + r * i + w * j + x) ≡ 0
grid-rest l at w cols r rows m n P e t i j x hi hj hx out =
    let inside : w * suc j ≤ w * cols = mul-le-mul_left w hj in
    let s : w * suc j ≡ w * j + w = mul-suc w j in
    by-lt i m
    (λ h. table-rest l (at + r * i) w cols n (P i) (table_at l at r rows m _ t i h) _
    (⊎_elim (λ o. absurd (omega arith)) (λ o. let b : w * n ≤ w * j = mul-le-mul_left w o in omega arith) out) (omega arith))
    (λ h. let a : r * m ≤ r * i = mul-le-mul_left r h in
    let b : r * suc i ≤ r * rows = mul-le-mul_left r hi in
    table-rest l at r rows m _ t _ (omega arith) (omega (arith, mul-suc r i)))

-- and the other way: a table of tables passes where each used record does and every byte of the others is zero
module _ (l : List ℕ) (at w cols r rows m n : ℕ) (P : ℕ → ℕ → Bool) (e : r ≡ w * cols) (wide : 0 < w) (some : 0 < r) (few : m ≤ rows)
    (pass : (i j : ℕ) → i < m → j < n → P i j ≡ true)
    (zero· : (i j x : ℕ) → i < rows → j < cols → x < w → (m ≤ i) ⊎ (n ≤ j) → byte l (at + r * i + w * j + x) ≡ 0) where
  -- byte y of row i is byte x of record j
  in_row : (i y : ℕ) → i < rows → y < r → (m ≤ i) ⊎ (w * n ≤ y) → byte l (at + r * i + y) ≡ 0
  in_row i y hi hy o =
      let parts : y / w * w + y % w ≡ y = div-add-mod' y w in
      let here : at + r * i + y ≡ at + r * i + w * (y / w) + y % w = omega (arith, mul_comm w (y / w)) in
      ap (byte l) here ∙ zero· i (y / w) (y % w) hi ((div-lt_iff_lt-mul wide).1 (rw mul_comm (rw (← e) hy))) (mod-lt y wide)
      (⊎_elim (λ a. inl a) (λ a. inr (by-lt (y / w) n
      (λ b. absurd (let c = (div-lt_iff_lt-mul wide).0 b in omega (arith, mul_comm w n))) (λ b. b))) o)

  pub grid-of : table l at r rows m (λ i. table l (at + r * i) w cols n (P i)) ≡ true
  grid-of = table_of l at r rows m _
      (λ i hi. table_of l (at + r * i) w cols n (P i) (λ j. pass i j hi)
      (λ k a b. let here : k ≡ at + r * i + (k - (at + r * i)) = omega arith in
      ap (byte l) here ∙ in_row i (k - (at + r * i)) (omega arith) (omega arith) (inr (omega arith))))
      (λ k a b.
      let y = k - at in
      let parts : (k - at) / r * r + (k - at) % r ≡ k - at = div-add-mod' (k - at) r in
      let here : k ≡ at + r * ((k - at) / r) + (k - at) % r = omega (arith, mul_comm r ((k - at) / r)) in
      ap (byte l) here ∙ in_row ((k - at) / r) ((k - at) % r)
      ((div-lt_iff_lt-mul some).1 (omega (arith, mul_comm r rows))) (mod-lt (k - at) some)
      (inl (by-lt ((k - at) / r) m (λ c. absurd (let d = (div-lt_iff_lt-mul some).0 c in omega (arith, mul_comm r m))) (λ c. c))))

-- ---- what is used
pub used-in : (i m j n : ℕ) → i < m → j < n → used i m j n ≡ true
unfolding used
used-in i m j n h k = rw (lt-ltb i m h, lt-ltb j n k)

pub used-out : (i m j n : ℕ) → (m ≤ i) ⊎ (n ≤ j) → used i m j n ≡ false
unfolding used
used-out i m j n (inl h) = rw (le-ltb i m h)
used-out i m j n (inr h) = by-lt i m (λ k. rw (lt-ltb i m k, le-ltb j n h)) (λ k. rw (le-ltb i m k))

pub by-used {ℓ} : {P : Type ℓ} (i m j n : ℕ) → (i < m → j < n → P) → ((m ≤ i) ⊎ (n ≤ j) → P) → P
by-used i m j n f g = by-lt i m (λ h. by-lt j n (λ k. f h k) (λ k. g (inr k))) (λ h. g (inl h))

-- ---- a grid, cell by cell
module _ (l : List ℕ) (at : ℕ → ℕ → ℕ) (w rows cols m n : ℕ) (P : ℕ → ℕ → Bool) where
  pub cell-used : (i j : ℕ) → used i m j n ≡ true → cell_pass l at w m n P i j ≡ P i j
  unfolding cell_pass
  cell-used i j t = rw t

  pub cell_free : (i j : ℕ) → used i m j n ≡ false → cell_pass l at w m n P i j ≡ zeros l (at i j) (at i j + w)
  unfolding cell_pass
  cell_free i j f = rw f

  cell_in : (i j : ℕ) → i < m → j < n → cell_pass l at w m n P i j ≡ P i j
  cell_in i j h k = cell-used i j (used-in i m j n h k)

  cell_out : (i j : ℕ) → (m ≤ i) ⊎ (n ≤ j) → cell_pass l at w m n P i j ≡ zeros l (at i j) (at i j + w)
  cell_out i j o = cell_free i j (used-out i m j n o)

  cell_at : grid_pass l at w rows cols m n P ≡ true → (i j : ℕ) → i < rows → j < cols → cell_pass l at w m n P i j ≡ true
  unfolding grid_pass
  cell_at t i j h k = all-at _ cols (all-at _ rows t i h) j k

  pub cells_at : m ≤ rows → n ≤ cols → grid_pass l at w rows cols m n P ≡ true → (i j : ℕ) → i < m → j < n → P i j ≡ true
  cells_at hm hn t i j h k = sym (cell_in i j h k) ∙ cell_at t i j (omega arith) (omega arith)

  pub cells_rest : grid_pass l at w rows cols m n P ≡ true
      → (i j x : ℕ) → i < rows → j < cols → x < w → (m ≤ i) ⊎ (n ≤ j) → byte l (at i j + x) ≡ 0
  cells_rest t i j x hi hj hx o = zeros-at l (at i j) (at i j + w) (sym (cell_out i j o) ∙ cell_at t i j hi hj) (at i j + x) (omega arith) (omega arith)

  pub cells_of : ((i j : ℕ) → i < m → j < n → P i j ≡ true)
      → ((i j x : ℕ) → i < rows → j < cols → x < w → (m ≤ i) ⊎ (n ≤ j) → byte l (at i j + x) ≡ 0) → grid_pass l at w rows cols m n P ≡ true
  unfolding grid_pass
  cells_of f z = all_of _ rows (λ i hi. all_of _ cols (λ j hj. by-used i m j n
      (λ h k. cell_in i j h k ∙ f i j h k)
      (λ o. cell_out i j o ∙ zeros_of l (at i j) (at i j + w) (λ y a b.
      let e : at i j + (y - at i j) ≡ y = add-sub_of_le a in ap (byte l) (sym e) ∙ z i j (y - at i j) hi hj (omega arith) o))))
