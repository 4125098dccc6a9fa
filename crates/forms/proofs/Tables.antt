-- Tables: each law is said once, for any thing and any grid.
--     held      a table that passed its test holds what it shows;           shows: and what it shows is well shaped
--     back      a table that holds well-shaped things shows them;           passed: and passes its test
--     put, kept, within    one thing put anew, something put beside the table, and where a thing stands
use mathlib.Core.Path.{◌≡◌, sym, ap, ◌∙◌}
use mathlib.Core.Logic.{◌⊎◌, inl, inr, ⊎_elim, ◌≢◌}
use mathlib.Core.Bool.{true}
use mathlib.Core.List.{List, []}
use Prim.Native.Nat.{ℕ, ◌+◌, ◌≤◌, ◌<◌}
use native.Mathlib.Omega.{arith}
use lib.ListN.{length}
use Rattle.bits.specs.Parts.{part, splice}
use Rattle.bits.proofs.Cases.{by-eq}
use Rattle.bits.specs.Numbers.{Bytes}
use Rattle.bits.proofs.Parts.{part-splice, part-splice-out, part-whole}
use Rattle.protocol.specs.Net.{upd2}
use Rattle.protocol.specs.Shaped.{none}
use Rattle.protocol.proofs.Laws.Maps.{upd2-hit, upd2-miss}
use Rattle.layout.specs.Bounded.{used}
use Rattle.layout.proofs.Bounded.{used-in, used-out, by-used}
use Rattle.forms.specs.Cells.{if_used, EachByte}
use Rattle.forms.specs.Places.{Place, PlanBounds}
use Rattle.forms.specs.Tables.{Table, shown, tested, cell}
use Rattle.forms.proofs.Cells.{is-cell, is_zero, zero-cell}

-- both numbers the same, or one of them not
by-pair : {P : Type 0} (a b c d : ℕ) → (a ≡ c → b ≡ d → P) → ((a ≢ c) ⊎ (b ≢ d) → P) → P
by-pair a b c d f g = by-eq a c (λ e. by-eq b d (λ e'. f e e') (λ n. g (inr n))) (λ n. g (inl n))

-- a thing that fits stands in its cell, within the stretch of its table
pub within : {rows cols : ℕ} {A : Type 0} {S : Place → A → Type 0} (T : Table rows cols A S) (i j : ℕ) (v : A) → i < rows → j < cols → T.codec.Fits v
    → (T.grid.from ≤ T.grid.at i j) × (T.grid.at i j + length (T.codec.out v) ≤ T.grid.to)
within T i j v hi hj f = let w = T.grid.laid.inside i j hi hj in let n = T.codec.long v f in (w.0, omega arith)

-- l holds the things t in the table T, of which m rows and n columns are used: each cell has the bytes of its thing
abbrev pub HoldsIn : {rows cols : ℕ} {A : Type 0} {S : Place → A → Type 0} → Table rows cols A S → (m n : ℕ) → (ℕ → ℕ → A) → List ℕ → Type 0
HoldsIn {rows} {cols} T m n t l = (i j : ℕ) → i < rows → j < cols → part T.grid.width l (T.grid.at i j) ≡ part T.grid.width (cell T m n t i j) 0

-- things that are well shaped wherever they are used, at places c
pub record ShapedIn {rows cols : ℕ} {A : Type 0} {S : Place → A → Type 0} (T : Table rows cols A S) (m n : ℕ) (c : ℕ → ℕ → Place) (t : ℕ → ℕ → A) : Type 0 where
  pub few_rows : m ≤ rows
  pub few_cols : n ≤ cols
  pub bounds : (i j : ℕ) → i < m → j < n → PlanBounds (c i j)
  pub shaped : (i j : ℕ) → i < m → j < n → S (c i j) (t i j)

module _ {rows cols : ℕ} {A : Type 0} {S : Place → A → Type 0} (T : Table rows cols A S) (m n : ℕ) where
  abbrev w : ℕ
  w = T.grid.width

  pub shown-in : (void : A) (l : List ℕ) (i j : ℕ) → i < m → j < n → shown T m n void l i j ≡ T.codec.into (part T.grid.width l (T.grid.at i j))
  shown-in void l i j h k = rw (used-in i m j n h k)

  pub shown-out : (void : A) (l : List ℕ) (i j : ℕ) → (m ≤ i) ⊎ (n ≤ j) → shown T m n void l i j ≡ void
  shown-out void l i j o = rw (used-out i m j n o)

  cell_in : (t : ℕ → ℕ → A) (i j : ℕ) → i < m → j < n → cell T m n t i j ≡ T.codec.out (t i j)
  cell_in t i j h k = rw (used-in i m j n h k)

  cell_out : (t : ℕ → ℕ → A) (i j : ℕ) → (m ≤ i) ⊎ (n ≤ j) → cell T m n t i j ≡ []
  cell_out t i j o = rw (used-out i m j n o)

  -- ---- from bytes that passed
  module _ (void : A) (hm : m ≤ rows) (hn : n ≤ cols) (c : ℕ → ℕ → Place) (l : List ℕ) (b : Bytes l) (t : tested T m n c l ≡ true) where
    passed-at : (i j : ℕ) → i < m → j < n → T.codec.test (c i j) l (T.grid.at i j) ≡ true
    passed-at i j h k = T.grid.passes.used l m n _ hm hn t i j h k

    pub shows : (i j : ℕ) → i < m → j < n → S (c i j) (shown T m n void l i j)
    shows i j h k = rw (used-in i m j n h k) (T.codec.shows (c i j) l _ b (passed-at i j h k))

    pub held : HoldsIn T m n (shown T m n void l) l
    held i j hi hj = by-used i m j n
        (λ h k. is-cell w l (T.grid.at i j) _ (cell_in (shown T m n void l) i j h k ∙ ap T.codec.out (shown-in void l i j h k) ∙ T.codec.form (c i j) l _ b (passed-at i j h k)))
        (λ o. is_zero w l (T.grid.at i j) _ (cell_out (shown T m n void l) i j o) (λ x hx. T.grid.passes.rest l m n _ t i j x hi hj hx o))

  -- ---- from bytes that hold well-shaped things
  module _ (c : ℕ → ℕ → Place) (t : ℕ → ℕ → A) (F : ShapedIn T m n c t) where
    module _ (l : List ℕ) (K : HoldsIn T m n t l) where
      here : (i j : ℕ) → i < m → j < n → part T.grid.width l (T.grid.at i j) ≡ T.codec.out (t i j)
      here i j h k =
          K i j (omega (arith, F.few_rows)) (omega (arith, F.few_cols)) ∙ ap (λ (x : List ℕ). part T.grid.width x 0) (cell_in t i j h k)
          ∙ part-whole T.grid.width _ (T.codec.long (t i j) (T.codec.fits (c i j) (t i j) (F.shaped i j h k)))

      pub back : (void : A) → ((i j : ℕ) → (m ≤ i) ⊎ (n ≤ j) → t i j ≡ void) → (i j : ℕ) → shown T m n void l i j ≡ t i j
      back void z i j = by-used i m j n
          (λ h k. shown-in void l i j h k ∙ ap T.codec.into (here i j h k) ∙ T.codec.back (c i j) (t i j) (F.bounds i j h k) (F.shaped i j h k))
          (λ o. shown-out void l i j o ∙ sym (z i j o))

      pub passed : Bytes l → tested T m n c l ≡ true
      passed b = T.grid.passes.both l m n _ F.few_rows F.few_cols
          (λ i j h k. T.codec.passes (c i j) (t i j) (F.bounds i j h k) (F.shaped i j h k) l _ b (here i j h k))
          (λ i j x hi hj hx o. zero-cell w l (T.grid.at i j) _ (K i j hi hj) (cell_out t i j o) x hx)

    pub each_laid : EachByte (T.grid.lay (cell T m n t))
    each_laid = T.grid.laid.bytes _ (λ i j. by-used i m j n
        (λ h k. rw (used-in i m j n h k) (T.codec.bytes (c i j) (t i j) (F.bounds i j h k) (F.shaped i j h k)))
        (λ o. rw (used-out i m j n o) none))

  -- ---- something put in the bytes
  module _ (t : ℕ → ℕ → A) (l : List ℕ) (K : HoldsIn T m n t l) where
    -- beside the table
    pub kept : (at : ℕ) (vs : List ℕ) → (at + length vs ≤ T.grid.from) ⊎ (T.grid.to ≤ at) → HoldsIn T m n t (splice l at vs)
    kept at vs o i j hi hj =
        let f = T.grid.laid.inside i j hi hj in
        part-splice-out w l at vs (T.grid.at i j) (⊎_elim (λ a. inr (omega arith)) (λ a. inl (omega arith)) o) ∙ K i j hi hj

    -- in one of its cells
    pub put : (i j : ℕ) (v : A) → i < m → j < n → m ≤ rows → n ≤ cols → T.grid.to ≤ length l → T.codec.Fits v
        → HoldsIn T m n (upd2 t i j v) (splice l (T.grid.at i j) (T.codec.out v))
    put i j v hi hj hm hn room f x y hx hy =
        let vs : List ℕ = T.codec.out v in
        let e : length (T.codec.out v) ≡ T.grid.width = T.codec.long v f in
        let in-it = T.grid.laid.inside i j (omega arith) (omega arith) in
        by-pair x y i j
        (λ a b. rw (a, b) (ap (λ (k : ℕ). part k (splice l (T.grid.at i j) vs) (T.grid.at i j)) (sym e) ∙ part-splice l (T.grid.at i j) vs (omega arith)
        ∙ sym (ap (λ (ys : List ℕ). part w ys 0) (cell_in (upd2 t i j v) i j hi hj ∙ ap T.codec.out (upd2-hit t i j v)) ∙ part-whole w vs e)))
        (λ o. part-splice-out w l (T.grid.at i j) vs (T.grid.at x y) (⊎_elim (λ a. inl a) (λ a. inr (omega arith)) (T.grid.laid.apart i j x y (omega arith) (omega arith) hx hy o))
        ∙ K x y hx hy ∙ ap (λ (u : A). part w (if_used (used x m y n) (T.codec.out u)) 0) (sym (upd2-miss t i j v x y (λ a b. ⊎_elim (λ ne. ne a) (λ ne. ne b) o))))

    -- things that are the same wherever they are used
    pub same : (u : ℕ → ℕ → A) → ((i j : ℕ) → i < m → j < n → t i j ≡ u i j) → HoldsIn T m n u l
    same u e i j hi hj = K i j hi hj ∙ ap (λ (x : List ℕ). part w x 0) (by-used i m j n
        (λ h k. cell_in t i j h k ∙ ap T.codec.out (e i j h k) ∙ sym (cell_in u i j h k))
        (λ o. cell_out t i j o ∙ sym (cell_out u i j o)))
