-- A thing in its bytes, and a table of things: a grid whose cells hold them.
use Rattle.std.specs.Prelude.{◌≡◌, Bool, true, cond, List, ℕ, length}
use Rattle.bits.specs.Parts.{part}
use Rattle.bits.specs.Numbers.{Bytes}
use Rattle.layout.specs.Bounded.{used}
use Rattle.forms.specs.Cells.{if_used, EachByte}
use Rattle.forms.specs.Places.{Place, PlanBounds}
use Rattle.forms.specs.Grids.{Grid}

-- how a thing is written in w bytes, read and tested, and that the three agree; S says what it is to be well shaped at a place
pub record Codec (w : ℕ) (A : Type 0) (S : Place → A → Type 0) : Type 1 where
  pub out : A → List ℕ
  pub into : List ℕ → A
  -- the test of the bytes at an index
  pub test : Place → List ℕ → ℕ → Bool
  -- it has room in w bytes
  pub Fits : A → Type 0
  pub fits : (c : Place) (a : A) → S c a → Fits a
  pub long : (a : A) → Fits a → length (out a) ≡ w
  -- a well-shaped thing: its bytes are bytes, it comes back from them, and wherever they stand they pass
  pub bytes : (c : Place) (a : A) → PlanBounds c → S c a → EachByte (out a)
  pub back : (c : Place) (a : A) → PlanBounds c → S c a → into (out a) ≡ a
  pub passes : (c : Place) (a : A) → PlanBounds c → S c a → (l : List ℕ) (at : ℕ) → Bytes l → part w l at ≡ out a → test c l at ≡ true
  -- bytes that passed: they show a well-shaped thing, and come back from it
  pub shows : (c : Place) (l : List ℕ) (at : ℕ) → Bytes l → test c l at ≡ true → S c (into (part w l at))
  pub form : (c : Place) (l : List ℕ) (at : ℕ) → Bytes l → test c l at ≡ true → out (into (part w l at)) ≡ part w l at

pub record Table (rows cols : ℕ) (A : Type 0) (S : Place → A → Type 0) : Type 1 where
  pub grid : Grid rows cols
  pub codec : Codec grid.width A S

-- m rows and n columns are used; the others show `void`
module _ {rows cols : ℕ} {A : Type 0} {S : Place → A → Type 0} (T : Table rows cols A S) (m n : ℕ) where
  abbrev pub shown : A → List ℕ → ℕ → ℕ → A
  shown void l i j = cond (used i m j n) (T.codec.into (part T.grid.width l (T.grid.at i j))) void

  abbrev pub tested : (ℕ → ℕ → Place) → List ℕ → Bool
  tested c l = T.grid.pass l m n (λ i j. T.codec.test (c i j) l (T.grid.at i j))

  abbrev pub cell : (ℕ → ℕ → A) → ℕ → ℕ → List ℕ
  cell t i j = if_used (used i m j n) (T.codec.out (t i j))
