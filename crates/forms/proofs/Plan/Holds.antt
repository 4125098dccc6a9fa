-- Bytes that hold a plan at their front: each cell of the layout has the bytes of its thing. The bytes of a plan do, and no others.
use mathlib.Core.Path.{◌≡◌, sym, ap, ap₂, ◌∙◌}
use mathlib.Core.List.{List, [], ◌∷◌, ◌++◌, append_assoc}
use Prim.Native.Nat.{ℕ, ◌+◌, ◌*◌, ◌≤◌, ◌<◌}
use native.Mathlib.Omega.{arith}
use lib.ListN.{length, length-append}
use borrow.Author.Tests.{lt-ltb, le-ltb}
use Rattle.bits.specs.Numbers.{bytes}
use Rattle.bits.specs.Parts.{part}
use Rattle.bits.proofs.Numbers.{length-bytes}
use Rattle.bits.proofs.Parts.{part-add, part_left, part_right, part-whole}
use Rattle.protocol.specs.Net.{most_stations, most_groups}
use Rattle.protocol.specs.Fresh.{Plan}
use Rattle.layout.specs.Layout.{plan_length, group_size, group_at, mask_at}
use Rattle.plan.specs.Planned.{Header}
use Rattle.forms.specs.Cells.{cells}
use Rattle.forms.specs.Plans.{name_bytes, header_bytes, group_cell, mask_cell, plan_bytes}
use Rattle.forms.proofs.Cells.{length-cells, part-cells, cells_of}

pub record HoldsPlan (P : Plan) (h : Header) (l : List ℕ) : Type 0 where
  pub head : part 8 l 0 ≡ header_bytes P h
  pub groups : (g : ℕ) → g < most_groups → part group_size l (group_at g) ≡ part group_size (group_cell P g) 0
  pub masks : (p : ℕ) → p < most_stations → part 2 l (mask_at p) ≡ part 2 (mask_cell P p) 0

-- ---- a cell that is used, and one that is not
module _ (P : Plan) where
  pub group-used : (g : ℕ) → g < P.groups → group_cell P g ≡ name_bytes (P.name g) ++ (P.root g ∷ [])
  unfolding group_cell
  group-used g h = rw (lt-ltb g P.groups h)

  pub group-unused : (g : ℕ) → P.groups ≤ g → group_cell P g ≡ []
  unfolding group_cell
  group-unused g h = rw (le-ltb g P.groups h)

  pub mask-used : (p : ℕ) → p < P.stations → mask_cell P p ≡ bytes 2 (P.neighbours p)
  unfolding mask_cell
  mask-used p h = rw (lt-ltb p P.stations h)

  pub mask-unused : (p : ℕ) → P.stations ≤ p → mask_cell P p ≡ []
  unfolding mask_cell
  mask-unused p h = rw (le-ltb p P.stations h)

module _ (P : Plan) (h : Header) where
  -- ---- the pieces, one after the other, and their lengths
  abbrev H : List ℕ
  H = header_bytes P h

  abbrev G : List ℕ
  G = cells group_size most_groups (group_cell P)

  abbrev M : List ℕ
  M = cells 2 most_stations (mask_cell P)

  length-header : length H ≡ 8
  unfolding header_bytes
  length-header = simp (length-append, length-bytes)

  length-groups : length G ≡ 72
  length-groups = length-cells group_size most_groups (group_cell P)

  length-masks : length M ≡ 32
  length-masks = length-cells 2 most_stations (mask_cell P)

  pub length-plan_bytes : length (plan_bytes P h) ≡ plan_length
  unfolding plan_bytes
  length-plan_bytes = omega (arith, length-append H (G ++ M), length-append G M, length-header, length-groups, length-masks)

  -- ---- what stands in a plan's bytes, whatever follows
  pub plan-holds : (rest : List ℕ) → HoldsPlan P h (plan_bytes P h ++ rest)
  unfolding plan_bytes
  plan-holds rest =
      let joined : (H ++ (G ++ M)) ++ rest ≡ H ++ (G ++ (M ++ rest)) = append_assoc H (G ++ M) rest ∙ ap (λ (r : List ℕ). H ++ r) (append_assoc G M rest) in
      let behind : (w k : ℕ) → part w ((H ++ (G ++ M)) ++ rest) (8 + k) ≡ part w (G ++ (M ++ rest)) k =
      λ w k. ap (λ (r : List ℕ). part w r (8 + k)) joined ∙ part_right w H (G ++ (M ++ rest)) length-header k in
      let at : (p : ℕ) → mask_at p ≡ 8 + (72 + 2 * p) = λ p. omega arith in
      record {
        head = ap (λ (r : List ℕ). part 8 r 0) joined ∙ part_left 8 H (G ++ (M ++ rest)) 0 (omega (arith, length-header)) ∙ part-whole 8 H length-header;
        groups = λ g b. behind group_size (group_size * g) ∙ part_left group_size G (M ++ rest) (group_size * g) (omega (arith, length-groups))
            ∙ part-cells group_size most_groups (group_cell P) g b;
        masks = λ p b. ap (part 2 ((H ++ (G ++ M)) ++ rest)) (at p) ∙ behind 2 (72 + 2 * p) ∙ part_right 2 G (M ++ rest) length-groups (2 * p)
            ∙ part_left 2 M rest (2 * p) (omega (arith, length-masks)) ∙ part-cells 2 most_stations (mask_cell P) p b;
      }

  pub holds-plan : (l : List ℕ) → HoldsPlan P h l → plan_bytes P h ≡ part plan_length l 0
  unfolding plan_bytes
  holds-plan l K =
      ap₂ ◌++◌ (sym K.head) (ap₂ ◌++◌
      (cells_of group_size most_groups (group_cell P) l 8 (λ g b. sym (K.groups g b)))
      (cells_of 2 most_stations (mask_cell P) l 80 (λ p b. sym (K.masks p b))))
      ∙ sym (part-add 8 104 l 0 ∙ ap (λ (r : List ℕ). part 8 l 0 ++ r) (part-add 72 32 l 8))
