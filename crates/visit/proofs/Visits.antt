-- Down the tree: the bytes of a visit, step by step, as the code takes them.
--     station-none, station-more      the allowance is used up; it is not
--     children-none, -take, -skip     the list of children is at its end; its next station is agreed; is not
-- and what each call asks, and leaves, from what the one before it did.
use mathlib.Core.Path.{◌≡◌, refl, ap, ◌∙◌}
use mathlib.Core.Logic.{◌≢◌}
use mathlib.Core.Bool.{true, false}
use mathlib.Core.List.{List, [], ◌∷◌, ◌++◌}
use Prim.Native.Nat.{ℕ, zero, suc, ◌+◌, ◌-◌, ◌≤◌, ◌<◌}
use native.Mathlib.Nat.{sub-zero, sub_self}
use native.Mathlib.Numerals.{add-one, sub-one}
use native.Mathlib.Omega.{arith}
use lib.ListN.{length, length-append}
use Rattle.bits.specs.Parts.{splice, Wrote}
use Rattle.bits.proofs.Parts.{length-splice, splice-append, wrote_then}
use Rattle.tree.specs.declared.Reach.{Reach}
use Rattle.tree.specs.Tree.{Tree, agreed}
use Rattle.tree.specs.Reach.{keep, picked, visits, visit}
use Rattle.protocol.specs.Calls.{tree_of}
use Rattle.net.specs.View.{view}
use Rattle.visit.specs.Lists.{reach_bytes, list_length}
use Rattle.visit.specs.Inner.Visits.{station_bytes, children_bytes, MayVisit}

pub reach-append : (a b : List Reach) → reach_bytes (a ++ b) ≡ reach_bytes a ++ reach_bytes b
unfolding reach_bytes
reach-append [] b = refl
reach-append (x ∷ a) b = ap (λ (r : List ℕ). x.station ∷ x.parent ∷ x.depth ∷ r) (reach-append a b)

module _ (t : Tree) where
  station-none : (d e p : ℕ) → d ≡ 0 → station_bytes t d e p ≡ []
  unfolding station_bytes visit reach_bytes
  station-none d e p z = rw z

  more : (d e p : ℕ) → station_bytes t (suc d) e p ≡ p ∷ t.parent p ∷ e ∷ children_bytes t d (suc e) p 0
  unfolding station_bytes children_bytes visit reach_bytes
  more d e p = rw sub-zero

  station-more : (d e p : ℕ) → d ≢ 0 → station_bytes t d e p ≡ p ∷ t.parent p ∷ e ∷ children_bytes t (d - 1) (e + 1) p 0
  station-more zero e p h = absurd (h refl)
  station-more (suc d) e p h = more d e p ∙ rw (add-one, sub-one)

  children-none : (d e p j : ℕ) → j ≡ t.stations → children_bytes t d e p j ≡ []
  unfolding children_bytes visits picked reach_bytes
  children-none d e p j q = rw (q, sub_self)

  children-step : (d e p j : ℕ) → j < t.stations → children_bytes t d e p j ≡ reach_bytes (visits (visit t d e) (keep (agreed t p j) j (picked (agreed t p) (suc j) (t.stations - (j + 1)))))
  unfolding children_bytes picked
  children-step d e p j lt =
      let q : t.stations - j ≡ suc (t.stations - (j + 1)) = omega arith in
      ap (λ (k : ℕ). reach_bytes (visits (visit t d e) (picked (agreed t p) j k))) q

  children-take : (d e p j : ℕ) → j < t.stations → agreed t p j ≡ true → children_bytes t d e p j ≡ station_bytes t d e j ++ children_bytes t d e p (j + 1)
  unfolding station_bytes children_bytes visits
  children-take d e p j lt a = children-step d e p j lt ∙ rw (a, add-one) (reach-append _ _)

  children-skip : (d e p j : ℕ) → j < t.stations → agreed t p j ≡ false → children_bytes t d e p j ≡ children_bytes t d e p (j + 1)
  unfolding children_bytes
  children-skip d e p j lt a = children-step d e p j lt ∙ rw (a, add-one)

-- ---- the calls, over the bytes l of a net: the station p at the depth e with the allowance d
module _ (l : List ℕ) (g e d : ℕ) where
  abbrev t : Tree
  t = tree_of (view l) g

  -- nothing to visit
  pub none-wrote : (o : List ℕ) (p at : ℕ) → d ≡ 0 → Wrote o o at at (station_bytes t d e p)
  unfolding splice
  none-wrote o p at z = rw (station-none t d e p z) (record { next = omega arith; bytes = refl })

  pub end-wrote : (o : List ℕ) (p j at : ℕ) → j ≡ (view l).stations → Wrote o o at at (children_bytes t d e p j)
  unfolding tree_of splice
  end-wrote o p j at q = rw (children-none t d e p j q) (record { next = omega arith; bytes = refl })

  -- the next station j is agreed: room for its bytes, and after them for the rest
  length-take : (p j : ℕ) → j < (view l).stations → agreed t p j ≡ true → length (children_bytes t d e p j) ≡ length (station_bytes t d e j) + length (children_bytes t d e p (j + 1))
  unfolding tree_of
  length-take p j lt a = ap length (children-take t d e p j lt a) ∙ length-append (station_bytes t d e j) (children_bytes t d e p (j + 1))

  pub take-fit : (o : List ℕ) (p j at : ℕ) → j < (view l).stations → agreed t p j ≡ true → MayVisit l o g p e d at (children_bytes t d e p j) → MayVisit l o g j e d at (station_bytes t d e j)
  take-fit o p j at lt a F = record {
    group = F.group;
    station = lt;
    long = F.long;
    deep = F.deep;
    room = omega (arith, F.room, length-take p j lt a);
  }

  pub rest-fit : (o o' : List ℕ) (p j at r : ℕ) → j < (view l).stations → agreed t p j ≡ true → MayVisit l o g p e d at (children_bytes t d e p j)
      → Wrote o o' at r (station_bytes t d e j) → MayVisit l o' g p e d r (children_bytes t d e p (j + 1))
  rest-fit o o' p j at r lt a F W = record {
    group = F.group;
    station = F.station;
    long = ap length W.bytes ∙ length-splice o at (station_bytes t d e j) ∙ F.long;
    deep = F.deep;
    room = omega (arith, F.room, W.next, length-take p j lt a);
  }

  pub both-wrote : (o o' o'' : List ℕ) (p j at r r' : ℕ) → j < (view l).stations → agreed t p j ≡ true → Wrote o o' at r (station_bytes t d e j)
      → Wrote o' o'' r r' (children_bytes t d e p (j + 1)) → Wrote o o'' at r' (children_bytes t d e p j)
  unfolding tree_of
  both-wrote o o' o'' p j at r r' lt a W X = rw (children-take t d e p j lt a) (wrote_then W X)

  -- the next station is not agreed
  pub skip-fit : (o : List ℕ) (p j at : ℕ) → j < (view l).stations → agreed t p j ≡ false → MayVisit l o g p e d at (children_bytes t d e p j) → MayVisit l o g p e d at (children_bytes t d e p (j + 1))
  unfolding tree_of
  skip-fit o p j at lt a F = rw (← children-skip t d e p j lt a) F

  pub skip-wrote : (o o' : List ℕ) (p j at r : ℕ) → j < (view l).stations → agreed t p j ≡ false → Wrote o o' at r (children_bytes t d e p (j + 1)) → Wrote o o' at r (children_bytes t d e p j)
  unfolding tree_of
  skip-wrote o o' p j at r lt a W = rw (children-skip t d e p j lt a) W

  -- the station's own entry is put: room for it, and after it for the children
  abbrev line : ℕ → List ℕ
  line p = p ∷ ((view l).entry g p).parent ∷ e ∷ []

  pub line-room : (o : List ℕ) (p at : ℕ) → d ≢ 0 → MayVisit l o g p e d at (station_bytes t d e p) → at + 3 ≤ list_length
  line-room o p at h F = omega (arith, F.room, ap length (station-more t d e p h))

  pub line-fit : (o o' : List ℕ) (p at : ℕ) → d ≢ 0 → MayVisit l o g p e d at (station_bytes t d e p) → length o' ≡ length o
      → MayVisit l o' g p (e + 1) (d - 1) (at + 3) (children_bytes t (d - 1) (e + 1) p 0)
  line-fit o o' p at h F k = record {
    group = F.group;
    station = F.station;
    long = k ∙ F.long;
    deep = omega (arith, F.deep);
    room = omega (arith, F.room, ap length (station-more t d e p h));
  }

  pub line_wrote : (o o' o'' : List ℕ) (p at r : ℕ) → d ≢ 0 → o' ≡ splice o at (line p)
      → Wrote o' o'' (at + 3) r (children_bytes t (d - 1) (e + 1) p 0) → Wrote o o'' at r (station_bytes t d e p)
  unfolding tree_of
  line_wrote o o' o'' p at r h i W = record {
    next = omega (arith, W.next, ap length (station-more t d e p h));
    bytes = W.bytes ∙ rw (i, station-more t d e p h) (splice-append o at (line p) (children_bytes t (d - 1) (e + 1) p 0));
  }
