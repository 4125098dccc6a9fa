-- The tree of a group, and what a call's answer says of it.
--     tree-rooted        on a well-shaped net the theorems of `tree` hold of every group
--     call-copies        one more than the copies is the number reached
--     call-reaches       the flood from a caller on the tree reaches just the stations of the reach list
--     call-off           a caller is refused with 8 exactly if it is on no tree
use mathlib.Core.Path.{◌≡◌, refl, sym, ap, ◌∙◌}
use mathlib.Core.Logic.{◌↔◌}
use mathlib.Core.Bool.{true}
use mathlib.Core.List.{◌∷◌}
use Prim.Native.Nat.{ℕ, suc, ◌-◌, ◌≤◌, ◌<◌}
use native.Mathlib.Nat.{le_refl}
use native.Mathlib.Omega.{arith}
use lib.Dec.{eqb}
use lib.ListN.{length, replicate, length-append, length-replicate}
use borrow.Author.Tests.{lt-ltb}
use Rattle.bits.specs.Sums.{bit}
use Rattle.bits.specs.Masks.{has}
use Rattle.bits.proofs.Cases.{and_l, is_false, clash}
use Rattle.bits.proofs.Masks.{has-zero}
use Rattle.tree.specs.Tree.{agreed, OnTree, on_tree, Rooted}
use Rattle.tree.specs.Reach.{reach, count}
use Rattle.tree.specs.Flood.{spread, receivers}
use Rattle.tree.proofs.Chains.{on-tree, reach-at-most}
use Rattle.tree.proofs.Floods.{flood-reaches, flood-copies}
use Rattle.protocol.specs.declared.Entry.{Entry}
use Rattle.protocol.specs.Net.{Net, nil, most_stations, group?, station?}
use Rattle.protocol.specs.Calls.{tree_of, call_outcome, no_reach, reach_list}
use Rattle.protocol.specs.Shaped.{Shaped}

module _ (N : Net) (H : Shaped N) (g : ℕ) (l : g < N.groups) where
  pub tree-rooted : Rooted (tree_of N g)
  unfolding tree_of agreed
  tree-rooted = record {
    low = λ p j a. let t : has (N.entry g p).children j ≡ true = and_l _ (eqb (N.entry g j).parent p) a in
        (H.plan.cables p j ((H.entries g p).children_near j t)).1;
    station = H.plan.roots g l;
    top = is_false _ (λ a. let few = H.plan.stations_most in
        let i : (N.entry g (N.root g)).parent ≡ nil = ((H.entries g (N.root g)).nil_at_root refl).0 in
        let t : has (N.entry g (N.entry g (N.root g)).parent).children (N.root g) ≡ true = and_l _ (eqb (N.entry g (N.root g)).parent (N.entry g (N.root g)).parent) a in
        let z : (N.entry g (N.entry g (N.root g)).parent).children ≡ 0 = ap (λ (v : Entry). v.children) (H.no_station g _ (omega arith)) in
        clash t (ap (λ (m : ℕ). has m (N.root g)) z ∙ has-zero (N.root g)));
  }

  few-stations : (tree_of N g).stations ≤ nil
  unfolding tree_of
  few-stations = let few = H.plan.stations_most in omega arith

  pub call-copies : (c : ℕ) → OnTree (tree_of N g) c → suc (length (spread (tree_of N g) c)) ≡ length (reach (tree_of N g))
  unfolding spread
  call-copies c o = flood-copies (tree_of N g) tree-rooted few-stations c o _ (le_refl _)

  pub call-reaches : (c : ℕ) → OnTree (tree_of N g) c → (x : ℕ) → count x (c ∷ receivers (spread (tree_of N g) c)) ≡ bit (on_tree (tree_of N g) x)
  unfolding spread
  call-reaches c o = flood-reaches (tree_of N g) tree-rooted few-stations c o _ (le_refl _)

  pub reach_few : length (reach (tree_of N g)) ≤ most_stations
  unfolding tree_of
  reach_few = let few = H.plan.stations_most in omega (arith, reach-at-most (tree_of N g) tree-rooted)

  pub reach_list-length : length (reach_list N g) ≡ most_stations
  unfolding reach_list
  reach_list-length = omega (
    arith,
    reach_few,
    length-append (reach (tree_of N g)) (replicate (most_stations - length (reach (tree_of N g))) no_reach),
    length-replicate (most_stations - length (reach (tree_of N g))) no_reach,
  )

  -- of a group, a station and a list that are in range
  module _ (c : ℕ) (inside : station? N c ≡ true) where
    pub call-off : (call_outcome N g c true ≡ 8) ↔ (OnTree (tree_of N g) c → ⊥)
    unfolding call_outcome group?
    call-off = (
      λ e o. absurd (let z : ◌≡◌ {A = ℕ} 0 8 = sym (on o) ∙ e in omega arith),
      λ off. rw (lt-ltb g N.groups l, inside, is_false (on_tree (tree_of N g) c) (λ t. off ((on-tree (tree_of N g) tree-rooted c).1 t))),
    )
      where
        on : OnTree (tree_of N g) c → call_outcome N g c true ≡ 0
        on o = rw (lt-ltb g N.groups l, inside, (on-tree (tree_of N g) tree-rooted c).0 o)
