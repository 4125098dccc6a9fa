-- "A call from a station on the tree reaches all stations on the tree", each once: what the list holds is what the flood reaches.
use mathlib.Core.Path.{◌≡◌, sym, ◌∙◌}
use mathlib.Core.Bool.{Bool, true, ◌&&◌}
use mathlib.Core.List.{List, ◌∷◌}
use Prim.Native.Nat.{ℕ, ◌<◌}
use native.Mathlib.Omega.{arith}
use borrow.Author.Tests.{ltb-true}
use Rattle.bits.specs.Sums.{bit}
use Rattle.bits.proofs.Cases.{and_l}
use Rattle.tree.specs.Tree.{Tree, on_tree}
use Rattle.tree.specs.Reach.{reach, stations_in, count}
use Rattle.tree.specs.Flood.{spread, receivers}
use Rattle.tree.proofs.Chains.{on-tree}
use Rattle.tree.proofs.Counts.{reach-count}
use Rattle.protocol.specs.Net.{group?, station?}
use Rattle.protocol.specs.Calls.{tree_of}
use Rattle.protocol.proofs.Calls.{tree-rooted, call-reaches}
use Rattle.shape.specs.Shape.{shaped}
use Rattle.net.specs.View.{view}
use Rattle.call.specs.Answers.{called_in}
use Rattle.contracts.proofs.Given.{passed, call-given}
use Rattle.net.proofs.Forms.{seen}

module _ (l : List ℕ) (g c : ℕ) (fits : Bool) (o : (called_in l g c fits).outcome ≡ 0) where
  abbrev t : Tree
  t = tree_of (view l) g

  -- the tests that an accepted call has passed
  all-passed : (shaped l ≡ true) × (((group? (view l) g && station? (view l) c) ≡ true) × (on_tree t c ≡ true))
  all-passed =
      let shape = passed _ _ (λ i. omega arith) ((call-given l g c fits 0).0 o) in
      let pair = passed _ _ (λ i. omega arith) shape.1 in
      let size = passed _ _ (λ i. omega arith) pair.1 in
      (shape.0, (pair.0, (passed _ _ (λ i. omega arith) size.1).0))

  inside : g < (view l).groups
  unfolding group?
  inside = ltb-true g (view l).groups (and_l (group? (view l) g) (station? (view l) c) all-passed.1.0)

  -- the caller and whoever gets the call from somebody are the stations of the reach list, each as often: once
  pub call-exact : (x : ℕ) → count x (c ∷ receivers (spread t c)) ≡ count x (stations_in (reach t))
  unfolding on_tree reach
  call-exact x =
      let H = seen _ l all-passed.0 in
      let w = tree-rooted (view l) H g inside in
      call-reaches (view l) H g inside c ((on-tree t w c).1 all-passed.1.1) x ∙ sym (reach-count t w t.stations 0 x)

  -- and those are the stations on the tree
  pub call-on-tree : (x : ℕ) → count x (stations_in (reach t)) ≡ bit (on_tree t x)
  unfolding on_tree reach
  call-on-tree x = reach-count t (tree-rooted (view l) (seen _ l all-passed.0) g inside) t.stations 0 x
