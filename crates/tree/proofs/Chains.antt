-- Who is on the tree, and the reach list.
--     chain-short       an agreed chain to the root has fewer hops than there are stations
--     on-tree           the test `on_tree` decides whether a station is on the tree
--     reach-once        the reach list holds a station on the tree once
--     reach-never       and no other
--     reach-at-most     so that it has at most n lines
use mathlib.Core.Path.{◌≡◌, refl, sym, ap, ◌∙◌, subst}
use mathlib.Core.List.{List, [], ◌∷◌}
use mathlib.Core.Logic.{◌↔◌}
use mathlib.Core.Bool.{true, false, ◌&&◌, true≢false}
use Prim.Native.Nat.{ℕ, zero, suc, ◌+◌, ◌-◌, ◌≤◌, ◌<◌}
use native.Mathlib.Nat.{zero-add, suc-add}
use native.Mathlib.Omega.{arith}
use lib.ListN.{length}
use lib.Dec.{eqb}
use borrow.Author.Tests.{eqb-true, eq-eqb, ne_eqb}
use Rattle.bits.specs.Sums.{bit, over}
use Rattle.bits.proofs.Sums.{over-ext, over-le, over-strict}
use Rattle.bits.proofs.Cases.{and_l, and_r, and_both, by-or, or_r, is_false, clash}
use Rattle.tree.specs.declared.Reach.{Reach}
use Rattle.tree.specs.Tree.{Tree, agreed, Chain, OnTree, climbs, on_tree, Rooted}
use Rattle.tree.specs.Tree.Chain.{here, hop}
use Rattle.tree.specs.Reach.{visit, reach, stations_in, count}
use Rattle.tree.proofs.Sums.{length-count, one-le, one-mono}
use Rattle.tree.proofs.Counts.{reach-count}

length-stations : (l : List Reach) → length (stations_in l) ≡ length l
unfolding stations_in
length-stations [] = refl
length-stations (x ∷ l) = ap suc (length-stations l)

module _ (t : Tree) (w : Rooted t) where
  -- ---- chains and the test
  pub chain-low : {x k : ℕ} → Chain t x k → x < t.stations
  chain-low here = w.station
  chain-low (hop {x = x} a c) = w.low (t.parent x) x a

  pub chain-climbs : {x k : ℕ} → Chain t x k → climbs t (suc k) x ≡ true
  unfolding climbs
  chain-climbs here = rw (eq-eqb t.root t.root refl)
  chain-climbs (hop {x = x} {k} a c) =
      or_r (eqb t.root x) (agreed t (t.parent x) x && climbs t (suc k) (t.parent x)) (and_both _ _ a (chain-climbs c))

  climbs-chain : (d x : ℕ) → climbs t d x ≡ true → (k : ℕ) × (k < d) × Chain t x k
  unfolding climbs
  climbs-chain zero x e = absurd (true≢false (sym e))
  climbs-chain (suc d) x e =
      by-or (eqb t.root x) (agreed t (t.parent x) x && climbs t d (t.parent x)) e
      (λ q. (0, omega arith, subst (λ (y : ℕ). Chain t y 0) (eqb-true t.root x q) here))
      (λ q. let c = climbs-chain d (t.parent x) (and_r (agreed t (t.parent x) x) (climbs t d (t.parent x)) q) in
      let lt = c.1 in
      (suc c.0, omega arith, hop (and_l (agreed t (t.parent x) x) (climbs t d (t.parent x)) q) c.2))

  not_root : (x : ℕ) → agreed t (t.parent x) x ≡ true → eqb t.root x ≡ false
  not_root x a = ne_eqb t.root x (λ q. clash a (ap (λ (y : ℕ). agreed t (t.parent y) y) (sym q) ∙ w.top))

  -- the number of hops is fixed: no chain is found sooner
  pub not-sooner : {x k : ℕ} → Chain t x k → climbs t k x ≡ false
  unfolding climbs
  not-sooner here = refl
  not-sooner (hop {x = x} a c) = rw (not_root x a, a) (not-sooner c)

  grows : (d x : ℕ) → climbs t d x ≡ true → climbs t (suc d) x ≡ true
  unfolding climbs
  grows zero x e = absurd (true≢false (sym e))
  grows (suc d) x e =
      by-or (eqb t.root x) (agreed t (t.parent x) x && climbs t d (t.parent x)) e (λ q. rw q)
      (λ q. or_r (eqb t.root x) _
      (and_both _ _ (and_l (agreed t (t.parent x) x) (climbs t d (t.parent x)) q)
      (grows d (t.parent x) (and_r (agreed t (t.parent x) x) (climbs t d (t.parent x)) q))))

  pub grows-by : (d k x : ℕ) → climbs t d x ≡ true → climbs t (k + d) x ≡ true
  grows-by d zero x e = rw zero-add e
  grows-by d (suc k) x e = rw suc-add (grows (k + d) x (grows-by d k x e))

  -- ---- a chain has fewer than n hops: at each number of hops up to its own the tree has one station more
  more : {x k : ℕ} → Chain t x k → over (λ y. bit (climbs t k y)) 0 t.stations < over (λ y. bit (climbs t (suc k) y)) 0 t.stations
  more {x} {k} c =
      let lt = chain-low c in
      over-strict (λ y. bit (climbs t k y)) (λ y. bit (climbs t (suc k) y)) (λ y. one-mono (climbs t k y) (climbs t (suc k) y) (grows k y)) x
      (rw (not-sooner c, chain-climbs c) (omega arith)) 0 t.stations (omega arith) (omega arith)

  many : {x k : ℕ} → Chain t x k → suc k ≤ over (λ y. bit (climbs t (suc k) y)) 0 t.stations
  many here = let m = more here in omega arith
  many (hop {k = k} a c) = let i = many c in let m = more (hop a c) in omega arith

  pub chain-short : {x k : ℕ} → Chain t x k → k < t.stations
  chain-short {x} {k} c =
      let m = many c in
      omega (arith, over-le (λ y. bit (climbs t (suc k) y)) (λ y. one-le (climbs t (suc k) y)) 0 t.stations)

  pub on-tree : (x : ℕ) → OnTree t x ↔ (on_tree t x ≡ true)
  unfolding on_tree
  on-tree x = (
    λ o. let lt = chain-short o.chain in
        let e : t.stations - suc o.hops + suc o.hops ≡ t.stations = omega arith in
        subst (λ (d : ℕ). climbs t d x ≡ true) e (grows-by (suc o.hops) (t.stations - suc o.hops) x (chain-climbs o.chain)),
    λ e. let c = climbs-chain t.stations x e in record { hops = c.0; chain = c.2 },
  )

  -- ---- the reach list
  pub off-tree : (d x : ℕ) → t.stations ≤ x → climbs t d x ≡ false
  off-tree d x le = is_false (climbs t d x) (λ e. let c = climbs-chain d x e in let lt = chain-low c.2 in omega arith)

  pub visit-length : (d e : ℕ) → length (visit t d e t.root) ≡ over (λ x. bit (climbs t d x)) 0 t.stations
  visit-length d e =
      sym (length-stations (visit t d e t.root))
      ∙ length-count t.stations (stations_in (visit t d e t.root)) (λ x le. reach-count t w d e x ∙ ap bit (off-tree d x le))
      ∙ over-ext _ _ (λ x. reach-count t w d e x) 0 t.stations

  pub reach-once : (x : ℕ) → OnTree t x → count x (stations_in (reach t)) ≡ 1
  unfolding reach on_tree
  reach-once x o = reach-count t w t.stations 0 x ∙ ap bit ((on-tree x).0 o)

  pub reach-never : (x : ℕ) → (OnTree t x → ⊥) → count x (stations_in (reach t)) ≡ 0
  unfolding reach on_tree
  reach-never x off = reach-count t w t.stations 0 x ∙ ap bit (is_false (climbs t t.stations x) (λ e. off ((on-tree x).1 e)))

  pub reach-at-most : length (reach t) ≤ t.stations
  unfolding reach
  reach-at-most = rw (visit-length t.stations 0)
      (over-le (λ x. bit (climbs t t.stations x)) (λ x. one-le (climbs t t.stations x)) 0 t.stations)
