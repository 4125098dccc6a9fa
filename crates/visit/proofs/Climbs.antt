-- Up the tree: whether p and j agree, and a chain hop by hop.
use mathlib.Core.Path.{◌≡◌, refl, sym, ap, ◌∙◌}
use mathlib.Core.Logic.{◌≢◌}
use mathlib.Core.Bool.{true, false, ◌&&◌}
use Prim.Native.Nat.{ℕ, zero, suc, ◌≤◌, ◌<◌}
use native.Mathlib.Omega.{arith}
use borrow.Author.Tests.{eq-eqb, ne_eqb}
use Rattle.bits.proofs.Cases.{by-lt, clash}
use Rattle.bits.proofs.Masks.{has-zero}
use Rattle.tree.specs.Tree.{Tree, agreed, climbs}
use Rattle.protocol.specs.declared.Entry.{Entry}
use Rattle.protocol.specs.Net.{Net}
use Rattle.protocol.specs.Calls.{tree_of}
use Rattle.protocol.specs.Shaped.{Shaped}

-- nobody past the last station lists anybody
pub past-last : (N : Net) → Shaped N → (g p j : ℕ) → N.stations ≤ p → false ≡ agreed (tree_of N g) p j
unfolding agreed tree_of
past-last N H g p j h =
    let z : (N.entry g p).children ≡ 0 = ap (λ (e : Entry). e.children) (H.no_station g p h) in
    rw (z, has-zero j) refl

pub agreed-station : (N : Net) → Shaped N → (g p j : ℕ) → agreed (tree_of N g) p j ≡ true → p < N.stations
agreed-station N H g p j a = by-lt p N.stations (λ h. h) (λ h. clash a (sym (past-last N H g p j h)))

module _ (t : Tree) where
  -- the chain goes on from x, with d hops left
  pub climb-none : (d x : ℕ) → d ≡ 0 → climbs t d x ≡ false
  unfolding climbs
  climb-none d x z = rw z refl

  pub climb-root : (d x : ℕ) → 0 < d → t.root ≡ x → climbs t d x ≡ true
  unfolding climbs
  climb-root zero x h e = absurd (omega arith)
  climb-root (suc d) x h e = rw (eq-eqb t.root x e)

  -- one hop, which leaves d
  module _ (d' d x q : ℕ) (one : d' ≡ suc d) (below : t.root ≢ x) (up : q ≡ t.parent x) where
    climb-hop : climbs t d' x ≡ (agreed t q x && climbs t d q)
    unfolding climbs
    climb-hop = rw (one, ne_eqb t.root x below, up)

    pub climb-up : agreed t q x ≡ true → climbs t d' x ≡ climbs t d q
    climb-up a = climb-hop ∙ rw a

    pub climb-off : agreed t q x ≡ false → climbs t d' x ≡ false
    climb-off a = climb-hop ∙ rw a
