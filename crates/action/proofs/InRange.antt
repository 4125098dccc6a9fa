-- What operands in range give.
use mathlib.Core.Path.{◌≡◌}
use mathlib.Core.Logic.{◌≢◌}
use mathlib.Core.Bool.{Bool, true, ◌&&◌}
use Prim.Native.Nat.{ℕ, ◌<◌}
use native.Mathlib.Omega.{arith}
use lib.Dec.{eqb, ltb}
use borrow.Author.Tests.{ltb-true}
use Rattle.bits.proofs.Cases.{and_l, and_r}
use Rattle.protocol.specs.Net.{Net, nil, most_stations, group?, station?, near?}
use Rattle.protocol.specs.Shaped.{Shaped}
use Rattle.protocol.proofs.Shape.Actions.{cable, near-cable}

module _ (N : Net) where
  pub group-in : (g b c : ℕ) → (group? N g && eqb b 0 && eqb c 0) ≡ true → g < N.groups
  unfolding group?
  group-in g b c o = let t : ltb g N.groups ≡ true = search (and_l, and_r) in ltb-true _ _ t

  -- x is whatever the third operand is held against
  pub station-in : (g p : ℕ) (x : Bool) → (group? N g && station? N p && x) ≡ true → (g < N.groups) × (p < N.stations)
  unfolding group? station?
  station-in g p x o =
      let t : ltb g N.groups ≡ true = search (and_l, and_r) in
      let u : ltb p N.stations ≡ true = search (and_l, and_r) in
      (ltb-true _ _ t, ltb-true _ _ u)

  pub stations-in : (p d : ℕ) (x : Bool) → (station? N p && station? N d && x) ≡ true → (p < N.stations) × (d < N.stations)
  unfolding station?
  stations-in p d x o =
      let t : ltb p N.stations ≡ true = search (and_l, and_r) in
      let u : ltb d N.stations ≡ true = search (and_l, and_r) in
      (ltb-true _ _ t, ltb-true _ _ u)

  module _ (H : Shaped N) where
    pub cable-in : (s d : ℕ) (x : Bool) → (near? N s d && x) ≡ true → (s < N.stations) × (d < N.stations)
    cable-in s d x o = let t : near? N s d ≡ true = search and_l in let w = near-cable N H s d t in (w.0, w.1)

    pub pair-in : (g p q : ℕ) → (group? N g && near? N p q) ≡ true → (g < N.groups) × (p < N.stations) × (q < N.stations)
    unfolding group?
    pair-in g p q o =
        let t : ltb g N.groups ≡ true = search and_l in
        let u : near? N p q ≡ true = search and_r in
        let w = near-cable N H p q u in
        (ltb-true _ _ t, w.0, w.1)

    -- a route, and a parent, is nil or one of the sixteen
    pub route-small : (p d : ℕ) → N.route p d ≢ nil → N.route p d < most_stations
    route-small p d n = omega (arith, (cable N H p (N.route p d) (H.routes p d n).0).1, H.plan.stations_most)

    pub parent-small : (g p : ℕ) → (N.entry g p).parent ≢ nil → (N.entry g p).parent < most_stations
    parent-small g p n = omega (arith, (cable N H p (N.entry g p).parent ((H.entries g p).parent_near n)).1, H.plan.stations_most)
