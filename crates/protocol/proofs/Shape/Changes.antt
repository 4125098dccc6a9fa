-- A fresh net is well shaped; and a net stays so where one thing of it changes, if what is put is well shaped.
--     fresh-shaped
--     entry-shaped, send-shaped, take-shaped, route-shaped
use mathlib.Core.Path.{◌≡◌, refl}
use mathlib.Core.Logic.{◌≢◌}
use mathlib.Core.Bool.{true}
use mathlib.Core.List.{List}
use Prim.Native.Nat.{ℕ, ◌≤◌, ◌<◌}
use native.Mathlib.Nat.{le_trans}
use native.Mathlib.Omega.{arith}
use lib.ListN.{length}
use Rattle.bits.specs.Masks.{has}
use Rattle.bits.proofs.Cases.{clash}
use Rattle.bits.proofs.Masks.{has-zero}
use Rattle.protocol.specs.Net.{NetOf, nil, set_entry, set_channel, set_route, send, take_at}
use Rattle.protocol.specs.Fresh.{Plan, blank, fresh}
use Rattle.protocol.specs.Shaped.{none, ShapedPlan, ShapedEntry, Version, ShapedChannelOf, ShapedOf, Shaped}
use Rattle.protocol.proofs.Laws.Maps.{upd2-all, All-snoc, All-remove, length-snoc, length-remove}

-- ---- a fresh net
pub blank-shaped : (nb r p : ℕ) → ShapedEntry nb r p blank
blank-shaped nb r p = record {
  parent_near = λ n. absurd (n refl);
  tentative_near = λ n. absurd (n refl);
  nil_at_root = λ _. (refl, refl);
  flag = omega arith;
  children_near = λ x t. clash t (has-zero x);
  waiting_near = λ x t. clash t (has-zero x);
  clock_fits = omega arith;
}

pub fresh-shaped : (P : Plan) → ShapedPlan P → Shaped (fresh P)
unfolding fresh
fresh-shaped P G = record {
  plan = G;
  routes = λ p d n. absurd (n refl);
  entries = λ g p. blank-shaped (P.neighbours p) (P.root g) p;
  channels = λ s d. record { at_most = omega arith; near = λ l. absurd (omega arith); each = none };
  no_station = λ g p _. refl;
  no_group = λ g p _. refl;
}

-- ---- one thing changes, in a net of any version
module _ {E M : Type 0} {v : Version E M} (N : NetOf E M) (H : ShapedOf v N) where
  pub entry-shaped : (g p : ℕ) (e : E) → g < N.groups → p < N.stations → v.EntryShaped N.stations (N.neighbours p) (N.root g) p e
      → ShapedOf v (set_entry N g p e)
  unfolding set_entry
  entry-shaped g p e hg hp k = record {
    plan = H.plan;
    routes = H.routes;
    channels = H.channels;
    entries = upd2-all (λ x y (w : E). v.EntryShaped N.stations (N.neighbours y) (N.root x) y w) k (λ x y _. H.entries x y);
    no_station = upd2-all (λ x y (w : E). N.stations ≤ y → w ≡ v.blank) (λ l. absurd (omega arith)) (λ x y _. H.no_station x y);
    no_group = upd2-all (λ x y (w : E). N.groups ≤ x → w ≡ v.blank) (λ l. absurd (omega arith)) (λ x y _. H.no_group x y);
  }

  channel-shaped : (s d : ℕ) (l : List M) → ShapedChannelOf v N.stations N.groups (N.neighbours s) d l → ShapedOf v (set_channel N s d l)
  unfolding set_channel
  channel-shaped s d l k = record {
    plan = H.plan;
    routes = H.routes;
    entries = H.entries;
    no_station = H.no_station;
    no_group = H.no_group;
    channels = upd2-all (λ x y (w : List M). ShapedChannelOf v N.stations N.groups (N.neighbours x) y w) k (λ x y _. H.channels x y);
  }

  pub take-shaped : (s d i : ℕ) → ShapedOf v (take_at N s d i)
  unfolding take_at
  take-shaped s d i = let K = H.channels s d in channel-shaped s d _ (record {
    at_most = le_trans (length-remove i (N.channel s d)) K.at_most;
    near = λ h. K.near (le_trans h (length-remove i (N.channel s d)));
    each = All-remove i K.each;
  })

  pub send-shaped : (s d : ℕ) (m : M) → has (N.neighbours s) d ≡ true → length (N.channel s d) < v.capacity → v.MessageShaped N.stations N.groups m
      → ShapedOf v (send N s d m)
  unfolding send
  send-shaped s d m n t k = let K = H.channels s d in channel-shaped s d _ (record {
    at_most = omega (arith, length-snoc (N.channel s d) m);
    near = λ _. n;
    each = All-snoc m K.each k;
  })

  pub route-shaped : (p d q : ℕ) → (q ≢ nil → (has (N.neighbours p) q ≡ true) × (d < N.stations) × (p ≢ d)) → ShapedOf v (set_route N p d q)
  unfolding set_route
  route-shaped p d q k = record {
    plan = H.plan;
    channels = H.channels;
    entries = H.entries;
    no_station = H.no_station;
    no_group = H.no_group;
    routes = upd2-all (λ x y (w : ℕ). w ≢ nil → (has (N.neighbours x) w ≡ true) × (y < N.stations) × (x ≢ y)) k (λ x y _. H.routes x y);
  }
