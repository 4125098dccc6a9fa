-- One entry, channel or route of a net put anew is its bytes put in its cell: in any form, of any net.
--     bytes-entry, bytes-channel, bytes-route
use mathlib.Core.Path.{◌≡◌, sym, ◌∙◌}
use mathlib.Core.Logic.{inl, inr}
use mathlib.Core.List.{List, []}
use Prim.Native.Nat.{ℕ, ◌≤◌, ◌<◌}
use native.Mathlib.Omega.{arith}
use Rattle.bits.specs.Parts.{splice}
use Rattle.bits.proofs.Parts.{length-splice, part-splice-out}
use Rattle.protocol.specs.Net.{NetOf, most_stations, most_groups, set_entry, set_channel, set_route}
use Rattle.protocol.specs.Fresh.{plan_of}
use Rattle.protocol.specs.Shaped.{Version}
use Rattle.layout.specs.Layout.{plan_length, group_size, group_at, mask_at}
use Rattle.forms.specs.Forms.{Form, bytes_in}
use Rattle.forms.proofs.Plan.Holds.{HoldsPlan}
use Rattle.forms.proofs.Tables as tables
use Rattle.forms.proofs.Form.Holds.{HoldsNet, bytes-hold, hold-bytes}

module _ {E M : Type 0} {v : Version E M} (φ : Form v) where
  -- where the tables begin and end, one after the other behind the plan
  order : (φ.routes.grid.from ≡ plan_length) × (φ.routes.grid.from ≤ φ.routes.grid.to)
      × (φ.entries.grid.from ≡ φ.routes.grid.to) × (φ.entries.grid.from ≤ φ.entries.grid.to)
      × (φ.channels.grid.from ≡ φ.entries.grid.to) × (φ.channels.grid.from ≤ φ.channels.grid.to)
      × (φ.header.size ≡ φ.channels.grid.to)
  order =
      let r = φ.routes.grid.laid.long (λ i j. []) in
      let t = φ.entries.grid.laid.long (λ i j. []) in
      let c = φ.channels.grid.laid.long (λ i j. []) in
      (φ.first, omega arith, φ.second, omega arith, φ.third, omega arith, φ.last)

  module _ (N : NetOf E M) (few : N.stations ≤ most_stations) (few_groups : N.groups ≤ most_groups) (l : List ℕ) (K : HoldsNet φ N l) where
    plan-kept : (at : ℕ) (vs : List ℕ) → plan_length ≤ at → HoldsPlan (plan_of N) φ.header (splice l at vs)
    plan-kept at vs h = record {
      head = part-splice-out 8 l at vs 0 (inl (omega arith)) ∙ K.plan.head;
      groups = λ g k. part-splice-out group_size l at vs (group_at g) (inl (omega arith)) ∙ K.plan.groups g k;
      masks = λ p k. part-splice-out 2 l at vs (mask_at p) (inl (omega arith)) ∙ K.plan.masks p k;
    }

    put-entry : (g p : ℕ) (e : E) → φ.entries.codec.Fits e → g < N.groups → p < N.stations
        → HoldsNet φ (set_entry N g p e) (splice l (φ.entries.grid.at g p) (φ.entries.codec.out e))
    unfolding set_entry
    put-entry g p e f hg hp =
        let i = tables.within φ.entries g p e (omega arith) (omega arith) f in
        let o = order in let long = K.long in
        record {
          long = length-splice l _ _ ∙ K.long;
          plan = plan-kept _ _ (omega arith);
          routes = tables.kept φ.routes _ _ N.route l K.routes _ _ (inr (omega arith));
          entries = tables.put φ.entries _ _ N.entry l K.entries g p e hg hp few_groups few (omega arith) f;
          channels = tables.kept φ.channels _ _ N.channel l K.channels _ _ (inl (omega arith));
        }

    put-channel : (s d : ℕ) (ms : List M) → φ.channels.codec.Fits ms → s < N.stations → d < N.stations
        → HoldsNet φ (set_channel N s d ms) (splice l (φ.channels.grid.at s d) (φ.channels.codec.out ms))
    unfolding set_channel
    put-channel s d ms f hs hd =
        let i = tables.within φ.channels s d ms (omega arith) (omega arith) f in
        let o = order in let long = K.long in
        record {
          long = length-splice l _ _ ∙ K.long;
          plan = plan-kept _ _ (omega arith);
          routes = tables.kept φ.routes _ _ N.route l K.routes _ _ (inr (omega arith));
          entries = tables.kept φ.entries _ _ N.entry l K.entries _ _ (inr (omega arith));
          channels = tables.put φ.channels _ _ N.channel l K.channels s d ms hs hd few few (omega arith) f;
        }

    put-route : (p d q : ℕ) → φ.routes.codec.Fits q → p < N.stations → d < N.stations
        → HoldsNet φ (set_route N p d q) (splice l (φ.routes.grid.at p d) (φ.routes.codec.out q))
    unfolding set_route
    put-route p d q f hp hd =
        let i = tables.within φ.routes p d q (omega arith) (omega arith) f in
        let o = order in let long = K.long in
        record {
          long = length-splice l _ _ ∙ K.long;
          plan = plan-kept _ _ (omega arith);
          routes = tables.put φ.routes _ _ N.route l K.routes p d q hp hd few few (omega arith) f;
          entries = tables.kept φ.entries _ _ N.entry l K.entries _ _ (inl (omega arith));
          channels = tables.kept φ.channels _ _ N.channel l K.channels _ _ (inl (omega arith));
        }

  module _ (N : NetOf E M) (few : N.stations ≤ most_stations) (few_groups : N.groups ≤ most_groups) where
    pub bytes-entry : (g p : ℕ) (e : E) → φ.entries.codec.Fits e → g < N.groups → p < N.stations
        → bytes_in φ (set_entry N g p e) ≡ splice (bytes_in φ N) (φ.entries.grid.at g p) (φ.entries.codec.out e)
    bytes-entry g p e f hg hp = sym (hold-bytes φ (set_entry N g p e) _ (put-entry N few few_groups (bytes_in φ N) (bytes-hold φ N) g p e f hg hp))

    pub bytes-channel : (s d : ℕ) (ms : List M) → φ.channels.codec.Fits ms → s < N.stations → d < N.stations
        → bytes_in φ (set_channel N s d ms) ≡ splice (bytes_in φ N) (φ.channels.grid.at s d) (φ.channels.codec.out ms)
    bytes-channel s d ms f hs hd = sym (hold-bytes φ (set_channel N s d ms) _ (put-channel N few few_groups (bytes_in φ N) (bytes-hold φ N) s d ms f hs hd))

    pub bytes-route : (p d q : ℕ) → φ.routes.codec.Fits q → p < N.stations → d < N.stations
        → bytes_in φ (set_route N p d q) ≡ splice (bytes_in φ N) (φ.routes.grid.at p d) (φ.routes.codec.out q)
    bytes-route p d q f hp hd = sym (hold-bytes φ (set_route N p d q) _ (put-route N few few_groups (bytes_in φ N) (bytes-hold φ N) p d q f hp hd))
