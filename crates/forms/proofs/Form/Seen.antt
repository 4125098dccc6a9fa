-- Bytes that passed the test of a form: the net that they show is well shaped, they hold it, and are its bytes.
--     seen, held, view-bytes
use mathlib.Core.Path.{◌≡◌, sym, ap, subst, ◌∙◌}
use mathlib.Core.Logic.{inl, inr, ◌≢◌}
use mathlib.Core.Bool.{true}
use mathlib.Core.List.{List, []}
use Prim.Native.Nat.{ℕ, ◌≤◌, ◌<◌}
use native.Mathlib.Omega.{arith}
use lib.ListN.{length}
use Rattle.bits.specs.Masks.{has}
use Rattle.bits.specs.Parts.{part}
use Rattle.bits.specs.Numbers.{Bytes}
use Rattle.protocol.specs.Net.{nil, most_stations, most_groups}
use Rattle.protocol.specs.Shaped.{none, Version, ShapedChannelOf, ShapedOf}
use Rattle.layout.specs.Layout.{stations, groups, root, neighbours}
use Rattle.layout.proofs.Bounded.{bytes-at, by-used}
use Rattle.layout.proofs.Facts.{facts}
use Rattle.plan.specs.Planned.{planned}
use Rattle.plan.proofs.Plans.{counts}
use Rattle.forms.specs.Plans.{plan_in}
use Rattle.forms.specs.Places.{station_place, entry_place}
use Rattle.forms.specs.Tables.{shown, tested}
use Rattle.forms.specs.Forms.{Form, view_in, laid_out_in, shaped_in, bytes_in}
use Rattle.forms.proofs.Plan.Shown.{plan-root, plan-mask}
use Rattle.forms.proofs.Plan.Seen.{seen-plan, held-plan}
use Rattle.forms.proofs.Tables as tables
use Rattle.forms.proofs.Form.Holds.{HoldsNet, hold-bytes}

module _ {E M : Type 0} {v : Version E M} (φ : Form v) where
  module _ (l : List ℕ) (s : shaped_in φ l ≡ true) where
    abbrev n : ℕ
    n = stations l

    abbrev g : ℕ
    g = groups l

    pub long : length l ≡ φ.header.size
    unfolding shaped_in
    long = (simp facts at s).0.0

    pub small : Bytes l
    unfolding shaped_in
    small = bytes-at l (simp facts at s).0.1

    laid : laid_out_in φ l n g ≡ true
    unfolding shaped_in
    laid = (simp facts at s).1

    pub plan-pass : planned l φ.header ≡ true
    unfolding laid_out_in
    plan-pass = (simp facts at laid).0.0.0

    few : stations l ≤ most_stations
    few = (counts l φ.header plan-pass).1

    few_groups : groups l ≤ most_groups
    few_groups = (counts l φ.header plan-pass).3

    routes-pass : tested φ.routes n n (station_place (neighbours l) n g) l ≡ true
    unfolding laid_out_in
    routes-pass = (simp facts at laid).0.0.1

    entries-pass : tested φ.entries g n (entry_place (neighbours l) (root l) n g) l ≡ true
    unfolding laid_out_in
    entries-pass = (simp facts at laid).0.1

    channels-pass : tested φ.channels n n (station_place (neighbours l) n g) l ≡ true
    unfolding laid_out_in
    channels-pass = (simp facts at laid).1

    route-shaped : (p d : ℕ) → shown φ.routes n n nil l p d ≢ nil
        → (has ((plan_in l).neighbours p) (shown φ.routes n n nil l p d) ≡ true) × (d < n) × (p ≢ d)
    route-shaped p d ne = by-used p n d n
        (λ h k. let w = tables.shows φ.routes n n nil few few _ l small routes-pass p d h k ne in
        (ap (λ (m : ℕ). has m (shown φ.routes n n nil l p d)) (plan-mask l p h) ∙ w.0, k, w.1))
        (λ o. absurd (ne (tables.shown-out φ.routes n n nil l p d o)))

    entry-shaped : (x p : ℕ) → v.EntryShaped n ((plan_in l).neighbours p) ((plan_in l).root x) p (shown φ.entries g n v.blank l x p)
    entry-shaped x p = by-used x g p n
        (λ h k. rw (plan-mask l p k, plan-root l x h) (tables.shows φ.entries g n v.blank few_groups few _ l small entries-pass x p h k))
        (λ o. subst (v.EntryShaped n ((plan_in l).neighbours p) ((plan_in l).root x) p) (sym (tables.shown-out φ.entries g n v.blank l x p o)) (φ.blank_shaped n _ _ p))

    channel-shaped : (x y : ℕ) → ShapedChannelOf v n g ((plan_in l).neighbours x) y (shown φ.channels n n [] l x y)
    channel-shaped x y = by-used x n y n
        (λ h k. rw (plan-mask l x h) (tables.shows φ.channels n n [] few few _ l small channels-pass x y h k))
        (λ o. subst (ShapedChannelOf v n g ((plan_in l).neighbours x) y) (sym (tables.shown-out φ.channels n n [] l x y o))
        (record { at_most = omega arith; near = λ j. absurd (omega arith); each = none }))

    pub seen : ShapedOf v (view_in φ l)
    unfolding view_in plan_in
    seen = record {
      plan = seen-plan l φ.header plan-pass small;
      routes = route-shaped;
      entries = entry-shaped;
      channels = channel-shaped;
      no_station = λ x p h. tables.shown-out φ.entries g n v.blank l x p (inr h);
      no_group = λ x p h. tables.shown-out φ.entries g n v.blank l x p (inl h);
    }

    held : HoldsNet φ (view_in φ l) l
    unfolding view_in plan_in
    held = record {
      long = long;
      plan = held-plan l φ.header plan-pass small;
      routes = tables.held φ.routes n n nil few few _ l small routes-pass;
      entries = tables.held φ.entries g n v.blank few_groups few _ l small entries-pass;
      channels = tables.held φ.channels n n [] few few _ l small channels-pass;
    }

    pub view-bytes : bytes_in φ (view_in φ l) ≡ l
    view-bytes = sym (hold-bytes φ (view_in φ l) l held)

    -- the bytes of a channel are those of the messages that they show, which are well shaped
    pub channel-form : (x y : ℕ) → x < stations l → y < stations l
        → (φ.channels.codec.out (φ.channels.codec.into (part φ.channels.grid.width l (φ.channels.grid.at x y))) ≡ part φ.channels.grid.width l (φ.channels.grid.at x y))
        × ShapedChannelOf v (stations l) (groups l) (neighbours l x) y (φ.channels.codec.into (part φ.channels.grid.width l (φ.channels.grid.at x y)))
    channel-form x y h k = let t = φ.channels.grid.passes.used l n n _ few few channels-pass x y h k in
        (φ.channels.codec.form _ l _ small t, φ.channels.codec.shows _ l _ small t)
