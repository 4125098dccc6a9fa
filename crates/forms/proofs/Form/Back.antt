-- Bytes that hold a well-shaped net, in any form: they show it, and its bytes pass the test.
--     net-back, passes, stands
use mathlib.Core.Path.{◌≡◌, refl, sym, ap, ap₂, ◌∙◌}
use mathlib.Core.Logic.{◌⊎◌, ⊎_elim}
use mathlib.Core.Bool.{true}
use mathlib.Core.List.{List, [], ◌∷◌}
use Prim.Native.Nat.{ℕ, ◌≤◌, ◌<◌}
use native.Mathlib.Omega.{arith}
use lib.ListN.{length}
use borrow.Author.Tests.{eq-eqb}
use Rattle.bits.specs.Masks.{has}
use Rattle.bits.proofs.Cases.{by-eq, and_both}
use Rattle.bits.specs.Numbers.{Bytes}
use Rattle.protocol.specs.Net.{NetOf, nil}
use Rattle.protocol.specs.Fresh.{plan_of}
use Rattle.protocol.specs.Shaped.{Version, ShapedOf}
use Rattle.layout.specs.Layout.{stations, groups, root, neighbours}
use Rattle.layout.proofs.Bounded.{bytes_of}
use Rattle.forms.specs.Cells.{EachByte}
use Rattle.forms.specs.Plans.{plan_in}
use Rattle.forms.specs.Places.{station_place, entry_place}
use Rattle.forms.specs.Tables.{shown}
use Rattle.forms.specs.Forms.{Form, view_in, laid_out_in, shaped_in, bytes_in}
use Rattle.forms.proofs.Each.{each_at, each_append}
use Rattle.forms.proofs.Plan.Back.{back-stations, back-groups, back-root, back-mask, plan-back, plan-passes, each-plan}
use Rattle.forms.proofs.Tables.{ShapedIn}
use Rattle.forms.proofs.Tables as tables
use Rattle.forms.proofs.Form.Holds.{HoldsNet, bytes-hold}

no_length : {A : Type 0} (l : List A) → (0 < length l → ⊥) → l ≡ []
no_length [] f = refl
no_length (x ∷ l) f = absurd (f (omega arith))

module _ {E M : Type 0} {v : Version E M} (φ : Form v) where
  module _ (N : NetOf E M) (H : ShapedOf v N) where
    -- ---- the three tables are filled with well-shaped things, at the places of neighbours and roots that are the net's where they are
    -- used: its own, or those among its bytes
    module _ (nb r : ℕ → ℕ) (nb-is : (p : ℕ) → p < N.stations → nb p ≡ N.neighbours p) (r-is : (g : ℕ) → g < N.groups → r g ≡ N.root g) where
      near-below : (p x : ℕ) → p < N.stations → has (nb p) x ≡ true → x < N.stations
      near-below p x h t = (H.plan.cables p x (ap (λ (m : ℕ). has m x) (sym (nb-is p h)) ∙ t)).1

      routes-shaped : ShapedIn φ.routes N.stations N.stations (station_place nb N.stations N.groups) N.route
      routes-shaped = record {
        few_rows = H.plan.stations_most;
        few_cols = H.plan.stations_most;
        bounds = λ i j h k. record { stations = H.plan.stations_most; groups = H.plan.groups_most; near = λ x. near-below i x h };
        shaped = λ i j h k n. let w = H.routes i j n in (ap (λ (m : ℕ). has m (N.route i j)) (nb-is i h) ∙ w.0, w.2);
      }

      entries-shaped : ShapedIn φ.entries N.groups N.stations (entry_place nb r N.stations N.groups) N.entry
      entries-shaped = record {
        few_rows = H.plan.groups_most;
        few_cols = H.plan.stations_most;
        bounds = λ i j h k. record { stations = H.plan.stations_most; groups = H.plan.groups_most; near = λ x. near-below j x k };
        shaped = λ i j h k. rw (nb-is j k, r-is i h) (H.entries i j);
      }

      channels-shaped : ShapedIn φ.channels N.stations N.stations (station_place nb N.stations N.groups) N.channel
      channels-shaped = record {
        few_rows = H.plan.stations_most;
        few_cols = H.plan.stations_most;
        bounds = λ i j h k. record { stations = H.plan.stations_most; groups = H.plan.groups_most; near = λ x. near-below i x h };
        shaped = λ i j h k. rw (nb-is i h) (H.channels i j);
      }

    own-routes : ShapedIn φ.routes N.stations N.stations (station_place N.neighbours N.stations N.groups) N.route
    own-routes = routes-shaped N.neighbours N.root (λ p h. refl) (λ g h. refl)

    own-entries : ShapedIn φ.entries N.groups N.stations (entry_place N.neighbours N.root N.stations N.groups) N.entry
    own-entries = entries-shaped N.neighbours N.root (λ p h. refl) (λ g h. refl)

    own-channels : ShapedIn φ.channels N.stations N.stations (station_place N.neighbours N.stations N.groups) N.channel
    own-channels = channels-shaped N.neighbours N.root (λ p h. refl) (λ g h. refl)

    -- ---- what is not used shows nothing
    no-route : (p d : ℕ) → (N.stations ≤ p) ⊎ (N.stations ≤ d) → N.route p d ≡ nil
    no-route p d o = by-eq (N.route p d) nil (λ e. e) (λ n. let w = H.routes p d n in
        absurd (⊎_elim (λ a. omega (arith, (H.plan.cables p _ w.0).0)) (λ a. omega arith) o))

    no-channel : (x y : ℕ) → (N.stations ≤ x) ⊎ (N.stations ≤ y) → N.channel x y ≡ []
    no-channel x y o = no_length (N.channel x y)
        (λ j. let c = H.plan.cables x y ((H.channels x y).near j) in ⊎_elim (λ a. omega arith) (λ a. omega arith) o)

    module _ (l : List ℕ) (K : HoldsNet φ N l) where
      stations-are : stations l ≡ N.stations
      stations-are = back-stations (plan_of N) H.plan φ.header l K.plan

      groups-are : groups l ≡ N.groups
      groups-are = back-groups (plan_of N) H.plan φ.header l K.plan

      pub net-back : view_in φ l ≡ N
      unfolding view_in
      net-back = λ i. record {
        stations = (plan i).stations;
        groups = (plan i).groups;
        name = (plan i).name;
        root = (plan i).root;
        neighbours = (plan i).neighbours;
        route = λ p d. routes p d i;
        entry = λ g p. entries g p i;
        channel = λ x y. channels x y i;
      }
        where
          plan : plan_in l ≡ plan_of N
          plan = plan-back (plan_of N) H.plan φ.header l K.plan

          routes : (p d : ℕ) → shown φ.routes (stations l) (stations l) nil l p d ≡ N.route p d
          routes p d = ap (λ (n : ℕ). shown φ.routes n n nil l p d) stations-are
              ∙ tables.back φ.routes _ _ _ N.route own-routes l K.routes nil no-route p d

          entries : (g p : ℕ) → shown φ.entries (groups l) (stations l) v.blank l g p ≡ N.entry g p
          entries g p = ap₂ (λ (m n : ℕ). shown φ.entries m n v.blank l g p) groups-are stations-are
              ∙ tables.back φ.entries _ _ _ N.entry own-entries l K.entries v.blank
              (λ g p o. ⊎_elim (λ a. H.no_group g p a) (λ a. H.no_station g p a) o) g p

          channels : (x y : ℕ) → shown φ.channels (stations l) (stations l) [] l x y ≡ N.channel x y
          channels x y = ap (λ (n : ℕ). shown φ.channels n n [] l x y) stations-are
              ∙ tables.back φ.channels _ _ _ N.channel own-channels l K.channels [] no-channel x y

      laid-passes : Bytes l → laid_out_in φ l N.stations N.groups ≡ true
      unfolding laid_out_in
      laid-passes b =
          let nb-is = back-mask (plan_of N) H.plan φ.header l K.plan in
          let r-is = back-root (plan_of N) H.plan φ.header l K.plan in
          and_both _ _ (and_both _ _ (and_both _ _ (plan-passes (plan_of N) H.plan φ.header l K.plan φ.size_fits)
          (tables.passed φ.routes _ _ _ N.route (routes-shaped (neighbours l) (root l) nb-is r-is) l K.routes b))
          (tables.passed φ.entries _ _ _ N.entry (entries-shaped (neighbours l) (root l) nb-is r-is) l K.entries b))
          (tables.passed φ.channels _ _ _ N.channel (channels-shaped (neighbours l) (root l) nb-is r-is) l K.channels b)

    each-byte : EachByte (bytes_in φ N)
    unfolding bytes_in
    each-byte =
        each_append (each-plan (plan_of N) H.plan φ.header φ.version_fits φ.byte7_fits) (each_append
        (tables.each_laid φ.routes _ _ _ N.route own-routes) (each_append
        (tables.each_laid φ.entries _ _ _ N.entry own-entries)
        (tables.each_laid φ.channels _ _ _ N.channel own-channels)))

    pub passes : shaped_in φ (bytes_in φ N) ≡ true
    unfolding shaped_in
    passes =
        let K : HoldsNet φ N (bytes_in φ N) = bytes-hold φ N in
        let b : Bytes (bytes_in φ N) = each_at each-byte in
        and_both _ _ (and_both _ _ (eq-eqb _ _ K.long) (bytes_of (bytes_in φ N) b))
        (ap₂ (laid_out_in φ (bytes_in φ N)) (stations-are (bytes_in φ N) K) (groups-are (bytes_in φ N) K) ∙ laid-passes (bytes_in φ N) K b)

  -- bytes that are those of a well-shaped net pass, and show it
  pub stands : (N : NetOf E M) (l : List ℕ) → ShapedOf v N → l ≡ bytes_in φ N → (shaped_in φ l ≡ true) × (view_in φ l ≡ N)
  stands N l H e = (ap (shaped_in φ) e ∙ passes N H, ap (view_in φ) e ∙ net-back N H (bytes_in φ N) (bytes-hold φ N))
