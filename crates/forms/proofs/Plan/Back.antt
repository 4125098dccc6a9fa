-- Bytes that hold a well-shaped plan: they show it, and pass the test.
use mathlib.Core.Path.{◌≡◌, refl, sym, ap, ◌∙◌}
use mathlib.Core.Bool.{true, not}
use mathlib.Core.List.{List, [], ◌∷◌, ◌++◌}
use Prim.Native.Nat.{ℕ, suc, ◌+◌, ◌*◌, ◌-◌, ◌/◌, ◌^◌, ◌≤◌, ◌<◌}
use native.Mathlib.Nat.{add-zero, zero-add}
use native.Mathlib.Omega.{arith}
use lib.ListN.{length, get_or, length-append}
use lib.Seq.{get_or_at}
use borrow.Author.Tests.{lt-ltb, le-leb, eq-eqb}
use Rattle.bits.specs.Masks.{has}
use Rattle.bits.specs.Numbers.{bytes, number}
use Rattle.bits.specs.Parts.{part, number_at}
use Rattle.bits.proofs.Cases.{by-lt, is_false, and_both, suppose}
use Rattle.bits.proofs.Masks.{mask_fits, no_bits, below_of}
use Rattle.bits.proofs.Numbers.{length-bytes, number-bytes}
use Rattle.bits.proofs.Parts.{get_or-part, part-cong, part-part, part_left, part-whole}
use Rattle.protocol.specs.Net.{most_stations, most_groups}
use Rattle.protocol.specs.Fresh.{Plan}
use Rattle.protocol.specs.Shaped.{none, both, ShapedPlan}
use Rattle.layout.specs.Layout.{byte, stations, groups, group_size, group_at, name_length, root, mask_at, neighbours}
use Rattle.layout.specs.Bounded.{table}
use Rattle.bits.proofs.Below.{all_of}
use Rattle.layout.proofs.Bounded.{zeros_of, same_at, table_of}
use Rattle.plan.specs.Planned.{Header, header_shaped, group_shaped, same_names, new_name, names_distinct, both_ways, station_cabled, planned}
use Rattle.forms.specs.Cells.{EachByte}
use Rattle.forms.specs.Plans.{name_of, plan_in, name_bytes, header_bytes, plan_bytes}
use Rattle.forms.proofs.Each.{each_of, each_append, each_number, each_part, each-cell}
use Rattle.forms.proofs.Cells.{zero-cell}
use Rattle.forms.proofs.Names.{past_end, name-zero, name-byte, length-name_bytes, name_back}
use Rattle.forms.proofs.Plan.Shown.{plan-name, plan-root, plan-mask, no-name, no-root, no-mask}
use Rattle.forms.proofs.Plan.Holds.{HoldsPlan, group-used, group-unused, mask-used, mask-unused}

module _ (P : Plan) (G : ShapedPlan P) (h : Header) (l : List ℕ) (K : HoldsPlan P h l) where
  -- ---- byte by byte
  head_byte : (i : ℕ) → i < 8 → byte l i ≡ get_or (header_bytes P h) i 0
  head_byte i b = ap (byte l) (sym (zero-add i)) ∙ sym (get_or-part 8 l 0 i b) ∙ ap (λ (x : List ℕ). get_or x i 0) K.head

  pub back-stations : stations l ≡ P.stations
  unfolding header_bytes bytes
  back-stations = head_byte 5 (omega arith)

  pub back-groups : groups l ≡ P.groups
  unfolding header_bytes bytes
  back-groups = head_byte 6 (omega arith)

  group-part : (g : ℕ) → g < P.groups → part 18 l (group_at g) ≡ name_bytes (P.name g) ++ (P.root g ∷ [])
  group-part g b =
      K.groups g (omega (arith, G.groups_most)) ∙ ap (λ (x : List ℕ). part 18 x 0) (group-used P g b)
      ∙ part-whole 18 _ (omega (arith, length-append (name_bytes (P.name g)) (P.root g ∷ []), length-name_bytes (P.name g)))

  name-part : (g : ℕ) → g < P.groups → part 17 l (group_at g) ≡ name_bytes (P.name g)
  name-part g b =
      ap (part 17 l) (sym (add-zero (group_at g))) ∙ sym (part-part 17 18 l (group_at g) 0 (omega arith))
      ∙ ap (λ (x : List ℕ). part 17 x 0) (group-part g b)
      ∙ part_left 17 (name_bytes (P.name g)) (P.root g ∷ []) 0 (omega (arith, length-name_bytes (P.name g))) ∙ part-whole 17 _ (length-name_bytes (P.name g))

  pub back-root : (g : ℕ) → g < P.groups → root l g ≡ P.root g
  back-root g b =
      sym (get_or-part 18 l (group_at g) 17 (omega arith)) ∙ ap (λ (x : List ℕ). get_or x 17 0) (group-part g b)
      ∙ get_or_at (name_bytes (P.name g)) (P.root g) [] 0 17 (length-name_bytes (P.name g))

  pub back-mask : (p : ℕ) → p < P.stations → neighbours l p ≡ P.neighbours p
  unfolding number_at
  back-mask p b =
      ap number (K.masks p (omega (arith, G.stations_most)) ∙ ap (λ (x : List ℕ). part 2 x 0) (mask-used P p b) ∙ part-whole 2 _ (length-bytes 2 (P.neighbours p)))
      ∙ number-bytes 2 (P.neighbours p) (mask_fits 16 (P.neighbours p) (λ j t. omega (arith, G.stations_most, (G.cables p j t).1)))

  none-mask : (p : ℕ) → P.stations ≤ p → P.neighbours p ≡ 0
  none-mask p b = no_bits (P.neighbours p) (λ j. is_false _ (λ t. let c = G.cables p j t in omega arith))

  -- ---- they show the plan
  pub plan-back : plan_in l ≡ P
  plan-back = λ i. record {
    stations = stations-back i;
    groups = groups-back i;
    name = λ g. names g i;
    root = λ g. roots g i;
    neighbours = λ p. masks p i;
  }
    where
      stations-back : (plan_in l).stations ≡ P.stations
      stations-back = unfold plan_in in back-stations

      groups-back : (plan_in l).groups ≡ P.groups
      groups-back = unfold plan_in in back-groups

      names : (g : ℕ) → (plan_in l).name g ≡ P.name g
      names g = by-lt g P.groups
          (λ b. plan-name l g (rw back-groups b) ∙ ap name_of (name-part g b) ∙ name_back (P.name g) (G.named g b).1)
          (λ b. no-name l g (rw back-groups b) ∙ sym (G.no_name g b))

      roots : (g : ℕ) → (plan_in l).root g ≡ P.root g
      roots g = by-lt g P.groups
          (λ b. plan-root l g (rw back-groups b) ∙ back-root g b)
          (λ b. no-root l g (rw back-groups b) ∙ sym (G.no_root g b))

      masks : (p : ℕ) → (plan_in l).neighbours p ≡ P.neighbours p
      masks p = by-lt p P.stations
          (λ b. plan-mask l p (rw back-stations b) ∙ back-mask p b)
          (λ b. no-mask l p (rw back-stations b) ∙ sym (none-mask p b))

  -- ---- they pass the test, if the header's size fits
  module _ (fits : h.size < 256 ^ 4) where
    long-is : number_at 4 l 0 ≡ h.size
    unfolding number_at header_bytes part bytes
    long-is = ap number (sym (part-part 4 8 l 0 0 (omega arith)) ∙ ap (λ (x : List ℕ). part 4 x 0) K.head) ∙ number-bytes 4 h.size fits

    head-passes : header_shaped l h ≡ true
    unfolding header_shaped header_bytes bytes
    head-passes =
        rw (
          long-is,
          head_byte 4 (omega arith),
          head_byte 5 (omega arith),
          head_byte 6 (omega arith),
          head_byte 7 (omega arith),
          eq-eqb h.size h.size refl,
          eq-eqb h.version h.version refl,
          eq-eqb h.byte7 h.byte7 refl,
          le-leb 1 P.stations G.stations_least,
          le-leb P.stations 16 G.stations_most,
          le-leb 1 P.groups G.groups_least,
          le-leb P.groups 4 G.groups_most,
        )

    name-len : (g : ℕ) → g < P.groups → name_length l g ≡ length (P.name g)
    name-len g b =
        ap (byte l) (sym (add-zero (group_at g))) ∙ sym (get_or-part 17 l (group_at g) 0 (omega arith)) ∙ ap (λ (x : List ℕ). get_or x 0 0) (name-part g b) ∙ name-zero (P.name g)

    letter_at : (g x : ℕ) → g < P.groups → x < 16 → byte l (group_at g + suc x) ≡ get_or (P.name g) x 0
    letter_at g x b j = sym (get_or-part 17 l (group_at g) (suc x) (omega arith)) ∙ ap (λ (y : List ℕ). get_or y (suc x) 0) (name-part g b) ∙ name-byte (P.name g) x j

    group-passes : (g : ℕ) → g < P.groups → group_shaped l P.stations g ≡ true
    unfolding group_shaped
    group-passes g b =
        let w = G.named g b in
        rw (name-len g b, back-root g b)
        (and_both _ _ (and_both _ _ (and_both _ _ (le-leb _ _ w.1) (le-leb _ _ w.0))
        (zeros_of l _ _ (λ i a c. ap (byte l) (omega arith) ∙ letter_at g (i - group_at g - 1) b (omega arith) ∙ past_end (P.name g) (i - group_at g - 1) (omega arith))))
        (lt-ltb _ _ (G.roots g b)))

    groups-pass : table l 8 group_size most_groups P.groups (group_shaped l P.stations) ≡ true
    groups-pass = table_of l 8 group_size most_groups P.groups _ group-passes
        (λ i a b. ap (byte l) (omega arith)
        ∙ zero-cell 18 l (group_at ((i - 8) / 18)) _ (K.groups ((i - 8) / 18) (omega arith)) (group-unused P ((i - 8) / 18) (omega arith)) (i - 8 - (i - 8) / 18 * 18) (omega arith))

    same_names_lem : (a b : ℕ) → a < P.groups → b < P.groups → same_names l a b ≡ true → P.name a ≡ P.name b
    unfolding same_names
    same_names_lem a b ha hb t =
        let e : part 17 l (group_at a) ≡ part 17 l (group_at b) = part-cong 17 l l (group_at a) (group_at b) (same_at l (group_at a) (group_at b) 17 t) in
        sym (name_back (P.name a) (G.named a ha).1) ∙ ap name_of (sym (name-part a ha) ∙ e ∙ name-part b hb) ∙ name_back (P.name b) (G.named b hb).1

    distinct-passes : names_distinct l P.groups ≡ true
    unfolding names_distinct new_name
    distinct-passes = all_of _ P.groups (λ a ha. all_of _ a (λ b hb.
        ap not (is_false (same_names l a b) (λ t. G.distinct a b ha hb (same_names_lem a b ha (omega arith) t)))))

    cable-passes : (p : ℕ) → p < P.stations → station_cabled l P.stations p ≡ true
    unfolding station_cabled both_ways
    cable-passes p b =
        let c = G.cables p in
        rw (back-mask p b)
        (and_both _ _ (and_both _ _ (below_of P.stations (P.neighbours p) (λ j t. (c j t).1))
        (ap not (is_false (has (P.neighbours p) p) (λ t. (c p t).2 refl))))
        (all_of _ P.stations (λ q k. suppose _ _ (λ t. ap (λ (m : ℕ). has m p) (back-mask q k) ∙ (c q (ap (λ (m : ℕ). has m q) (sym (back-mask p b)) ∙ t)).3))))

    cables-pass : table l 80 2 most_stations P.stations (station_cabled l P.stations) ≡ true
    cables-pass = table_of l 80 2 most_stations P.stations _ cable-passes
        (λ i a b. ap (byte l) (omega arith)
        ∙ zero-cell 2 l (mask_at ((i - 80) / 2)) _ (K.masks ((i - 80) / 2) (omega arith)) (mask-unused P ((i - 80) / 2) (omega arith)) (i - 80 - (i - 80) / 2 * 2) (omega arith))

    pub plan-passes : planned l h ≡ true
    unfolding planned
    plan-passes = rw (back-stations, back-groups)
        (and_both _ _ (and_both _ _ (and_both _ _ head-passes groups-pass) distinct-passes) cables-pass)

-- ---- each byte of a plan's bytes is one
pub each-plan : (P : Plan) → ShapedPlan P → (h : Header) → h.version < 256 → h.byte7 < 256 → EachByte (plan_bytes P h)
unfolding plan_bytes header_bytes name_bytes
each-plan P G h version byte7 =
    each_append
    (each_append (each_number 4 h.size) (both version (both (omega (arith, G.stations_most)) (both (omega (arith, G.groups_most)) (both byte7 none)))))
    (each_append
    (each-cell _ _ _ (λ g. by-lt g P.groups
    (λ b. rw (group-used P g b)
    (each_append (each_part 17 (both (omega (arith, (G.named g b).1)) (each_of (P.name g) (G.name_is_bytes g))))
    (both (omega (arith, G.roots g b, G.stations_most)) none)))
    (λ b. rw (group-unused P g b) none)))
    (each-cell _ _ _ (λ p. by-lt p P.stations
    (λ b. rw (mask-used P p b) (each_number 2 (P.neighbours p)))
    (λ b. rw (mask-unused P p b) none))))
