-- Version 1: a route, an entry and a message in their bytes; how each is written, read and tested, and that the three agree.
use mathlib.Core.Path.{◌≡◌, refl, sym, ap, subst, ◌∙◌}
use mathlib.Core.Logic.{inl, inr, ⊎_elim, ◌≢◌}
use mathlib.Core.Bool.{true}
use mathlib.Core.List.{List, [], ◌∷◌}
use Prim.Native.Nat.{ℕ, ◌+◌, ◌-◌, ◌≤◌, ◌<◌}
use native.Mathlib.Nat.{add-zero}
use native.Mathlib.Omega.{arith}
use lib.Dec.{eqb}
use lib.ListN.{get_or}
use borrow.Author.Tests.{lt-ltb, le-leb, eq-eqb, eqb-true}
use Rattle.bits.specs.Masks.{has}
use Rattle.bits.specs.Parts.{number_at, part}
use Rattle.bits.proofs.Cases.{by-eq, by-lt, and_both, or_l, or_r, suppose}
use Rattle.bits.proofs.Masks.{bits_below, within_has, within_of, mask_fits}
use Rattle.bits.specs.Numbers.{Bytes}
use Rattle.bits.proofs.Parts.{length_part, get_or-part, part-Bytes, number_at-lt}
use Rattle.protocol.specs.declared.Entry.{Entry}
use Rattle.protocol.specs.declared.Message.{Message}
use Rattle.protocol.specs.Net.{nil, request}
use Rattle.protocol.specs.Shaped.{none, both, ShapedEntry, ShapedMessage}
use Rattle.layout.specs.Layout.{byte, entry_size, message_size}
use Rattle.layout.proofs.Bounded.{zeros_of}
use Rattle.channel.specs.Messages.{message_of, message_bytes}
use Rattle.channel.proofs.Messages.{length-message_bytes, message-back, slot-back}
use Rattle.shape.specs.Shape.{nil_or, route_shaped, parents_shaped, member_and_masks_shaped, entry_shaped, message_shaped}
use Rattle.shape.proofs.Nets.{route-near, route-self, parent-near, tentative-near, at-root, member-at, children-near, waiting-near, message-numbers, message-bare}
use Rattle.forms.specs.Cells.{EachByte}
use Rattle.forms.specs.Places.{Place, PlanBounds}
use Rattle.forms.specs.Tables.{Codec}
use Rattle.forms.specs.Forms.{ShapedRoute}
use Rattle.forms.proofs.Each.{each_append, each_number}
use Rattle.net.specs.View.{entry_of}
use Rattle.net.specs.Encode.{entry_bytes}
use Rattle.net.proofs.Records.{length-entry_bytes, fields, FitsEntry, entry-back, entry-form, bare-clock, bare-bytes}

-- ---- nil, or a neighbour
pub near_byte : (c : Place) → PlanBounds c → (r : ℕ) → (r ≢ nil → has c.near r ≡ true) → r < 256
near_byte c F r f = by-eq r nil (λ i. omega arith) (λ n. omega (arith, F.stations, F.near r (f n)))

pub near-passes : (nb r : ℕ) → (r ≢ nil → has nb r ≡ true) → nil_or nb r ≡ true
unfolding nil_or
near-passes nb r f = by-eq r nil (λ e. or_l (eqb r nil) (has nb r) (eq-eqb r nil e)) (λ n. or_r (eqb r nil) (has nb r) (f n))

-- ---- routes
pub route-passes : (c : Place) (r : ℕ) → PlanBounds c → ShapedRoute c r → (l : List ℕ) (at : ℕ) → Bytes l → part 1 l at ≡ r ∷ []
    → route_shaped c.near c.row c.col l at ≡ true
unfolding route_shaped part
route-passes c r F G l at b e =
    let i : byte l at ≡ r = ap (λ (x : List ℕ). get_or x 0 0) e in
    rw i (and_both _ _ (near-passes c.near r (λ n. (G n).0))
    (suppose _ _ (λ t. eq-eqb _ nil (by-eq r nil (λ e. e) (λ n. absurd ((G n).1 (eqb-true _ _ t)))))))

pub route-shows : (c : Place) (l : List ℕ) (at : ℕ) → Bytes l → route_shaped c.near c.row c.col l at ≡ true → ShapedRoute c (get_or (part 1 l at) 0 0)
unfolding part
route-shows c l at b t n = (route-near _ _ _ l at t n, λ e. n (route-self _ _ _ l at t e))

pub route-form : (l : List ℕ) (at : ℕ) → get_or (part 1 l at) 0 0 ∷ [] ≡ part 1 l at
unfolding part
route-form l at = refl

abbrev pub route_codec : Codec 1 ℕ ShapedRoute
route_codec = record {
  out = λ q. q ∷ [];
  into = λ b. get_or b 0 0;
  test = λ c l at. route_shaped c.near c.row c.col l at;
  Fits = λ q. Unit {0};
  fits = λ c q G. tt;
  long = λ q f. refl;
  bytes = λ c q F G. both (near_byte c F q (λ n. (G n).0)) none;
  back = λ c q F G. refl;
  passes = route-passes;
  shows = route-shows;
  form = λ c l at b t. route-form l at;
}

-- ---- entries
module _ (c : Place) (e : Entry) (F : PlanBounds c) (G : ShapedEntry c.near c.root c.col e) where
  pub fits-entry : FitsEntry e
  fits-entry = record {
    clock = omega (arith, G.clock_fits);
    children = mask_fits 16 e.children (λ j t. omega (arith, F.stations, F.near j (G.children_near j t)));
    waiting = mask_fits 16 e.waiting (λ j t. omega (arith, F.stations, F.near j (G.waiting_near j t)));
  }

  pub entry-bytes : EachByte (entry_bytes e)
  unfolding entry_bytes
  entry-bytes =
      each_append (each_append (each_append
      (both (near_byte c F _ G.parent_near) (both (near_byte c F _ G.tentative_near) (both (omega (arith, G.flag)) (both (omega arith) none))))
      (each_number 4 e.clock)) (each_number 2 e.children)) (each_number 2 e.waiting)

  pub entry-passes : (l : List ℕ) (at : ℕ) → Bytes l → part entry_size l at ≡ entry_bytes e → entry_shaped c.near c.root c.col l at ≡ true
  unfolding entry_shaped parents_shaped member_and_masks_shaped entry_bytes
  entry-passes l at b i =
      let shown = sym (fields l at) ∙ ap entry_of i ∙ entry-back e fits-entry in
      let gap : byte l (at + 3) ≡ 0 = sym (get_or-part entry_size l at 3 (omega arith)) ∙ ap (λ (b : List ℕ). get_or b 3 0) i in
      let e1 : byte l at ≡ e.parent = ap (λ (e : Entry). e.parent) shown in
      let e2 : byte l (at + 1) ≡ e.tentative = ap (λ (e : Entry). e.tentative) shown in
      let e3 : byte l (at + 2) ≡ e.member = ap (λ (e : Entry). e.member) shown in
      let e4 : number_at 2 l (at + 8) ≡ e.children = ap (λ (e : Entry). e.children) shown in
      let e5 : number_at 2 l (at + 10) ≡ e.waiting = ap (λ (e : Entry). e.waiting) shown in
      rw (e1, e2, e3, e4, e5, gap)
      (and_both _ _
      (and_both _ _ (and_both _ _ (near-passes _ _ G.parent_near) (near-passes _ _ G.tentative_near))
      (suppose _ _ (λ t. let w = G.nil_at_root (sym (eqb-true _ _ t)) in and_both _ _ (eq-eqb _ nil w.0) (eq-eqb _ nil w.1))))
      (and_both _ _ (and_both _ _ (and_both _ _ (le-leb _ 1 G.flag) refl) (within_of 16 _ _ (λ x _. G.children_near x))) (within_of 16 _ _ (λ x _. G.waiting_near x))))

module _ (c : Place) (l : List ℕ) (at : ℕ) (b : Bytes l) (t : entry_shaped c.near c.root c.col l at ≡ true) where
  pub entry-shows : ShapedEntry c.near c.root c.col (entry_of (part entry_size l at))
  entry-shows = subst (ShapedEntry c.near c.root c.col) (sym (fields l at)) (record {
    parent_near = parent-near _ _ _ l at t;
    tentative_near = tentative-near _ _ _ l at t;
    nil_at_root = λ e. at-root _ _ _ l at t (sym e);
    flag = (member-at _ _ _ l at t).0;
    children_near = λ x h. within_has 16 _ _ x (children-near _ _ _ l at t) (bits_below _ 16 x (number_at-lt 2 l (at + 8) b) h) h;
    waiting_near = λ x h. within_has 16 _ _ x (waiting-near _ _ _ l at t) (bits_below _ 16 x (number_at-lt 2 l (at + 10) b) h) h;
    clock_fits = omega (arith, number_at-lt 4 l (at + 4) b);
  })

  pub entry-shown : entry_bytes (entry_of (part entry_size l at)) ≡ part entry_size l at
  entry-shown = entry-form (part entry_size l at) (length_part entry_size l at) (part-Bytes entry_size l at b)
      (get_or-part entry_size l at 3 (omega arith) ∙ (member-at _ _ _ l at t).1)

abbrev pub entry_codec : Codec entry_size Entry (λ c. ShapedEntry c.near c.root c.col)
entry_codec = record {
  out = entry_bytes;
  into = entry_of;
  test = λ c l at. entry_shaped c.near c.root c.col l at;
  Fits = λ e. Unit {0};
  fits = λ c e G. tt;
  long = λ e f. length-entry_bytes e;
  bytes = entry-bytes;
  back = λ c e F G. entry-back e (fits-entry c e F G);
  passes = entry-passes;
  shows = entry-shows;
  form = entry-shown;
}

-- ---- messages
module _ (c : Place) (m : Message) (F : PlanBounds c) (G : ShapedMessage c.groups m) where
  pub message-bytes : EachByte (message_bytes m)
  message-bytes = both {x = m.kind} (⊎_elim (λ e. omega arith) (λ e. omega arith) G.kinds)
      (both {x = m.group} (omega (arith, F.groups, G.grouped)) (both {x = m.connected} (omega (arith, G.flag)) (each_number 4 m.clock)))

  pub message-there : message_of (message_bytes m) ≡ m
  message-there = message-back m (omega (arith, G.clock_fits))

  pub message-passes : (l : List ℕ) (at : ℕ) → Bytes l → part message_size l at ≡ message_bytes m → message_shaped c.groups l at ≡ true
  unfolding message_shaped
  message-passes l at b i =
      let e : message_of (part message_size l at) ≡ m = ap message_of i ∙ message-there in
      let e0 : byte l at ≡ m.kind = ap (byte l) (sym (add-zero at)) ∙ sym (get_or-part message_size l at 0 (omega arith)) ∙ ap (λ (m : Message). m.kind) e in
      let e1 : byte l (at + 1) ≡ m.group = sym (get_or-part message_size l at 1 (omega arith)) ∙ ap (λ (m : Message). m.group) e in
      let e2 : byte l (at + 2) ≡ m.connected = sym (get_or-part message_size l at 2 (omega arith)) ∙ ap (λ (m : Message). m.connected) e in
      rw (e0, e1, e2)
      (and_both _ _ (and_both _ _ (and_both _ _
      (and_both _ _ (le-leb 1 m.kind (⊎_elim (λ z. omega arith) (λ z. omega arith) G.kinds)) (le-leb m.kind 2 (⊎_elim (λ z. omega arith) (λ z. omega arith) G.kinds)))
      (lt-ltb _ _ G.grouped)) (le-leb _ 1 G.flag))
      (suppose _ _ (λ t.
      let w = G.bare (eqb-true _ 1 t) in
      zeros_of l _ _ (λ x u v.
      ap (byte l) (omega arith) ∙ sym (get_or-part message_size l at (x - at) (omega arith))
      ∙ bare-bytes (part message_size l at) (part-Bytes message_size l at b) (ap (λ (m : Message). m.connected) e ∙ w.0) (ap (λ (m : Message). m.clock) e ∙ w.1)
      (x - at) (omega arith) (omega arith)))))

module _ (c : Place) (l : List ℕ) (at : ℕ) (b : Bytes l) (t : message_shaped c.groups l at ≡ true) where
  pub message-shows : ShapedMessage c.groups (message_of (part message_size l at))
  message-shows =
      let slot = part message_size l at in
      let f = message-numbers c.groups l at t in
      let b0 : get_or slot 0 0 ≡ byte l at = get_or-part message_size l at 0 (omega arith) ∙ ap (byte l) (add-zero at) in
      let b1 : get_or slot 1 0 ≡ byte l (at + 1) = get_or-part message_size l at 1 (omega arith) in
      let b2 : get_or slot 2 0 ≡ byte l (at + 2) = get_or-part message_size l at 2 (omega arith) in
      let z : get_or slot 0 0 ≡ request → (x : ℕ) → 2 ≤ x → x < message_size → get_or slot x 0 ≡ 0 =
      λ e x u w. get_or-part message_size l at x w ∙ message-bare c.groups l at t (sym b0 ∙ e) _ (omega arith) (omega arith) in
      record {
        kinds = by-lt (get_or slot 0 0) 2 (λ a. inl (omega arith)) (λ a. inr (omega arith));
        grouped = omega arith;
        flag = omega arith;
        bare = λ e. (z e 2 (omega arith) (omega arith), bare-clock slot (z e));
        clock_fits = omega (arith, number_at-lt 4 slot 3 (part-Bytes message_size l at b));
      }

abbrev pub message_codec : Codec message_size Message (λ c. ShapedMessage c.groups)
message_codec = record {
  out = message_bytes;
  into = message_of;
  test = λ c l at. message_shaped c.groups l at;
  Fits = λ m. Unit {0};
  fits = λ c m G. tt;
  long = λ m f. length-message_bytes m;
  bytes = message-bytes;
  back = message-there;
  passes = message-passes;
  shows = message-shows;
  form = λ c l at b t. slot-back (part message_size l at) (length_part message_size l at) (part-Bytes message_size l at b);
}
