-- An entry and a message of version 2 in their bytes: those of version 1, and what is added.
use mathlib.Core.Path.{◌≡◌, refl, sym, ap, ap₂, subst, ◌∙◌}
use mathlib.Core.Logic.{◌≢◌, inl, inr, ⊎_elim}
use mathlib.Core.Bool.{true}
use mathlib.Core.List.{List, [], ◌∷◌, ◌++◌}
use Prim.Native.Nat.{ℕ, ◌+◌, ◌-◌, ◌≤◌, ◌<◌}
use native.Mathlib.Nat.{add-zero}
use native.Mathlib.Omega.{arith}
use lib.Dec.{eqb, ltb}
use lib.ListN.{get_or, length-append}
use lib.Seq.{get_or_at}
use borrow.Author.Tests.{eqb-true, eq-eqb, ltb-true, lt-ltb, le-leb}
use Rattle.bits.specs.Masks.{has}
use Rattle.bits.specs.Numbers.{Bytes, bytes}
use Rattle.bits.specs.Parts.{part}
use Rattle.bits.proofs.Cases.{by-eq, by-or, and_both, or_l, or_r, suppose}
use Rattle.bits.proofs.Parts.{length_part, get_or-part, part-part, part-add, part_left, part-whole, part-Bytes, number_at-lt}
use Rattle.protocol.specs.declared.Message.{Message}
use Rattle.protocol.specs.Net.{nil, request}
use Rattle.protocol.specs.Shaped.{none, both, ShapedEntry}
use Rattle.layout.specs.Layout.{byte, entry_size, message_size}
use Rattle.layout.proofs.Bounded.{zeros-at, zeros_of}
use Rattle.layout.proofs.Facts.{facts}
use Rattle.channel.specs.Messages.{message_of, message_bytes}
use Rattle.channel.proofs.Messages.{length-message_bytes, message-back, slot-back}
use Rattle.shape.specs.Shape.{nil_or}
use Rattle.shape.proofs.Nets.{nil-or}
use Rattle.forms.specs.Cells.{EachByte}
use Rattle.forms.specs.Places.{Place, PlanBounds}
use Rattle.forms.specs.Tables.{Codec}
use Rattle.forms.proofs.Each.{each_append, each_number}
use Rattle.net.specs.View.{entry_of}
use Rattle.net.specs.Encode.{entry_bytes}
use Rattle.net.proofs.Records.{length-entry_bytes, bare-clock, bare-bytes}
use Rattle.net.proofs.Codecs.{near_byte, near-passes, entry_codec}
use Rattle.version2.specs.Records.{Entry2, Message2, ShapedEntry2, ShapedMessage2, entry_size2, message_size2, entry_bytes2, entry_of2, message_bytes2, message_of2}
use Rattle.version2.specs.Shape.{nil_or_below, entry_shaped2, message_shaped2}

-- ---- nil, or a station
below-byte : (n r : ℕ) → n ≤ 16 → (r ≢ nil → r < n) → r < 256
below-byte n r h f = by-eq r nil (λ e. omega arith) (λ e. omega (arith, f e))

below-passes : (n r : ℕ) → (r ≢ nil → r < n) → nil_or_below n r ≡ true
unfolding nil_or_below
below-passes n r f = by-eq r nil (λ e. or_l (eqb r nil) (ltb r n) (eq-eqb r nil e)) (λ e. or_r (eqb r nil) (ltb r n) (lt-ltb r n (f e)))

below_of : (n r : ℕ) → nil_or_below n r ≡ true → r ≢ nil → r < n
unfolding nil_or_below
below_of n r t e = by-or (eqb r nil) (ltb r n) t (λ a. absurd (e (eqb-true r nil a))) (λ b. ltb-true r n b)

-- ---- entries: the first twelve bytes are those of version 1
-- of version 1 they are where no station is the root
abbrev pub bare : Place → Place
bare c = record { near = c.near; root = nil; stations = c.stations; groups = c.groups; row = c.row; col = c.col }

bare-bounds : (c : Place) → PlanBounds c → PlanBounds (bare c)
bare-bounds c F = record { stations = F.stations; groups = F.groups; near = F.near }

abbrev pub ShapedAt : Place → Entry2 → Type 0
ShapedAt c e = ShapedEntry2 c.stations c.near c.col e

front : (l : List ℕ) (at : ℕ) → part entry_size (part entry_size2 l at) 0 ≡ part entry_size l at
front l at = part-part entry_size entry_size2 l at 0 (omega arith) ∙ ap (part entry_size l) (add-zero at)

base-part : (e : Entry2) → part entry_size (entry_bytes2 e) 0 ≡ entry_bytes e.base
base-part e = part_left entry_size (entry_bytes e.base) (e.believed ∷ e.next ∷ []) 0 (omega (arith, length-entry_bytes e.base)) ∙ part-whole entry_size _ (length-entry_bytes e.base)

believed-at : (e : Entry2) → get_or (entry_bytes2 e) 12 0 ≡ e.believed
believed-at e = get_or_at (entry_bytes e.base) e.believed (e.next ∷ []) 0 12 (length-entry_bytes e.base)

next-at : (e : Entry2) → get_or (entry_bytes2 e) 13 0 ≡ e.next
unfolding entry_bytes bytes
next-at e = refl

last-two : (b : List ℕ) → get_or b 12 0 ∷ get_or b 13 0 ∷ [] ≡ part 2 b 12
unfolding part
last-two b = refl

module _ (c : Place) (e : Entry2) (F : PlanBounds c) (G : ShapedAt c e) where
  pub entry-bytes : EachByte (entry_bytes2 e)
  entry-bytes = each_append (entry_codec.bytes (bare c) e.base (bare-bounds c F) G.base)
      (both (below-byte c.stations e.believed F.stations G.believed_station) (both (near_byte c F e.next G.next_near) none))

  pub entry-back : entry_of2 (entry_bytes2 e) ≡ e
  entry-back = λ i. record {
    base = (ap entry_of (base-part e) ∙ entry_codec.back (bare c) e.base (bare-bounds c F) G.base) i;
    believed = believed-at e i;
    next = next-at e i;
  }

  pub entry-passes : (l : List ℕ) (at : ℕ) → Bytes l → part entry_size2 l at ≡ entry_bytes2 e → entry_shaped2 c.stations c.near c.col l at ≡ true
  unfolding entry_shaped2
  entry-passes l at b i =
      let o : byte l (at + 12) ≡ e.believed = sym (get_or-part entry_size2 l at 12 (omega arith)) ∙ ap (λ (x : List ℕ). get_or x 12 0) i ∙ believed-at e in
      let n : byte l (at + 13) ≡ e.next = sym (get_or-part entry_size2 l at 13 (omega arith)) ∙ ap (λ (x : List ℕ). get_or x 13 0) i ∙ next-at e in
      and_both _ _ (and_both _ _
      (entry_codec.passes (bare c) e.base (bare-bounds c F) G.base l at b (sym (front l at) ∙ ap (λ (x : List ℕ). part entry_size x 0) i ∙ base-part e))
      (ap (nil_or_below c.stations) o ∙ below-passes _ _ G.believed_station))
      (ap (nil_or c.near) n ∙ near-passes c.near _ G.next_near)

module _ (c : Place) (l : List ℕ) (at : ℕ) (b : Bytes l) (t : entry_shaped2 c.stations c.near c.col l at ≡ true) where
  pub entry-shows : ShapedAt c (entry_of2 (part entry_size2 l at))
  unfolding entry_shaped2
  entry-shows =
      let f = simp facts at t in
      let o : get_or (part entry_size2 l at) 12 0 ≡ byte l (at + 12) = get_or-part entry_size2 l at 12 (omega arith) in
      let n : get_or (part entry_size2 l at) 13 0 ≡ byte l (at + 13) = get_or-part entry_size2 l at 13 (omega arith) in
      record {
        base = subst (λ (x : List ℕ). ShapedEntry c.near nil c.col (entry_of x)) (sym (front l at)) (entry_codec.shows (bare c) l at b f.0.0);
        believed_station = subst (λ (x : ℕ). x ≢ nil → x < c.stations) (sym o) (below_of _ _ f.0.1);
        next_near = subst (λ (x : ℕ). x ≢ nil → has c.near x ≡ true) (sym n) (nil-or _ _ f.1);
      }

  pub entry-shown : entry_bytes2 (entry_of2 (part entry_size2 l at)) ≡ part entry_size2 l at
  unfolding entry_shaped2
  entry-shown =
      let f = simp facts at t in
      ap₂ ◌++◌ (ap (λ (x : List ℕ). entry_bytes (entry_of x)) (front l at) ∙ entry_codec.form (bare c) l at b f.0.0)
      (last-two (part entry_size2 l at) ∙ part-part 2 entry_size2 l at 12 (omega arith)) ∙ sym (part-add entry_size 2 l at)

abbrev pub entry_codec2 : Codec entry_size2 Entry2 (λ c. ShapedEntry2 c.stations c.near c.col)
entry_codec2 = record {
  out = entry_bytes2;
  into = entry_of2;
  test = λ c l at. entry_shaped2 c.stations c.near c.col l at;
  Fits = λ e. Unit {0};
  fits = λ c e G. tt;
  long = λ e f. length-append (entry_bytes e.base) (e.believed ∷ e.next ∷ []) ∙ ap (λ (k : ℕ). k + 2) (length-entry_bytes e.base);
  bytes = entry-bytes;
  back = entry-back;
  passes = entry-passes;
  shows = entry-shows;
  form = entry-shown;
}

-- ---- messages: the first seven bytes are those of version 1
front7 : (l : List ℕ) (at : ℕ) → part message_size (part message_size2 l at) 0 ≡ part message_size l at
front7 l at = part-part message_size message_size2 l at 0 (omega arith) ∙ ap (part message_size l) (add-zero at)

base-part7 : (m : Message2) → part message_size (message_bytes2 m) 0 ≡ message_bytes m.base
base-part7 m = part_left message_size (message_bytes m.base) (m.root ∷ []) 0 (omega (arith, length-message_bytes m.base)) ∙ part-whole message_size _ (length-message_bytes m.base)

root-at : (m : Message2) → get_or (message_bytes2 m) 7 0 ≡ m.root
root-at m = get_or_at (message_bytes m.base) m.root [] 0 7 (length-message_bytes m.base)

last_one : (b : List ℕ) → get_or b 7 0 ∷ [] ≡ part 1 b 7
unfolding part
last_one b = refl

-- the fields of a message, read where they stand
module _ (l : List ℕ) (at : ℕ) where
  abbrev slot : List ℕ
  slot = part message_size l at

  pub slot_at : (i : ℕ) → i < message_size → get_or slot i 0 ≡ byte l (at + i)
  slot_at i h = get_or-part message_size l at i h

  pub kind_at : get_or slot 0 0 ≡ byte l at
  kind_at = slot_at 0 (omega arith) ∙ ap (byte l) (add-zero at)

module _ (c : Place) (m : Message2) (F : PlanBounds c) (G : ShapedMessage2 c.stations c.groups m) where
  kind-range : (1 ≤ m.base.kind) × (m.base.kind ≤ 3)
  kind-range = ⊎_elim (λ e. (omega arith, omega arith)) (λ o. ⊎_elim (λ e. (omega arith, omega arith)) (λ e. (omega arith, omega arith)) o) G.kinds

  root-byte : m.root < 256
  root-byte = ⊎_elim (λ e. omega (arith, (G.bare_request e).2))
      (λ o. ⊎_elim (λ e. below-byte c.stations m.root F.stations (G.belief e)) (λ e. omega (arith, (G.bare_root e).1)) o) G.kinds

  pub message-bytes : EachByte (message_bytes2 m)
  message-bytes = let k = kind-range in
      both {x = m.base.kind} (omega arith) (both {x = m.base.group} (omega (arith, F.groups, G.grouped)) (both {x = m.base.connected} (omega (arith, G.flag))
      (each_append (each_number 4 m.base.clock) (both root-byte none))))

  base_there : message_of (message_bytes m.base) ≡ m.base
  base_there = message-back m.base (omega (arith, G.clock_fits))

  pub message-there : message_of2 (message_bytes2 m) ≡ m
  message-there = λ i. record { base = (ap message_of (base-part7 m) ∙ base_there) i; root = root-at m i }

  pub message-passes : (l : List ℕ) (at : ℕ) → Bytes l → part message_size2 l at ≡ message_bytes2 m → message_shaped2 c.stations c.groups l at ≡ true
  unfolding message_shaped2
  message-passes l at b i =
      let w : message_of (part message_size l at) ≡ m.base = ap message_of (sym (front7 l at) ∙ ap (λ (x : List ℕ). part message_size x 0) i ∙ base-part7 m) ∙ base_there in
      let e0 : byte l at ≡ m.base.kind = sym (kind_at l at) ∙ ap (λ (m : Message). m.kind) w in
      let e1 : byte l (at + 1) ≡ m.base.group = sym (slot_at l at 1 (omega arith)) ∙ ap (λ (m : Message). m.group) w in
      let e2 : byte l (at + 2) ≡ m.base.connected = sym (slot_at l at 2 (omega arith)) ∙ ap (λ (m : Message). m.connected) w in
      let e7 : byte l (at + 7) ≡ m.root = sym (get_or-part message_size2 l at 7 (omega arith)) ∙ ap (λ (x : List ℕ). get_or x 7 0) i ∙ root-at m in
      let zero : m.base.kind ≡ request → (x : ℕ) → at + 2 ≤ x → x < at + message_size2 → byte l x ≡ 0 = λ e x u v.
      let r = G.bare_request e in
      by-eq x (at + 7) (λ q. ap (byte l) q ∙ e7 ∙ r.2) (λ q. ap (byte l) (omega arith) ∙ sym (slot_at l at (x - at) (omega arith))
      ∙ bare-bytes (slot l at) (part-Bytes message_size l at b) (ap (λ (m : Message). m.connected) w ∙ r.0) (ap (λ (m : Message). m.clock) w ∙ r.1) (x - at) (omega arith) (omega arith)) in
      rw (e0, e1, e2, e7)
      (and_both _ _ (and_both _ _ (and_both _ _ (and_both _ _ (and_both _ _
      (and_both _ _ (le-leb 1 m.base.kind kind-range.0) (le-leb m.base.kind 3 kind-range.1))
      (lt-ltb _ _ G.grouped)) (le-leb _ 1 G.flag))
      (suppose _ _ (λ t. zeros_of l _ _ (zero (eqb-true _ _ t)))))
      (suppose _ _ (λ t. let r = G.bare_root (eqb-true _ _ t) in and_both _ _ (eq-eqb _ 0 r.0) (eq-eqb _ 0 r.1))))
      (suppose _ _ (λ t. below-passes _ _ (G.belief (eqb-true _ _ t)))))

module _ (c : Place) (l : List ℕ) (at : ℕ) (b : Bytes l) (t : message_shaped2 c.stations c.groups l at ≡ true) where
  pub message-shows : ShapedMessage2 c.stations c.groups (message_of2 (part message_size2 l at))
  unfolding message_shaped2
  message-shows = subst (λ (x : List ℕ). ShapedMessage2 c.stations c.groups (record { base = message_of x; root = get_or (part message_size2 l at) 7 0 })) (sym (front7 l at))
      (let f = simp facts at t in
      let k0 = kind_at l at in
      let k1 = slot_at l at 1 (omega arith) in
      let k2 = slot_at l at 2 (omega arith) in
      let k7 : get_or (part message_size2 l at) 7 0 ≡ byte l (at + 7) = get_or-part message_size2 l at 7 (omega arith) in
      let low : 1 ≤ byte l at = f.0.0.0.0.0.0 in
      let high : byte l at ≤ 3 = f.0.0.0.0.0.1 in
      let zero : get_or (slot l at) 0 0 ≡ request → (x : ℕ) → 2 ≤ x → x < message_size2 → byte l (at + x) ≡ 0 =
      λ e x u v. zeros-at l _ _ (f.0.0.1 (sym k0 ∙ e)) (at + x) (omega arith) (omega arith) in
      record {
        kinds = by-eq (get_or (slot l at) 0 0) 1 (λ e. inl e) (λ n. inr (by-eq (get_or (slot l at) 0 0) 2 (λ e. inl e) (λ m. inr (omega arith))));
        grouped = omega (arith, f.0.0.0.0.1);
        flag = omega (arith, f.0.0.0.1);
        clock_fits = omega (arith, number_at-lt 4 (slot l at) 3 (part-Bytes message_size l at b));
        bare_request = λ e. (k2 ∙ zero e 2 (omega arith) (omega arith), bare-clock (slot l at) (λ x u v. slot_at l at x v ∙ zero e x u (omega arith)), k7 ∙ zero e 7 (omega arith) (omega arith));
        bare_root = λ e. let w = f.0.1 (sym k0 ∙ e) in (k2 ∙ w.0, k7 ∙ w.1);
        belief = λ e. subst (λ (x : ℕ). x ≢ nil → x < c.stations) (sym k7) (below_of _ _ (f.1 (sym k0 ∙ e)));
      })

  pub message-form : message_bytes2 (message_of2 (part message_size2 l at)) ≡ part message_size2 l at
  message-form =
      ap₂ ◌++◌ (ap (λ (x : List ℕ). message_bytes (message_of x)) (front7 l at) ∙ slot-back (slot l at) (length_part message_size l at) (part-Bytes message_size l at b))
      (last_one (part message_size2 l at) ∙ part-part 1 message_size2 l at 7 (omega arith)) ∙ sym (part-add message_size 1 l at)

abbrev pub message_codec2 : Codec message_size2 Message2 (λ c. ShapedMessage2 c.stations c.groups)
message_codec2 = record {
  out = message_bytes2;
  into = message_of2;
  test = λ c l at. message_shaped2 c.stations c.groups l at;
  Fits = λ m. Unit {0};
  fits = λ c m G. tt;
  long = λ m f. length-append (message_bytes m.base) (m.root ∷ []) ∙ ap (λ (k : ℕ). k + 1) (length-message_bytes m.base);
  bytes = message-bytes;
  back = message-there;
  passes = message-passes;
  shows = message-shows;
  form = message-form;
}
