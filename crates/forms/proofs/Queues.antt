-- A channel in its bytes, made of messages in theirs: a count, then the slots in use, then zeros. For any version's messages.
use mathlib.Core.Path.{◌≡◌, refl, sym, ap, subst, ◌∙◌}
use mathlib.Core.Bool.{Bool, true, ◌&&◌, ◌||◌}
use mathlib.Core.List.{List, [], ◌∷◌, map}
use Prim.Native.Nat.{ℕ, zero, suc, ◌+◌, ◌-◌, ◌*◌, ◌≤◌, ◌<◌}
use native.Mathlib.Nat.{add-zero, suc-mul, mul_comm, mul-le-mul_right}
use native.Mathlib.Omega.{arith}
use lib.Dec.{leb, eqb}
use lib.ListN.{length, get_or, length-map, length-drop, length-replicate}
use lib.Seq.{ext_get_or, get_or-drop}
use borrow.Author.Tests.{le-leb, eq-eqb, eqb-true}
use Rattle.bits.specs.Masks.{has}
use Rattle.bits.specs.Parts.{part}
use Rattle.bits.proofs.Cases.{by-eq, by-or, and_both, or_l, or_r}
use Rattle.bits.specs.Numbers.{Bytes}
use Rattle.bits.proofs.Parts.{lent, length_part, get_or-part, part-part, part-lent, get_or-zeros}
use Rattle.protocol.specs.Shaped.{All, none, both, Version, ShapedChannelOf}
use Rattle.protocol.proofs.Laws.Maps.{All-map}
use Rattle.channel.specs.Slots.{flat, laid, in_use, read_all, write_all}
use Rattle.channel.specs.Inner.Channels.{Queue}
use Rattle.channel.proofs.Slots.{nth-part, length-in-use, used-and-free}
use Rattle.channel.proofs.Things as things
use Rattle.layout.specs.Layout.{byte}
use Rattle.layout.specs.Bounded.{table}
use Rattle.layout.proofs.Bounded.{table_at, table-rest, table_of}
use Rattle.layout.proofs.Facts.{facts}
use Rattle.forms.specs.Cells.{EachByte}
use Rattle.forms.specs.Places.{Place, PlanBounds}
use Rattle.forms.specs.Tables.{Codec}
use Rattle.forms.proofs.Each.{each_append, each-zero}

-- ---- lists
-- a statement at each element, from one at each place
all-nth : {A : Type 0} {P : A → Type 0} (l : List A) (d : A) → ((i : ℕ) → i < length l → P (get_or l i d)) → All P l
all-nth [] d f = none
all-nth (x ∷ l) d f = both (f 0 (omega arith)) (all-nth l d (λ i h. f (suc i) (omega arith)))

all-into : {A B : Type 0} {P : B → Type 0} (f : A → B) {l : List A} → All (λ (x : A). P (f x)) l → All P (map f l)
all-into f none = none
all-into f (both h hs) = both h (all-into f hs)

-- the element at place i of what was made of a list
at-nth : {A : Type 0} {P : A → Type 0} (f : A → List ℕ) {l : List A} → All P l → (i : ℕ) → i < length l → (x : A) × (P x) × (get_or (map f l) i [] ≡ f x)
at-nth f none i h = absurd (omega arith)
at-nth f (both {x} p ps) zero h = (x, p, refl)
at-nth f (both p ps) (suc i) h = at-nth f ps i (omega arith)

each-flat : {l : List (List ℕ)} → All EachByte l → EachByte (flat l)
unfolding flat
each-flat none = none
each-flat (both h hs) = each_append h (each-flat hs)

-- the messages of the version v, in w bytes each; the count is a byte
module _ {E M : Type 0} (v : Version E M) (w : ℕ) (μ : Codec w M (λ c. v.MessageShaped c.stations c.groups)) (always : (m : M) → μ.Fits m) (few-most : v.capacity < 256) where
  abbrev pub most : ℕ
  most = v.capacity

  abbrev pub ShapedAt : Place → List M → Type 0
  ShapedAt c = ShapedChannelOf v c.stations c.groups c.near c.col

  abbrev pub outs : List M → List ℕ
  outs ms = write_all most w μ.out ms

  abbrev pub intos : List ℕ → List M
  intos b = read_all w μ.into b

  -- "a channel holds at most 8, and none unless its ends are neighbours"
  abbrev pub test : Place → List ℕ → ℕ → Bool
  test c l at =
      (leb (byte l at) most && (eqb (byte l at) 0 || has c.near c.col))
      && table l (at + 1) w most (byte l at) (λ i. μ.test c l (at + 1 + w * i))

  pub long : (m : M) → length (μ.out m) ≡ w
  long m = μ.long m (always m)

  pub outs-long : (ms : List M) → length ms ≤ most → length (outs ms) ≡ 1 + most * w
  outs-long = things.length-written most w μ.out μ.into long

  -- ---- a well-shaped channel
  module _ (c : Place) (ms : List M) (F : PlanBounds c) (G : ShapedAt c ms) where
    pub outs-bytes : EachByte (outs ms)
    unfolding laid
    outs-bytes = both {x = length (map μ.out ms)} (omega (arith, length-map ms μ.out, G.at_most, few-most))
        (each_append (each-flat (all-into μ.out (All-map (λ m g. μ.bytes c m F g) G.each))) (each-zero ((most - length (map μ.out ms)) * w)))

    pub outs_back : intos (outs ms) ≡ ms
    outs_back = things.read_back most w μ.out μ.into long (All-map (λ m g. μ.back c m F g) G.each)

  -- ---- where the count and slot i stand, in the channel's bytes b that begin at `at`
  module _ (l : List ℕ) (at : ℕ) where
    abbrev pub b : List ℕ
    b = part (1 + most * w) l at

    count_at : get_or b 0 0 ≡ byte l at
    count_at = get_or-part (1 + most * w) l at 0 (omega arith) ∙ ap (byte l) (add-zero at)

    slot_at : (i : ℕ) → i < most → lent (1 + i * w) w b ≡ part w l (at + 1 + w * i)
    slot_at i h =
        let s : suc i * w ≤ most * w = mul-le-mul_right w h in
        let in-it : 1 + i * w + w ≤ 1 + most * w = omega (arith, suc-mul i w) in
        part-lent w b (1 + i * w) (rw length_part in-it) ∙ part-part w (1 + most * w) l at (1 + i * w) in-it ∙ ap (part w l) (omega (arith, mul_comm w i))

    -- behind the slots in use
    past-slots : w * byte l at ≡ get_or b 0 0 * w
    past-slots = mul_comm w (byte l at) ∙ ap (λ (x : ℕ). x * w) (sym count_at)

  -- ---- bytes that passed
  module _ (c : Place) (l : List ℕ) (at : ℕ) (B : Bytes l) (t : test c l at ≡ true) where
    few : byte l at ≤ most
    few = (simp facts at t).0.0

    message-at : (i : ℕ) → i < byte l at → μ.test c l (at + 1 + w * i) ≡ true
    message-at i h = table_at l _ _ _ _ _ (simp facts at t).1 i h

    queue : Queue most w (b l at)
    queue =
        let k = count_at l at in
        let n : length (b l at) ≡ 1 + most * w = length_part (1 + most * w) l at in
        let fit : get_or (b l at) 0 0 * w + (most - get_or (b l at) 0 0) * w ≡ most * w = used-and-free most w (get_or (b l at) 0 0) (omega (arith, few)) in
        let here = past-slots l at in
        record {
          len = n;
          at_most = omega (arith, few);
          clear = ext_get_or 0 _ _ (simp (length-drop, length-replicate) (omega arith))
              (λ i j.
              let j' : i < length (b l at) - (1 + get_or (b l at) 0 0 * w) = rw length-drop at j in
              get_or-drop (1 + get_or (b l at) 0 0 * w) (b l at) i 0 ∙ get_or-part (1 + most * w) l at (1 + get_or (b l at) 0 0 * w + i) (omega arith)
              ∙ table-rest l (at + 1) w most (byte l at) _ (simp facts at t).1 _ (omega arith) (omega (arith, mul_comm w most))
              ∙ sym (get_or-zeros ((most - get_or (b l at) 0 0) * w) i));
        }

    -- what holds of the bytes of each slot that passed holds of each slot in use
    each-slot : (P : List ℕ → Type 0) → ((at : ℕ) → μ.test c l at ≡ true → P (part w l at)) → All P (in_use w (b l at))
    each-slot P f = all-nth (in_use w (b l at)) [] (λ i h.
        let n = length-in-use w (b l at) in
        let k = count_at l at in
        let e : part w l (at + 1 + w * i) ≡ get_or (in_use w (b l at)) i [] =
        sym (slot_at l at i (omega (arith, few))) ∙ nth-part most w i (b l at) queue (omega arith) in
        subst P e (f _ (message-at i (omega arith))))

    pub shows : ShapedAt c (intos (part (1 + most * w) l at))
    shows =
        let n : length (intos (b l at)) ≡ byte l at = things.length-read most w μ.out μ.into (b l at) ∙ count_at l at in
        record {
          at_most = omega (arith, few);
          near = λ j. by-or (eqb (byte l at) 0) (has c.near c.col) (simp facts at t).0.1 (λ z. absurd (omega (arith, eqb-true (byte l at) 0 z))) (λ y. y);
          each = all-into μ.into (each-slot (λ s. v.MessageShaped c.stations c.groups (μ.into s)) (λ x. μ.shows c l x B));
        }

    pub form : outs (intos (part (1 + most * w) l at)) ≡ part (1 + most * w) l at
    form = things.written_back most w μ.out μ.into (b l at) queue (each-slot (λ s. μ.out (μ.into s) ≡ s) (λ x. μ.form c l x B))

  -- ---- bytes that are those of a well-shaped channel
  module _ (c : Place) (ms : List M) (F : PlanBounds c) (G : ShapedAt c ms) (l : List ℕ) (at : ℕ) (B : Bytes l) (e : part (1 + most * w) l at ≡ outs ms) where
    count-is : byte l at ≡ length ms
    unfolding laid
    count-is = sym (count_at l at) ∙ ap (λ (x : List ℕ). get_or x 0 0) e ∙ length-map ms μ.out

    q : Queue most w (b l at)
    q = subst (Queue most w) (sym e) (things.queue-written most w μ.out μ.into long ms G.at_most)

    message-passes : (i : ℕ) → i < byte l at → μ.test c l (at + 1 + w * i) ≡ true
    message-passes i h =
        let few = G.at_most in
        let n = count-is in
        let m = at-nth μ.out G.each i (omega arith) in
        μ.passes c m.0 F m.1 l _ B
        (sym (slot_at l at i (omega arith)) ∙ nth-part most w i (b l at) q (omega (arith, count_at l at)) ∙ ap (λ (x : List ℕ). get_or (in_use w x) i []) e
        ∙ ap (λ (x : List (List ℕ)). get_or x i []) (things.slots-written most w μ.out μ.into long ms) ∙ m.2)

    free-zero : (i : ℕ) → at + 1 + w * byte l at ≤ i → i < at + 1 + w * most → byte l i ≡ 0
    free-zero i a z =
        let k = count_at l at in
        let past : ℕ = 1 + get_or (b l at) 0 0 * w in
        let here = past-slots l at in
        let i' : i ≡ at + (past + (i - at - past)) = omega arith in
        ap (byte l) i' ∙ sym (get_or-part (1 + most * w) l at (past + (i - at - past)) (omega (arith, mul_comm w most)))
        ∙ sym (get_or-drop past (b l at) (i - at - past) 0)
        ∙ ap (λ (ys : List ℕ). get_or ys (i - at - past) 0) q.clear ∙ get_or-zeros ((most - get_or (b l at) 0 0) * w) (i - at - past)

    pub passes : test c l at ≡ true
    passes = and_both _ _
        (and_both _ _ (le-leb (byte l at) most (omega (arith, count-is, G.at_most)))
        (by-eq (byte l at) 0 (λ z. or_l _ (has c.near c.col) (eq-eqb _ 0 z)) (λ n. or_r (eqb (byte l at) 0) _ (G.near (omega (arith, count-is))))))
        (table_of l (at + 1) w most (byte l at) _ message-passes free-zero)

  abbrev pub queues : Codec (1 + v.capacity * w) (List M) (λ c. ShapedChannelOf v c.stations c.groups c.near c.col)
  queues = record {
    out = outs;
    into = intos;
    test = test;
    Fits = λ ms. length ms ≤ most;
    fits = λ c ms G. G.at_most;
    long = outs-long;
    bytes = outs-bytes;
    back = outs_back;
    passes = passes;
    shows = shows;
    form = form;
  }
