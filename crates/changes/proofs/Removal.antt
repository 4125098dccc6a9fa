-- What a channel's bytes are once a message is taken out, or one more has come, byte by byte.
--     removal, message-removed    for any capacity and width, and of messages
--     message-sent                one more changes the count and its own slot
use mathlib.Core.Path.{◌≡◌, sym, ap, subst, ◌∙◌}
use mathlib.Core.Logic.{inl, inr, ⊎_elim}
use mathlib.Core.List.{List, [], ◌∷◌, ◌++◌}
use Prim.Native.Nat.{ℕ, ◌+◌, ◌*◌, ◌-◌, ◌≤◌, ◌<◌}
use native.Mathlib.Nat.{suc-mul}
use native.Mathlib.Numerals.{add-one}
use native.Mathlib.Omega.{arith}
use lib.ListN.{length, get_or, set, replicate, length-set, length-replicate, get_or-eq_default}
use lib.Seq.{get_or-set_same, get_or-set_other}
use Rattle.bits.specs.Parts.{part, splice}
use Rattle.bits.specs.Stretches.{stretch, Outside, ChangedIn}
use Rattle.bits.proofs.Parts.{lent, back, length-splice, splice-in, splice-out, length_part, get_or-part, part-cong, part-lent, part-whole, put_whole, get_or-zeros}
use Rattle.protocol.specs.declared.Message.{Message}
use Rattle.protocol.specs.Net.{capacity, remove_at}
use Rattle.layout.specs.Layout.{message_size}
use Rattle.channel.specs.Slots.{in_use, laid}
use Rattle.channel.specs.Messages.{message_bytes, messages_of, channel_bytes}
use Rattle.changes.specs.Removal.{count_and_slots, Removed}
use Rattle.channel.specs.Inner.Channels.{IsChannel, Queue, moved_up}
use Rattle.channel.proofs.Moved.{length-moved_up, get_or-moved_up}
use Rattle.channel.proofs.Slots.{used-and-free, removed, sent}
use Rattle.channel.proofs.Messages.{length-message_bytes, queue, removed-list, sent-list}

-- a part that was lent came back, and the first byte was stored: nothing else changed
pub changed-back : (n a v : ℕ) (b ys : List ℕ) → length ys ≡ n → a + n ≤ length b → ChangedIn (stretch 0 1 ∷ stretch a n ∷ []) b (set (back a n b ys) 0 v)
unfolding Outside
changed-back n a v b ys e h =
    let put : back a n b ys ≡ splice b a ys = put_whole a n b ys e h in
    rw put (record {
      long = length-set (splice b a ys) 0 v ∙ length-splice b a ys;
      rest = λ x o. get_or-set_other (splice b a ys) 0 x v 0 (⊎_elim (λ p. omega arith) (λ p. omega arith) o.0)
          ∙ splice-out b a ys x (⊎_elim (λ p. inl p) (λ p. inr (omega arith)) o.1.0);
    })

-- the widths of the slots before the i-th, of those behind it, and of those from it on
widths : (w k i : ℕ) → i < k → (i * w + (k - i) * w ≡ k * w) × (i * w + w + (k - 1 - i) * w ≡ k * w) × ((k - 1) * w + w ≡ k * w)
widths w k i h =
    let n : k - (i + 1) ≡ k - 1 - i = omega arith in
    let s : (i + 1) * w ≡ i * w + w = rw add-one (suc-mul i w) in
    let t : k - (k - 1) ≡ 1 = omega arith in
    let u : 1 * w ≡ w = omega arith in (
      used-and-free k w i (omega arith),
      rw (n, s) at (used-and-free k w (i + 1) (omega arith)),
      rw (t, u) at (used-and-free k w (k - 1) (omega arith)),
    )

module _ (most w i : ℕ) (b : List ℕ) (Q : Queue most w b) (h : i < get_or b 0 0) where
  abbrev k : ℕ
  k = get_or b 0 0

  abbrev a : ℕ
  a = 1 + i * w

  abbrev q : ℕ
  q = 1 + get_or b 0 0 * w - (1 + i * w)

  abbrev ys : List ℕ
  ys = moved_up w (lent (1 + i * w) (1 + get_or b 0 0 * w - (1 + i * w)) b)

  fits : a + q ≤ length b
  fits = omega (arith, (widths w k i h).0, used-and-free most w k Q.at_most, Q.len)

  whole : lent a q b ≡ part q b a
  whole = part-lent q b a fits

  wide : length (lent a q b) ≡ q
  wide = ap length whole ∙ length_part q b a

  room : w ≤ length (lent a q b)
  room = omega (arith, wide, (widths w k i h).1)

  -- what stands j further on than slot i
  stands : (j : ℕ) → j < q → get_or (set (back a q b ys) 0 (k - 1)) (a + j) 0 ≡ get_or (part q b a) (j + w) 0
  stands j f =
      let long : length ys ≡ q = length-moved_up w (lent a q b) room ∙ wide in
      get_or-set_other (back a q b ys) 0 (a + j) (k - 1) 0 (omega arith)
      ∙ ap (λ (l : List ℕ). get_or l (a + j) 0) (put_whole a q b ys long fits)
      ∙ splice-in b a ys j (omega arith) (omega (arith, fits)) ∙ get_or-moved_up w (lent a q b) j
      ∙ ap (λ (l : List ℕ). get_or l (j + w) 0) whole

  is : laid most w (remove_at i (in_use w b)) ≡ set (back a q b ys) 0 (k - 1)
  is = sym (removed most w i b ys Q h (λ _. ys))

  only : ChangedIn (count_and_slots w i k) b (set (back a q b ys) 0 (k - 1))
  unfolding count_and_slots
  only =
      let n : q ≡ (k - i) * w = omega (arith, (widths w k i h).0) in
      subst (λ (n : ℕ). ChangedIn (stretch 0 1 ∷ stretch a n ∷ []) b (set (back a q b ys) 0 (k - 1))) n
      (changed-back q a (k - 1) b ys (length-moved_up w (lent a q b) room ∙ wide) fits)

  moved : part ((k - 1 - i) * w) (set (back a q b ys) 0 (k - 1)) a ≡ part ((k - 1 - i) * w) b (1 + (i + 1) * w)
  moved =
      let s : (i + 1) * w ≡ i * w + w = rw add-one (suc-mul i w) in
      part-cong ((k - 1 - i) * w) _ b a (1 + (i + 1) * w)
      (λ j f. let in-q : j + w < q = omega (arith, (widths w k i h).1) in
      stands j (omega arith) ∙ get_or-part q b a (j + w) in-q ∙ ap (λ (x : ℕ). get_or b x 0) (omega (arith, s)))

  cleared : part w (set (back a q b ys) 0 (k - 1)) (1 + (k - 1) * w) ≡ replicate w 0
  cleared =
      let n = (k - 1 - i) * w in
      let e : 1 + (k - 1) * w ≡ a + n = omega (arith, (widths w k i h).1, (widths w k i h).2) in
      part-cong w _ (replicate w 0) (1 + (k - 1) * w) 0
      (λ j f. let past : q ≤ n + j + w = omega (arith, (widths w k i h).1) in
      ap (λ (x : ℕ). get_or (set (back a q b ys) 0 (k - 1)) x 0) (omega (arith, e))
      ∙ stands (n + j) (omega (arith, (widths w k i h).1))
      ∙ get_or-eq_default (part q b a) 0 (rw (length_part q b a) past) ∙ sym (get_or-zeros w (0 + j)))
      ∙ part-whole w (replicate w 0) (length-replicate w 0)

  pub removal : Removed w k i b (laid most w (remove_at i (in_use w b)))
  removal = subst (Removed w k i b) (sym is) (record {
    only = only;
    count = get_or-set_same (back a q b ys) 0 (k - 1) 0 (omega (arith, only.long, length-set (back a q b ys) 0 (k - 1), Q.len));
    moved = moved;
    cleared = cleared;
  })

-- ---- of messages
module _ (b : List ℕ) (h : IsChannel b) where
  pub message-removed : (i : ℕ) → i < length (messages_of b) → Removed message_size (length (messages_of b)) i b (channel_bytes (remove_at i (messages_of b)))
  message-removed i f =
      subst (Removed message_size (length (messages_of b)) i b) (removed-list b h i)
      (subst (λ (k : ℕ). Removed message_size k i b (laid capacity message_size (remove_at i (in_use message_size b)))) h.said
      (removal capacity message_size i b (queue b h) (rw h.said f)))

  -- it comes behind the k that are there, in slot k
  pub message-sent : (m : Message) → let k = length (messages_of b) in k < capacity → ChangedIn (count_and_slots message_size k (k + 1)) b (channel_bytes (messages_of b ++ (m ∷ [])))
  unfolding count_and_slots
  message-sent m f =
      let k = length (messages_of b) in
      let few : get_or b 0 0 < capacity = omega (arith, h.said, f) in
      let one : k + 1 - k ≡ 1 = omega arith in
      rw one (subst (λ (l : List ℕ). ChangedIn (stretch 0 1 ∷ stretch (1 + k * message_size) message_size ∷ []) b l)
      (ap (λ (x : ℕ). set (back (1 + x * message_size) message_size b (message_bytes m)) 0 (get_or b 0 0 + 1)) (sym h.said)
      ∙ sent capacity message_size b (message_bytes m) (queue b h) few (length-message_bytes m) ∙ sent-list b h m)
      (changed-back message_size (1 + k * message_size) (get_or b 0 0 + 1) b (message_bytes m) (length-message_bytes m) (omega (arith, h.long, f))))
