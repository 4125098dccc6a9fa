-- A delivery, and what it is made of, in the bytes of a net: nothing changes but in some stretches.
--     taking, going      a message taken out of a channel, and one that goes out on it
--     field, parent-and-clock    fields of an entry
--     delivered, left    a delivery that is accepted, and the messages that it leaves
use mathlib.Core.Path.{◌≡◌, refl, sym, ap, subst, ◌∙◌}
use mathlib.Core.Logic.{◌≢◌}
use mathlib.Core.Bool.{true}
use mathlib.Core.List.{List, [], ◌∷◌, ◌++◌}
use Prim.Native.Nat.{ℕ, ◌+◌, ◌≤◌, ◌<◌}
use native.Mathlib.Nat.{add-zero}
use native.Mathlib.Omega.{arith}
use lib.Dec.{eqb}
use lib.ListN.{length}
use borrow.Author.Tests.{ltb-true}
use Rattle.bits.specs.Numbers.{bytes}
use Rattle.bits.specs.Parts.{part, splice}
use Rattle.bits.specs.Stretches.{Stretch, stretch, further, ChangedIn}
use Rattle.bits.specs.Masks.{with, without}
use Rattle.bits.proofs.Cases.{by_bool, and_l}
use Rattle.bits.proofs.Numbers.{length-bytes}
use Rattle.bits.proofs.Stretches.{changed_then, changed-splice, changed-part}
use Rattle.protocol.specs.declared.Entry.{Entry}
use Rattle.protocol.specs.declared.Message.{Message}
use Rattle.protocol.specs.Net.{Net, capacity, request, most_stations, most_groups, upd2, remove_at, set_entry, set_channel, take_at, send, near?}
use Rattle.protocol.specs.Cases.{adopts}
use Rattle.protocol.specs.Entries.{with_parents, with_clock, with_child, stops_waiting, adopting, hearing, reply_of}
use Rattle.protocol.specs.Rules.{oldest, room?, answered, heard, deliver}
use Rattle.protocol.specs.Shaped.{Shaped}
use Rattle.protocol.proofs.Laws.Maps.{upd2-hit, upd2-miss, set-again, length-remove, length-snoc}
use Rattle.protocol.proofs.Shape.Actions.{near-cable, oldest-shaped, answer-entry, taken-room}
use Rattle.protocol.proofs.Steps.Steps.{Passed}
use Rattle.layout.specs.Layout.{stations, entry_size, channel_at, channel_size, message_size}
use Rattle.layout.specs.declared.form.Mark.{Mark}
use Rattle.layout.specs.Marks.{entry_at}
use Rattle.channel.specs.Messages.{messages_of, channel_bytes}
use Rattle.channel.specs.Inner.Channels.{IsChannel}
use Rattle.changes.specs.Removal.{count_and_slots}
use Rattle.changes.proofs.Removal.{message-removed, message-sent}
use Rattle.forms.specs.Plans.{plan_in}
use Rattle.shape.specs.Shape.{shaped_as}
use Rattle.net.specs.View.{view}
use Rattle.net.specs.Encode.{entry_bytes, bytes_as}
use Rattle.net.proofs.Records.{children-put, waiting-put}
use Rattle.net.proofs.Forms.{seen, view-bytes, view-channel, channel-is, bytes-hold, bytes-field, bytes-parent, bytes-channel, stands}
use Rattle.changes.specs.Changes.{taking_out, going_out, delivering}

-- ---- one channel of bytes that are a net's
module _ (m : Mark) (l : List ℕ) (h : shaped_as m l ≡ true) (s d : ℕ) (hs : s < (view l).stations) (hd : d < (view l).stations) where
  abbrev ms : List Message
  ms = (view l).channel s d

  few : (view l).stations ≤ most_stations
  few = (seen m l h).plan.stations_most

  fits : channel_at s d + channel_size ≤ length l
  fits = omega (arith, few, ap length (view-bytes m l h), (bytes-hold m (view l)).long)

  pub below : (s < stations l) × (d < stations l)
  unfolding view plan_in
  below = (hs, hd)

  pub shows : messages_of (part channel_size l (channel_at s d)) ≡ (view l).channel s d
  shows = sym (view-channel l s d below.0 below.1)

  -- other messages put in the channel
  put : (ms : List Message) → length ms ≤ capacity → bytes_as m (set_channel (view l) s d ms) ≡ splice l (channel_at s d) (channel_bytes ms)
  put ms most = bytes-channel m (view l) few (seen m l h).plan.groups_most s d ms most hs hd ∙ ap (λ (x : List ℕ). splice x (channel_at s d) (channel_bytes ms)) (view-bytes m l h)

  in-channel : (ts : List Stretch) (ms : List Message) → length ms ≤ capacity → ChangedIn ts (part channel_size l (channel_at s d)) (channel_bytes ms)
      → ChangedIn (further (channel_at s d) ts) l (bytes_as m (set_channel (view l) s d ms))
  in-channel ts ms most c = subst (ChangedIn (further (channel_at s d) ts) l) (sym (put ms most)) (changed-part ts channel_size l (channel_at s d) (channel_bytes ms) fits c)

  pub taking : (i : ℕ) → i < length ms → ChangedIn (taking_out l s d i) l (bytes_as m (take_at (view l) s d i))
  unfolding taking_out take_at
  taking i f =
      let b = part channel_size l (channel_at s d) in
      let c : IsChannel b = channel-is m l h s d below.0 below.1 in
      in-channel (count_and_slots message_size i (length ms)) (remove_at i ms) (omega (arith, length-remove i ms, ((seen m l h).channels s d).at_most))
      (subst (λ (xs : List Message). ChangedIn (count_and_slots message_size i (length xs)) b (channel_bytes (remove_at i xs))) shows
      (message-removed b c i (rw shows f)).only)

  going : (x : Message) → length ms < capacity → ChangedIn (going_out l s d) l (bytes_as m (send (view l) s d x))
  unfolding going_out send
  going x f =
      let b = part channel_size l (channel_at s d) in
      let c : IsChannel b = channel-is m l h s d below.0 below.1 in
      in-channel (count_and_slots message_size (length ms) (length ms + 1)) (ms ++ (x ∷ [])) (omega (arith, length-snoc ms x, f))
      (subst (λ (xs : List Message). ChangedIn (count_and_slots message_size (length xs) (length xs + 1)) b (channel_bytes (xs ++ (x ∷ [])))) shows
      (message-sent b c x (rw shows f)))

-- ---- one field of an entry, in the bytes of any net
module _ (m : Mark) (N : Net) (few : N.stations ≤ most_stations) (few_groups : N.groups ≤ most_groups) (g p : ℕ) (hg : g < N.groups) (hp : p < N.stations) where
  abbrev at : ℕ
  at = entry_at m g p

  field : (o n : ℕ) (vs : List ℕ) (e : Entry) → splice (entry_bytes (N.entry g p)) o vs ≡ entry_bytes e → length vs ≡ n → o + n ≤ entry_size
      → ChangedIn (stretch (at + o) n ∷ []) (bytes_as m N) (bytes_as m (set_entry N g p e))
  field o n vs e put k fits =
      subst (ChangedIn (stretch (at + o) n ∷ []) (bytes_as m N)) (bytes-field m N few few_groups g p o vs e put (omega arith) hg hp)
      (changed-splice (bytes_as m N) (at + o) n vs k)

-- a parent and a clock
parent-and-clock : (m : Mark) (N : Net) → N.stations ≤ most_stations → N.groups ≤ most_groups → (g p q k : ℕ) → g < N.groups → p < N.stations → let e = N.entry g p in
    ChangedIn (stretch (entry_at m g p) 1 ∷ stretch (entry_at m g p + 4) 4 ∷ []) (bytes_as m N) (bytes_as m (set_entry N g p (with_clock (with_parents e q e.tentative) k)))
parent-and-clock m N few few_groups g p q k hg hp =
    let at = entry_at m g p in
    let l = splice (bytes_as m N) (at + 0) (q ∷ []) in
    let one : ChangedIn (stretch at 1 ∷ []) (bytes_as m N) l = subst (λ (i : ℕ). ChangedIn (stretch i 1 ∷ []) (bytes_as m N) l) (add-zero at) (changed-splice (bytes_as m N) (at + 0) 1 (q ∷ []) refl) in
    subst (ChangedIn (stretch at 1 ∷ stretch (at + 4) 4 ∷ []) (bytes_as m N)) (bytes-parent m N few few_groups g p q k hg hp)
    (changed_then one (changed-splice l (at + 4) 4 (bytes 4 k) (length-bytes 4 k)))

-- ---- a delivery, of bytes that are a net's
module _ (m : Mark) (l : List ℕ) (h : shaped_as m l ≡ true) (s d c : ℕ) (P : Passed (deliver (view l) s d c)) where
  abbrev N : Net
  N = view l

  H : Shaped N
  H = seen m l h

  abbrev x : Message
  x = oldest (view l).channel s d

  abbrev g : ℕ
  g = (oldest (view l).channel s d).group

  abbrev e : Entry
  e = (view l).entry (oldest (view l).channel s d).group d

  abbrev out : Net
  out = take_at (view l) s d 0

  near : near? N s d ≡ true
  unfolding deliver
  near = let o = P.operands in search and_l

  pub ends : (s < N.stations) × (d < N.stations) × (s ≢ d)
  ends = let w = near-cable N H s d near in (w.0, w.1, w.2)

  pub some : 0 < length (N.channel s d)
  unfolding deliver
  some = ltb-true _ _ P.enabled

  in-groups : g < N.groups
  in-groups = (oldest-shaped N H s d some).grouped

  taken : ChangedIn (taking_out l s d 0) l (bytes_as m out)
  taken = taking m l h s d ends.0 ends.1 0 some

  -- one field of the receiver's entry, once the message is out
  receiver : (o n : ℕ) (vs : List ℕ) (f : Entry) → splice (entry_bytes e) o vs ≡ entry_bytes f → length vs ≡ n → o + n ≤ entry_size
      → ChangedIn (stretch (entry_at m g d + o) n ∷ []) (bytes_as m out) (bytes_as m (set_entry out g d f))
  unfolding take_at set_channel
  receiver = field m out H.plan.stations_most H.plan.groups_most g d in-groups ends.1

  waited : ChangedIn (stretch (entry_at m g d + 10) 2 ∷ []) (bytes_as m out) (bytes_as m (set_entry out g d (stops_waiting e s)))
  waited = receiver 10 2 (bytes 2 (without e.waiting s)) (stops_waiting e s) (waiting-put e _) (length-bytes 2 _) (omega arith)

  adopted : ChangedIn (stretch (entry_at m g d) 1 ∷ stretch (entry_at m g d + 4) 4 ∷ []) (bytes_as m (set_entry out g d (stops_waiting e s))) (bytes_as m (set_entry out g d (adopting (stops_waiting e s) s x)))
  unfolding take_at set_channel set_entry
  adopted =
      let f = stops_waiting e s in
      let N₁ = set_entry out g d f in
      subst (λ (M : Net). ChangedIn (stretch (entry_at m g d) 1 ∷ stretch (entry_at m g d + 4) 4 ∷ []) (bytes_as m N₁) (bytes_as m M))
      ((λ i. set_entry N₁ g d (adopting (upd2-hit N.entry g d f i) s x)) ∙ set-again out g d f (adopting f s x))
      (parent-and-clock m N₁ H.plan.stations_most H.plan.groups_most g d s x.clock in-groups ends.1)

  -- a request: the sender is listed, and the reply goes out
  abbrev listed : Net
  listed = set_entry (take_at (view l) s d 0) (oldest (view l).channel s d).group d (with_child ((view l).entry (oldest (view l).channel s d).group d) s)

  lists : ChangedIn (stretch (entry_at m g d + 8) 2 ∷ []) (bytes_as m out) (bytes_as m listed)
  lists = receiver 8 2 (bytes 2 (with e.children s)) (with_child e s) (children-put e _) (length-bytes 2 _) (omega arith)

  replies : (r : Message) → length (out.channel d s) < capacity → ChangedIn (going_out l d s) (bytes_as m listed) (bytes_as m (send listed d s r))
  unfolding going_out take_at set_channel set_entry
  replies r room =
      let w = stands m listed (bytes_as m listed) (answer-entry N H s d near some g refl) refl in
      let back : (view l).channel d s ≡ listed.channel d s = sym (upd2-miss N.channel s d _ d s (λ i j. ends.2 j)) in
      subst (λ (xs : List Message). ChangedIn (further (channel_at d s) (count_and_slots message_size (length xs) (length xs + 1))) (bytes_as m listed) (bytes_as m (send listed d s r))) (sym back)
      (subst (λ (M : Net). d < M.stations → s < M.stations → length (M.channel d s) < capacity
      → ChangedIn (further (channel_at d s) (count_and_slots message_size (length (M.channel d s)) (length (M.channel d s) + 1))) (bytes_as m listed) (bytes_as m (send M d s r))) w.1
      (λ hd hs f. going m (bytes_as m listed) w.0 d s hd hs r f) ends.1 ends.0 room)

  pub delivered : ChangedIn (delivering m l s d) l (bytes_as m (deliver N s d c).next)
  unfolding delivering deliver answered heard hearing take_at set_channel
  delivered = by_bool (eqb x.kind request)
      (λ t. let room : room? N d s ≡ true = rw t at P.send_room in
      rw t (changed_then taken (changed_then lists (replies (reply_of g (N.root g) d (with_child e s)) (taken-room N H s d 0 d s room)))))
      (λ f. rw f (changed_then taken (by_bool (adopts e s x) (λ t. rw t (changed_then waited adopted)) (λ n. rw n waited))))

  -- what is left in the channel
  pub left : (deliver N s d c).next.channel s d ≡ remove_at 0 (N.channel s d)
  unfolding deliver answered heard send take_at set_entry set_channel
  left =
      let out : upd2 N.channel s d (remove_at 0 (N.channel s d)) s d ≡ remove_at 0 (N.channel s d) = upd2-hit N.channel s d _ in
      by_bool (eqb x.kind request)
      (λ t. rw t (upd2-miss (upd2 N.channel s d (remove_at 0 (N.channel s d))) d s _ s d (λ i j. ends.2 i) ∙ out))
      (λ f. rw f out)
