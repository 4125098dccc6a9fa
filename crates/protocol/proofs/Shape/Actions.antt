-- Every step keeps the shape: each action, with the nets that its code goes through on the way.
--     step-shaped
use mathlib.Core.Path.{◌≡◌, refl}
use mathlib.Core.Logic.{◌≢◌}
use mathlib.Core.Bool.{true, not, ◌&&◌, ◌||◌}
use mathlib.Core.List.{List}
use Prim.Native.Nat.{ℕ, ◌≤◌, ◌<◌}
use native.Mathlib.Nat.{le_refl}
use native.Mathlib.Omega.{arith}
use lib.Dec.{eqb, ltb}
use lib.ListN.{length}
use borrow.Author.Tests.{eqb-true, ltb-true}
use Rattle.bits.specs.Masks.{has}
use Rattle.bits.proofs.Cases.{by_bool, by-or, and_l, and_r, ne_of}
use Rattle.protocol.specs.declared.Message.{Message}
use Rattle.protocol.specs.Net.{Net, nil, largest_clock, capacity, request, upd2, set_entry, set_channel, remove_at, take_at, group?, station?, near?}
use Rattle.protocol.specs.Entries.{waits_on, asking, with_child, hearing}
use Rattle.protocol.specs.Rules.{no_message, oldest, room?, tick, ask, refresh, answered, heard, deliver, lose, give_up, drop_child, member, route, rules}
use Rattle.protocol.specs.Steps.{step}
use Rattle.protocol.specs.Shaped.{All, none, both, ShapedMessage, Shaped}
use Rattle.protocol.proofs.Laws.Maps.{upd2-all, All-at, length-remove}
use Rattle.protocol.proofs.Steps.Steps.{Passed, Owes, step_keeps}
use Rattle.protocol.proofs.Shape.Changes.{entry-shaped, route-shaped, send-shaped, take-shaped}
use Rattle.protocol.proofs.Shape.Entries.{shaped-asking, shaped-clock, shaped-hearing, shaped-child, shaped-member, shaped-reply, shaped-request, shaped-stay, shaped-childless, shaped-stops, shaped-waits}

module _ (N : Net) (H : Shaped N) where
  tick-shaped : (g b c : ℕ) → Passed (tick N g b c) → Shaped (tick N g b c).next
  unfolding tick group?
  tick-shaped g b c P =
      let o = P.operands in
      let o1 : ltb g N.groups ≡ true = search (and_l, and_r) in
      entry-shaped N H g _ _ (ltb-true _ _ o1) (H.plan.roots g (ltb-true _ _ o1))
      (shaped-clock (H.entries g (N.root g)) _ (omega (arith, ltb-true (N.entry g (N.root g)).clock largest_clock P.clock_room)))

  pub cable : (p q : ℕ) → has (N.neighbours p) q ≡ true → (p < N.stations) × (q < N.stations) × (p ≢ q) × (has (N.neighbours q) p ≡ true)
  cable = H.plan.cables

  pub near-cable : (s d : ℕ) → near? N s d ≡ true → (s < N.stations) × (d < N.stations) × (s ≢ d) × (has (N.neighbours d) s ≡ true)
  unfolding near?
  near-cable s d o = let o1 : has (N.neighbours s) d ≡ true = search (and_l, and_r) in cable s d o1

  -- the neighbour that is asked, and the net before the request goes out
  pub ask-near : (g p c : ℕ) → (ask N g p c).enabled ≡ true → has (N.neighbours p) (N.route p (N.root g)) ≡ true
  unfolding ask
  ask-near g p c t =
      let t1 : not (eqb (N.route p (N.root g)) nil) ≡ true = search (and_l, and_r) in
      (H.routes p (N.root g) (ne_of _ _ t1)).0

  pub ask-entry : (g p c : ℕ) → (ask N g p c).operands ≡ true → (ask N g p c).enabled ≡ true → Shaped (set_entry N g p (asking (N.entry g p) (N.route p (N.root g))))
  unfolding ask group? station?
  ask-entry g p c o t =
      let o1 : ltb g N.groups ≡ true = search (and_l, and_r) in
      let o2 : ltb p N.stations ≡ true = search (and_l, and_r) in
      let t1 : not (eqb p (N.root g)) ≡ true = search (and_l, and_r) in
      entry-shaped N H g p _ (ltb-true _ _ o1) (ltb-true _ _ o2) (shaped-asking (H.entries g p) _ (ask-near g p c t) (ne_of _ _ t1))

  ask-shaped : (g p c : ℕ) → Passed (ask N g p c) → Shaped (ask N g p c).next
  unfolding ask group? station? room? set_entry
  ask-shaped g p c P =
      let o = P.operands in
      let o1 : ltb g N.groups ≡ true = search (and_l, and_r) in
      send-shaped _ (ask-entry g p c P.operands P.enabled) p _ _ (ask-near g p c P.enabled) (ltb-true _ _ P.send_room) (shaped-request _ g (ltb-true _ _ o1))

  pub refresh-near : (g p c : ℕ) → (refresh N g p c).enabled ≡ true → has (N.neighbours p) (N.entry g p).parent ≡ true
  unfolding refresh
  refresh-near g p c t =
      let t1 : not (eqb (N.entry g p).parent nil) ≡ true = search and_l in
      (H.entries g p).parent_near (ne_of _ _ t1)

  pub refresh-entry : (g p c : ℕ) → (refresh N g p c).operands ≡ true → (refresh N g p c).enabled ≡ true → Shaped (set_entry N g p (waits_on (N.entry g p) (N.entry g p).parent))
  unfolding refresh group? station?
  refresh-entry g p c o t =
      let o1 : ltb g N.groups ≡ true = search (and_l, and_r) in
      let o2 : ltb p N.stations ≡ true = search (and_l, and_r) in
      entry-shaped N H g p _ (ltb-true _ _ o1) (ltb-true _ _ o2) (shaped-waits (H.entries g p) _ (refresh-near g p c t))

  refresh-shaped : (g p c : ℕ) → Passed (refresh N g p c) → Shaped (refresh N g p c).next
  unfolding refresh group? station? room? set_entry
  refresh-shaped g p c P =
      let o = P.operands in
      let o1 : ltb g N.groups ≡ true = search (and_l, and_r) in
      send-shaped _ (refresh-entry g p c P.operands P.enabled) p _ _ (refresh-near g p c P.enabled) (ltb-true _ _ P.send_room) (shaped-request _ g (ltb-true _ _ o1))

  -- the oldest message from s to d, and the net once it is out and the receiver has listed the sender, or heard the reply
  pub oldest-shaped : (s d : ℕ) → 0 < length (N.channel s d) → ShapedMessage N.groups (oldest N.channel s d)
  oldest-shaped s d h = All-at 0 no_message h (H.channels s d).each

  pub answer-entry : (s d : ℕ) → near? N s d ≡ true → 0 < length (N.channel s d) → (g : ℕ) → g ≡ (oldest N.channel s d).group
      → Shaped (set_entry (take_at N s d 0) g d (with_child (N.entry g d) s))
  unfolding take_at set_channel
  answer-entry s d o h g i =
      let w = near-cable s d o in
      entry-shaped (take_at N s d 0) (take-shaped N H s d 0) g d _ (rw i (oldest-shaped s d h).grouped) w.1 (shaped-child (H.entries g d) s w.3)

  pub heard-entry : (s d : ℕ) → near? N s d ≡ true → 0 < length (N.channel s d) → (m : Message) → m ≡ oldest N.channel s d
      → Shaped (set_entry (take_at N s d 0) m.group d (hearing (N.entry m.group d) s m))
  unfolding take_at set_channel
  heard-entry s d o h m i =
      let w = near-cable s d o in
      let k : ShapedMessage N.groups m = rw i (oldest-shaped s d h) in
      entry-shaped (take_at N s d 0) (take-shaped N H s d 0) _ d _ k.grouped w.1
      (shaped-hearing (H.entries m.group d) s m w.3 (λ j. omega (arith, H.plan.stations_most)) k.clock_fits)

  -- a channel that had room still has it after another message is taken out
  pub taken-room : (s d i x y : ℕ) → room? N x y ≡ true → length ((take_at N s d i).channel x y) < capacity
  unfolding room? take_at set_channel
  taken-room s d i x y t =
      let h : length (N.channel x y) < capacity = ltb-true _ _ t in
      let less : length (upd2 N.channel s d (remove_at i (N.channel s d)) x y) ≤ length (N.channel x y) =
      upd2-all (λ x y (l : List Message). length l ≤ length (N.channel x y)) (length-remove i (N.channel s d)) (λ x y _. le_refl _) x y in
      omega arith

  deliver-shaped : (s d c : ℕ) → Passed (deliver N s d c) → Shaped (deliver N s d c).next
  unfolding deliver answered heard take_at set_channel set_entry
  deliver-shaped s d c P =
      let o = P.operands in
      let o1 : near? N s d ≡ true = search and_l in
      let h : 0 < length (N.channel s d) = ltb-true _ _ P.enabled in
      let m : Message = oldest N.channel s d in
      let w = near-cable s d o1 in
      by_bool (eqb m.kind request)
      (λ i. let room : room? N d s ≡ true = by-or (not (eqb m.kind request)) (room? N d s) P.send_room
      (λ j. absurd (ne_of m.kind request j (eqb-true m.kind request i))) (λ j. j) in
      rw i (send-shaped _ (answer-entry s d o1 h m.group refl) d s _ w.3 (taken-room s d 0 d s room)
      (shaped-reply _ m.group _ d _ (oldest-shaped s d h).grouped (H.entries m.group d).clock_fits)))
      (λ i. rw i (heard-entry s d o1 h m refl))

  give_up-shaped : (g p q : ℕ) → Passed (give_up N g p q) → Shaped (give_up N g p q).next
  unfolding give_up group?
  give_up-shaped g p q P =
      let o = P.operands in
      let o1 : near? N p q ≡ true = search (and_l, and_r) in
      let o2 : ltb g N.groups ≡ true = search and_l in
      entry-shaped N H g p _ (ltb-true _ _ o2) (near-cable p q o1).0 (shaped-stops (H.entries g p) q)

  drop_child-shaped : (g p x : ℕ) → Passed (drop_child N g p x) → Shaped (drop_child N g p x).next
  unfolding drop_child group?
  drop_child-shaped g p x P =
      let o = P.operands in
      let o1 : near? N p x ≡ true = search (and_l, and_r) in
      let o2 : ltb g N.groups ≡ true = search and_l in
      entry-shaped N H g p _ (ltb-true _ _ o2) (near-cable p x o1).0 (shaped-stay (shaped-childless (H.entries g p) x))

  member-shaped : (g p v : ℕ) → Passed (member N g p v) → Shaped (member N g p v).next
  unfolding member station? group?
  member-shaped g p v P =
      let o = P.operands in
      let o1 : ltb v 2 ≡ true = search (and_l, and_r) in
      let o2 : ltb p N.stations ≡ true = search (and_l, and_r) in
      let o3 : ltb g N.groups ≡ true = search (and_l, and_r) in
      let h : v < 2 = ltb-true v 2 o1 in
      entry-shaped N H g p _ (ltb-true _ _ o3) (ltb-true _ _ o2) (shaped-stay (shaped-member (H.entries g p) v (omega arith)))

  route-step : (p d q : ℕ) → Passed (route N p d q) → Shaped (route N p d q).next
  unfolding route near? station?
  route-step p d q P =
      let o = P.operands in
      let o1 : (eqb q nil || (ltb p N.stations && ltb q N.stations && has (N.neighbours p) q)) ≡ true = search (and_l, and_r) in
      let o2 : ltb d N.stations ≡ true = search (and_l, and_r) in
      let o3 : not (eqb p d) ≡ true = search (and_l, and_r) in
      route-shaped N H p d q (λ n. (by-or _ _ o1 (λ i. absurd (n (eqb-true _ _ i))) (λ i. search (and_l, and_r)), ltb-true _ _ o2, ne_of _ _ o3))

  all_keep : (a b c : ℕ) → All (Owes N Shaped) (rules N a b c)
  unfolding rules lose
  all_keep a b c =
      both (tick-shaped a b c) (both (ask-shaped a b c) (both (refresh-shaped a b c) (both (deliver-shaped a b c) (both (λ _. take-shaped N H a b c)
      (both (give_up-shaped a b c) (both (drop_child-shaped a b c) (both (member-shaped a b c) (both (route-step a b c) none))))))))

pub step-shaped : (N : Net) → Shaped N → (k a b c : ℕ) → Shaped (step N k a b c)
step-shaped N H k a b c = step_keeps N Shaped H k a b c (all_keep N H a b c)
