-- Each action keeps each group sound.
use mathlib.Core.Path.{◌≡◌, refl, sym, ap, subst}
use mathlib.Core.Logic.{◌≢◌, ⊎_elim}
use mathlib.Core.Bool.{true, false, not}
use mathlib.Core.List.{List}
use Prim.Native.Nat.{ℕ, ◌+◌, ◌<◌}
use native.Mathlib.Nat.{le_refl}
use native.Mathlib.Omega.{arith}
use lib.Dec.{eqb, ltb}
use lib.ListN.{length}
use borrow.Author.Tests.{eqb-true, eqb-false, ltb-true, not-true}
use Rattle.bits.specs.Sums.{bit}
use Rattle.bits.specs.Masks.{has}
use Rattle.bits.proofs.Cases.{by_bool, by-eq, and_l, and_r, ne_of}
use Rattle.bits.proofs.Masks.{with-hit}
use Rattle.protocol.specs.declared.Entry.{Entry}
use Rattle.protocol.specs.declared.Message.{Message}
use Rattle.protocol.specs.Net.{Net, nil, request, reply, upd, upd2, set_entry, set_channel, set_route, remove_at, send, take_at, station?, near?}
use Rattle.protocol.specs.Cases.{adopts, CaseHolds}
use Rattle.protocol.specs.Entries.{joins, connected, with_child, request_of, reply_of, hearing, is_of, count_of, under_way}
use Rattle.protocol.specs.Rules.{no_message, oldest, tick, ask, refresh, answered, heard, deliver, lose, give_up, drop_child, member, route, rules}
use Rattle.protocol.specs.Steps.{step}
use Rattle.protocol.specs.Shaped.{All, none, both, Shaped}
use Rattle.protocol.proofs.Laws.Maps.{upd-hit, upd-all, upd2-hit, upd2-row, upd2-off, All-at}
use Rattle.protocol.proofs.Laws.Cases.{adopts-holds}
use Rattle.protocol.proofs.Laws.Messages.{bit_le, bit-one, is_of-true, count-remove, taken, sent, taken-le}
use Rattle.protocol.proofs.Sound.Core.{Core}
use Rattle.protocol.proofs.Sound.Posts.{taking, sending-other, sending-request, sending-reply}
use Rattle.protocol.proofs.Sound.Invariant.{root_is, Invariant, InvariantIn, ticked-kept, asking-kept, waiting_kept, stops-waiting-kept, with-child-kept, adopting-kept, dropping-kept, member-kept}
use Rattle.protocol.proofs.Steps.Steps.{Passed, Owes, step_keeps}

-- ---- one group
module _ {g r : ℕ} {E : ℕ → Entry} {C : ℕ → ℕ → List Message} (S : Invariant g r E C) where
  -- the channels change, and the core is kept
  rechannelled : {D : ℕ → ℕ → List Message} → Core g (root_is r) E D → Invariant g r E D
  rechannelled K = record { core = K; root_tentative = S.root_tentative; parent_joins = S.parent_joins; tentative_joins = S.tentative_joins; ceiling = S.ceiling }

  -- what waits on nobody has nothing under way
  pub idle : (p q : ℕ) → has (E p).waiting q ≡ false → under_way C g p q ≡ 0
  idle p q f = let z : bit (has (E p).waiting q) ≡ 0 = ap bit f in omega (arith, S.core.calls p q)

  -- the entry of p is e, which waits on q: its request may go out
  requested : (p q : ℕ) (e : Entry) → Invariant g r (upd E p e) C → has e.waiting q ≡ true → has (E p).waiting q ≡ false
      → Invariant g r (upd E p e) (sent C p q (request_of g))
  requested p q e T w f = record {
    core = sending-request T.core p q (request_of g) refl (rw (upd-hit E p e p refl) w) (idle p q f);
    root_tentative = T.root_tentative;
    parent_joins = T.parent_joins;
    tentative_joins = T.tentative_joins;
    ceiling = T.ceiling;
  }

  -- ---- the oldest message m from s to d is of the group
  module _ (s d : ℕ) (h : 0 < length (C s d)) (mine : (oldest C s d).group ≡ g) where
    -- the channel without it
    pub fewer : (k : ℕ) → (oldest C s d).kind ≡ k → count_of k g (taken C s d 0 s d) + 1 ≡ count_of k g (C s d)
    fewer k i =
        let one : bit (is_of k g (oldest C s d)) ≡ 1 = ap bit (is_of-true k g _ i mine) in
        omega (arith, ap (count_of k g) (upd2-hit C s d (remove_at 0 (C s d))), count-remove k g 0 (C s d) no_message h)

    gone : Invariant g r E (taken C s d 0)
    gone = rechannelled (taking S.core s d 0)

    -- it is a request: the receiver lists the sender and answers
    replied : (oldest C s d).kind ≡ request
        → Invariant g r (upd E d (with_child (E d) s)) (sent (taken C s d 0) d s (reply_of g r d (with_child (E d) s)))
    unfolding under_way connected gone
    replied k = record {
      core = sending-reply T.core d s _ refl
          (upd-all (λ x (v : Entry). has (E x).waiting d ≡ true → has v.waiting d ≡ true) (λ w. w) (λ x _ w. w) s waits)
          (omega (arith, fewer request k, taken-le C s d reply g 0 d s, S.core.calls s d, bit_le (has (E s).waiting d)))
          (λ _ _ f. rw (upd-hit E d _ d refl) (record { lists = with-hit _ s; holds = bit-one _ f; ahead = le_refl _ }));
      root_tentative = T.root_tentative;
      parent_joins = T.parent_joins;
      tentative_joins = T.tentative_joins;
      ceiling = T.ceiling;
    }
      where
        T : Invariant g r (upd E d (with_child (E d) s)) (taken C s d 0)
        T = with-child-kept gone d s

        waits : has (E s).waiting d ≡ true
        waits = by_bool (has (E s).waiting d) (λ t. t) (λ f. absurd (omega (arith, idle s d f, fewer request k)))

    -- it is a reply: the receiver waits no longer, and takes the sender for its parent if the test says so
    heeded : (oldest C s d).kind ≡ reply → s ≢ nil → Invariant g r (upd E d (hearing (E d) s (oldest C s d))) (taken C s d 0)
    unfolding hearing CaseHolds under_way
    heeded k n = by_bool (adopts (E d) s (oldest C s d))
        (λ t. let (from, flag, clock) = adopts-holds (E d) s (oldest C s d) t in
        rw t (adopting-kept gone d s (oldest C s d) from n (All-at 0 no_message h (S.core.words s d) k mine flag) clock done))
        (λ f. rw f (stops-waiting-kept gone d s done))
      where
        done : under_way (taken C s d 0) g d s ≡ 0
        done = omega (arith, fewer reply k, taken-le C s d request g 0 d s, S.core.calls d s, bit_le (has (E d).waiting s))

-- ---- the net: the group that the action is of, and the others
module _ (N : Net) (g p : ℕ) (e : Entry) (C : ℕ → ℕ → List Message) {o : ℕ} (S : InvariantIn N o) where
  in_group : (InvariantIn N g → Invariant g (N.root g) (upd (N.entry g) p e) C) → (o ≢ g → Invariant o (N.root o) (N.entry o) C)
      → Invariant o (N.root o) (upd2 N.entry g p e o) C
  in_group mine other = by-eq o g
      (λ i. subst (λ (x : ℕ). Invariant x (N.root x) (upd2 N.entry g p e x) C) (sym i)
      (rw (upd2-row N.entry g p e) (mine (subst (λ (x : ℕ). InvariantIn N x) i S))))
      (λ n. rw (upd2-off N.entry g p e o n) (other n))

module _ (N : Net) {o : ℕ} (S : InvariantIn N o) where
  tick-keeps : (g b c : ℕ) → InvariantIn (tick N g b c).next o
  unfolding tick set_entry
  tick-keeps g b c = in_group N g (N.root g) _ N.channel S (λ T. ticked-kept T) (λ _. S)

  ask-keeps : (g p c : ℕ) → (ask N g p c).enabled ≡ true → InvariantIn (ask N g p c).next o
  unfolding ask send set_channel set_entry
  ask-keeps g p c t =
      let q : ℕ = N.route p (N.root g) in
      let t1 : not (eqb p (N.root g)) ≡ true = search (and_l, and_r) in
      let t2 : joins (N.entry g p) ≡ true = search (and_l, and_r) in
      let t3 : not (has (N.entry g p).waiting q) ≡ true = search (and_l, and_r) in
      in_group N g p _ _ S
      (λ T. requested T p q _ (asking-kept T p q (ne_of _ _ t1) t2) (with-hit _ q) (not-true _ t3))
      (λ n. rechannelled S (sending-other S.core p q _ (λ i. n (sym i))))

  refresh-keeps : (g p c : ℕ) → (refresh N g p c).enabled ≡ true → InvariantIn (refresh N g p c).next o
  unfolding refresh send set_channel set_entry
  refresh-keeps g p c t =
      let q : ℕ = (N.entry g p).parent in
      let t1 : not (has (N.entry g p).waiting q) ≡ true = search (and_l, and_r) in
      in_group N g p _ _ S
      (λ T. requested T p q _ (waiting_kept T p q) (with-hit _ q) (not-true _ t1))
      (λ n. rechannelled S (sending-other S.core p q _ (λ i. n (sym i))))

  deliver-keeps : Shaped N → (s d c : ℕ) → Passed (deliver N s d c) → InvariantIn (deliver N s d c).next o
  unfolding deliver answered heard send take_at set_channel set_entry near? station?
  deliver-keeps H s d c P =
      let h : 0 < length (N.channel s d) = ltb-true _ _ P.enabled in
      let t = P.operands in
      let t1 : ltb s N.stations ≡ true = search (and_l, and_r) in
      by_bool (eqb (oldest N.channel s d).kind request)
      (λ i. rw i (in_group N (oldest N.channel s d).group d _ _ S
      (λ T. replied T s d h refl (eqb-true _ _ i))
      (λ n. rechannelled S (sending-other (taking S.core s d 0) d s _ (λ j. n (sym j))))))
      (λ i. rw i (in_group N (oldest N.channel s d).group d _ _ S
      (λ T. heeded T s d h refl (⊎_elim (λ j. absurd (eqb-false _ _ i j)) (λ j. j) (All-at 0 no_message h (H.channels s d).each).kinds)
      (λ j. omega (arith, H.plan.stations_most, ltb-true s N.stations t1)))
      (λ n. rechannelled S (taking S.core s d 0))))

  lose-keeps : (s d i : ℕ) → InvariantIn (lose N s d i).next o
  unfolding lose take_at set_channel
  lose-keeps s d i = rechannelled S (taking S.core s d i)

  give_up-keeps : (g p q : ℕ) → (give_up N g p q).enabled ≡ true → InvariantIn (give_up N g p q).next o
  unfolding give_up set_entry
  give_up-keeps g p q t =
      let t1 : eqb (under_way N.channel g p q) 0 ≡ true = search (and_l, and_r) in
      in_group N g p _ _ S (λ T. stops-waiting-kept T p q (eqb-true _ _ t1)) (λ _. S)

  drop_child-keeps : (g p c : ℕ) → (drop_child N g p c).enabled ≡ true → InvariantIn (drop_child N g p c).next o
  unfolding drop_child set_entry
  drop_child-keeps g p c t =
      let t1 : not (eqb (N.entry g c).parent p) ≡ true = search (and_l, and_r) in
      let t2 : eqb (under_way N.channel g c p) 0 ≡ true = search (and_l, and_r) in
      in_group N g p _ _ S (λ T. dropping-kept T p c (ne_of _ _ t1) (eqb-true _ _ t2)) (λ _. S)

  member-keeps : (g p v : ℕ) → InvariantIn (member N g p v).next o
  unfolding member set_entry
  member-keeps g p v = in_group N g p _ _ S (λ T. member-kept T p v) (λ _. S)

  route-keeps : (p d q : ℕ) → InvariantIn (route N p d q).next o
  unfolding route set_route
  route-keeps p d q = S

  all_keep : Shaped N → (a b c : ℕ) → All (Owes N (λ M. InvariantIn M o)) (rules N a b c)
  unfolding rules
  all_keep H a b c =
      both (λ _. tick-keeps a b c) (both (λ P. ask-keeps a b c P.enabled) (both (λ P. refresh-keeps a b c P.enabled) (both (deliver-keeps H a b c)
      (both (λ _. lose-keeps a b c) (both (λ P. give_up-keeps a b c P.enabled) (both (λ P. drop_child-keeps a b c P.enabled)
      (both (λ _. member-keeps a b c) (both (λ _. route-keeps a b c) none))))))))

-- any step keeps any group
pub step-invariant : (N : Net) → Shaped N → {o : ℕ} → InvariantIn N o → (k a b c : ℕ) → InvariantIn (step N k a b c) o
step-invariant N H {o} S k a b c = step_keeps N (λ M. InvariantIn M o) S k a b c (all_keep N S H a b c)
