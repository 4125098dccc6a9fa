-- On a sound net no channel that is to be sent on is full.
use mathlib.Core.Path.{◌≡◌, refl, ap}
use mathlib.Core.Logic.{◌≢◌, ◌⊎◌, inl, inr, ⊎_elim}
use mathlib.Core.Bool.{true, not}
use mathlib.Core.List.{List, ◌∷◌}
use Prim.Native.Nat.{ℕ, ◌+◌, ◌*◌, ◌≤◌, ◌<◌}
use native.Mathlib.Nat.{le_refl}
use native.Mathlib.Omega.{arith}
use lib.Dec.{eqb}
use lib.ListN.{length}
use borrow.Author.Tests.{eqb-true, eq-eqb, ne_eqb, ltb-true, lt-ltb, not-true}
use Rattle.bits.specs.Masks.{has}
use Rattle.bits.specs.Sums.{bit, sum_below}
use Rattle.bits.proofs.Cases.{by_bool, by-eq, and_l, and_r, or_l, or_r}
use Rattle.bits.proofs.Sums.{over-strict, over-const}
use Rattle.protocol.specs.declared.Message.{Message}
use Rattle.protocol.specs.Net.{Net, capacity, request, reply, group?}
use Rattle.protocol.specs.Entries.{is_of, count_of, under_way}
use Rattle.protocol.specs.Rules.{Rule, oldest, room?, tick, ask, refresh, deliver, lose, give_up, drop_child, member, route, rules}
use Rattle.protocol.specs.Steps.{verdict, rule, action?, outcome}
use Rattle.protocol.specs.Apart.{only, group_in}
use Rattle.protocol.specs.Shaped.{All, none, both, ShapedMessage, Shaped}
use Rattle.protocol.proofs.Laws.Maps.{All-map}
use Rattle.protocol.proofs.Laws.Messages.{bit_le, is_of-true}
use Rattle.protocol.proofs.Sound.Invariant.{InvariantIn}
use Rattle.protocol.proofs.Sound.Actions.{idle, fewer}
use Rattle.protocol.proofs.Shape.Actions.{oldest-shaped}
use Rattle.protocol.proofs.Steps.Steps.{or_else-pass, each-rule}

-- ---- any messages, in channels of any capacity
module _ {M : Type 0} (group : M → ℕ) where
  -- how many of a list are of group g
  abbrev pub of_group : List M → ℕ → ℕ
  of_group l g = length (only group g l)

  -- each message is of one of the groups
  length-sum : (n : ℕ) {l : List M} → All (λ m. group m < n) l → length l ≤ sum_below n (of_group l)
  length-sum n none = omega arith
  length-sum n (both {x = m} {l} k a) =
      let more : sum_below n (of_group l) < sum_below n (of_group (m ∷ l)) =
      over-strict (of_group l) (of_group (m ∷ l)) (one_more m l) (group m) (own-more m l) 0 n (omega arith) (omega arith) in
      omega (arith, length-sum n a)
    where
      one_more : (m : M) (l : List M) (g : ℕ) → of_group l g ≤ of_group (m ∷ l) g
      one_more m l g = unfold only in by_bool (eqb (group m) g) (λ t. rw t (omega arith)) (λ f. rw f (le_refl _))

      own-more : (m : M) (l : List M) → of_group l (group m) < of_group (m ∷ l) (group m)
      own-more m l = unfold only in rw (eq-eqb (group m) (group m) refl) (le_refl _)

  -- at most c of each of the n groups, and fewer of one: where c n are held there is room for one more
  pub room-left : (n c g : ℕ) {l : List M} → All (λ m. group m < n) l → g < n → ((x : ℕ) → of_group l x ≤ c) → of_group l g < c → length l < c * n
  room-left n c g {l} a h most fewer =
      omega (arith, length-sum n a, over-strict (of_group l) (λ x. c) most g fewer 0 n (omega arith) (omega arith), over-const c 0 n)

-- a rule that finds room wherever it is enabled never gives 6
abbrev pub Roomy : {T : Type 0} → Rule T → Type 0
Roomy R = R.operands ≡ true → R.enabled ≡ true → R.send_room ≡ true

pub not-six : {T : Type 0} (R : Rule T) → Roomy R → verdict R ≢ 6
unfolding verdict
not-six R f e =
    let e3 = or_else-pass R.operands 3 _ 6 (λ i. omega arith) e in
    let e4 = or_else-pass R.enabled 4 _ 6 (λ i. omega arith) e3.1 in
    let e5 = or_else-pass R.clock_room 5 _ 6 (λ i. omega arith) e4.1 in
    let z : ◌≡◌ {A = ℕ} 0 6 = rw (f e3.0 e4.0) at e5.1 in omega arith

-- ---- version 1: two kinds of message, so that twice the groups are the capacity
-- the messages of a group are its requests and its replies
two-kinds : (g : ℕ) {n : ℕ} {l : List Message} → All (ShapedMessage n) l → of_group group_in l g ≤ count_of request g l + count_of reply g l
unfolding only count_of
two-kinds g none = omega arith
two-kinds g {n} (both {x = m} {l} k a) = by-eq m.group g
    (λ e. rw (eq-eqb m.group g e) (⊎_elim
    (λ i. let z : bit (is_of request g m) ≡ 1 = ap bit (is_of-true request g m i e) in omega (arith, two-kinds g a))
    (λ i. let z : bit (is_of reply g m) ≡ 1 = ap bit (is_of-true reply g m i e) in omega (arith, two-kinds g a))
    k.kinds))
    (λ e. rw (ne_eqb m.group g e) (omega (arith, two-kinds g a)))

module _ (N : Net) (H : Shaped N) (S : (g : ℕ) → InvariantIn N g) where
  two : (s d g : ℕ) → of_group group_in (N.channel s d) g ≤ 2
  unfolding under_way
  two s d g = omega (
    arith,
    two-kinds g (H.channels s d).each,
    (S g).core.calls s d,
    (S g).core.calls d s,
    bit_le (has (N.entry g s).waiting d),
    bit_le (has (N.entry g d).waiting s),
  )

  -- no request of s, or no reply to d, is in the channel: there is room
  room : (g s d : ℕ) → g < N.groups → (count_of request g (N.channel s d) ≡ 0) ⊎ (count_of reply g (N.channel s d) ≡ 0) → room? N s d ≡ true
  unfolding room? under_way
  room g s d h z =
      let each = (H.channels s d).each in
      let one : of_group group_in (N.channel s d) g < 2 = ⊎_elim
      (λ i. omega (arith, two-kinds g each, (S g).core.calls d s, bit_le (has (N.entry g d).waiting s)))
      (λ i. omega (arith, two-kinds g each, (S g).core.calls s d, bit_le (has (N.entry g s).waiting d)))
      z in
      lt-ltb (length (N.channel s d)) capacity (omega (arith, H.plan.groups_most, room-left group_in N.groups 2 g (All-map (λ m k. k.grouped) each) h (two s d) one))

  -- a station that does not wait on q has no request to it under way
  unasked : (g p q : ℕ) → group? N g ≡ true → not (has (N.entry g p).waiting q) ≡ true → room? N p q ≡ true
  unfolding group? under_way
  unasked g p q o t = room g p q (ltb-true _ _ o) (inl (omega (arith, idle (S g) p q (not-true _ t))))

  ask-room : (g p c : ℕ) → Roomy (ask N g p c)
  unfolding ask
  ask-room g p c o t = unasked g p (N.route p (N.root g)) (search (and_l, and_r)) (search (and_l, and_r))

  refresh-room : (g p c : ℕ) → Roomy (refresh N g p c)
  unfolding refresh
  refresh-room g p c o t = unasked g p (N.entry g p).parent (search (and_l, and_r)) (search (and_l, and_r))

  deliver-room : (s d c : ℕ) → Roomy (deliver N s d c)
  unfolding deliver under_way
  deliver-room s d c o t =
      let m : Message = oldest N.channel s d in
      let h : 0 < length (N.channel s d) = ltb-true 0 (length (N.channel s d)) t in
      let g : ℕ = m.group in
      by_bool (eqb m.kind request)
      (λ i. or_r (not (eqb m.kind request)) (room? N d s) (room g d s (oldest-shaped N H s d h).grouped (inr (omega
      (arith, fewer (S g) s d h refl request (eqb-true m.kind request i), (S g).core.calls s d, bit_le (has (N.entry g s).waiting d))))))
      (λ f. or_l (not (eqb m.kind request)) (room? N d s) (ap not f))

  all-roomy : (a b c : ℕ) → All Roomy (rules N a b c)
  unfolding rules tick lose give_up drop_child member route
  all-roomy a b c =
      both (λ _ _. refl) (both (ask-room a b c) (both (refresh-room a b c) (both (deliver-room a b c)
      (both (λ _ _. refl) (both (λ _ _. refl) (both (λ _ _. refl) (both (λ _ _. refl) (both (λ _ _. refl) none))))))))

  pub never-six : (k a b c : ℕ) → outcome N k a b c ≢ 6
  unfolding outcome
  never-six k a b c e = not-six (rule N k a b c) (each-rule N Roomy (λ _ t. t) a b c (all-roomy a b c) k)
      (or_else-pass (action? k) 2 _ 6 (λ i. omega arith) e).1
