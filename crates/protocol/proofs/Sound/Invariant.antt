-- Soundness in the form that actions keep: the core, with one root for good, and what it says of joining and of clocks.
--     sound-invariant, invariant-sound    it is the soundness of document 02
--     ticked-kept, asking-kept, .. member-kept    each change of one entry keeps it
use mathlib.Core.Path.{◌≡◌, refl, sym, ap, subst, ◌∙◌}
use mathlib.Core.Logic.{◌≢◌}
use mathlib.Core.Bool.{Bool, true, false, not, ◌||◌}
use mathlib.Core.List.{List}
use Prim.Native.Nat.{ℕ, ◌≤◌, ◌<◌}
use native.Mathlib.Nat.{le_refl, le_trans}
use native.Mathlib.Omega.{arith}
use lib.Dec.{eqb}
use borrow.Author.Tests.{eqb-true, eq-eqb, ne_eqb}
use Rattle.bits.specs.Sums.{bit}
use Rattle.bits.specs.Masks.{has, without}
use Rattle.bits.proofs.Cases.{by_bool, by-eq, by-or, or_r, or-false-l, or-false-r, of-ne, and_l, and_both, clash}
use Rattle.bits.proofs.Masks.{has-zero, with-hit}
use Rattle.tree.specs.Tree.{agreed, Chain, OnTree}
use Rattle.tree.specs.Tree.Chain.{here, hop}
use Rattle.protocol.specs.declared.Entry.{Entry}
use Rattle.protocol.specs.declared.Message.{Message}
use Rattle.protocol.specs.Net.{Net, nil, reply, upd}
use Rattle.protocol.specs.Entries.{with_member, with_children, joins, connected, ticked, waits_on, stops_waiting, asking, with_child, without_child, leave, stay_or_leave, adopting, under_way}
use Rattle.protocol.specs.Calls.{tree_of}
use Rattle.protocol.specs.Shaped.{All, Shaped}
use Rattle.protocol.specs.Sound.{Sound}
use Rattle.protocol.proofs.Laws.Maps.{upd-all, upd_same, All-map}
use Rattle.protocol.proofs.Laws.Messages.{bit_le}
use Rattle.protocol.proofs.Sound.Leads.{Leads}
use Rattle.protocol.proofs.Sound.Leads as leads
use Rattle.protocol.proofs.Sound.Core.{linked, Vouch, parents, Core}
use Rattle.protocol.proofs.Sound.Moves as moves

-- the one root
abbrev pub root_is : ℕ → ℕ → Bool
root_is r p = eqb p r

pub record Invariant (g r : ℕ) (E : ℕ → Entry) (C : ℕ → ℕ → List Message) : Type 0 where
  pub core : Core g (root_is r) E C
  pub root_tentative : (E r).tentative ≡ nil
  pub parent_joins : (p : ℕ) → (E p).parent ≢ nil → joins (E p) ≡ true
  pub tentative_joins : (p : ℕ) → (E p).tentative ≢ nil → joins (E p) ≡ true
  pub ceiling : (p : ℕ) → (E p).clock ≤ (E r).clock

abbrev pub InvariantIn : Net → ℕ → Type 0
InvariantIn N g = Invariant g (N.root g) (N.entry g) N.channel

-- ---- from the words of document 02, and back
module _ (N : Net) (H : Shaped N) (g : ℕ) where
  -- nobody but a station lists anybody
  listing-near : (p q : ℕ) → agreed (tree_of N g) p q ≡ true → p ≢ nil
  unfolding tree_of agreed
  listing-near p q a e =
      let few = H.plan.stations_most in
      let lists : has (N.entry g p).children q ≡ true = and_l _ (eqb (N.entry g q).parent p) a in
      let out : (N.entry g p).children ≡ 0 = ap (λ (v : Entry). v.children) (H.no_station g p (omega arith)) in
      clash lists (ap (λ (m : ℕ). has m q) out ∙ has-zero q)

  chain-leads : {p k : ℕ} → Chain (tree_of N g) p k → Leads (root_is (N.root g)) (parents (N.entry g)) p
  unfolding tree_of
  chain-leads here = leads.here (eq-eqb (N.root g) (N.root g) refl)
  chain-leads (hop {x = x} a c) = leads.up (listing-near _ x a) (chain-leads c)

  -- the parent of a station on the tree lists it and is connected
  lists-it : {p k : ℕ} → Chain (tree_of N g) p k → (N.entry g p).parent ≢ nil → has (N.entry g (N.entry g p).parent).children p ≡ true
  unfolding tree_of agreed
  lists-it here n = absurd (n ((H.entries g (N.root g)).nil_at_root refl).0)
  lists-it (hop {x = x} a c) n = and_l _ (eqb (N.entry g x).parent (N.entry g x).parent) a

  is-linked : {p k : ℕ} → Chain (tree_of N g) p k → linked (root_is (N.root g) p) (N.entry g p) ≡ true
  unfolding tree_of
  is-linked here = rw (eq-eqb (N.root g) (N.root g) refl)
  is-linked (hop {x = x} a c) = or_r (eqb x (N.root g)) (not (eqb (N.entry g x).parent nil)) (of-ne (N.entry g x).parent nil (listing-near _ x a))

  parent-linked : {p k : ℕ} → Chain (tree_of N g) p k → (N.entry g p).parent ≢ nil → linked (root_is (N.root g) (N.entry g p).parent) (N.entry g (N.entry g p).parent) ≡ true
  unfolding tree_of
  parent-linked here n = absurd (n ((H.entries g (N.root g)).nil_at_root refl).0)
  parent-linked (hop a c) n = is-linked c

  pub sound-invariant : Sound N g → InvariantIn N g
  unfolding connected
  sound-invariant S = record {
    core = record {
      root_parent = λ p t. ((H.entries g p).nil_at_root (eqb-true p (N.root g) t)).0;
      calls = λ p q. by_bool (has (N.entry g p).waiting q)
          (λ t. rw t (S.single p q))
          (λ f. rw f (none p q f));
      agreed = λ p n. let c = (S.chains p n).chain in record { lists = lists-it c n; holds = parent-linked c n; ahead = S.rising p n };
      words = λ q p. All-map (λ m v a b c. let w = v a b c in record { lists = w.lists; holds = w.holds; ahead = w.ahead }) (S.replies q p);
      reaches = λ p n. chain-leads (S.chains p n).chain;
    };
    root_tentative = ((H.entries g (N.root g)).nil_at_root refl).1;
    parent_joins = S.parent_joins;
    tentative_joins = S.tentative_joins;
    ceiling = S.ceiling;
  }
    where
      none : (p q : ℕ) → has (N.entry g p).waiting q ≡ false → under_way N.channel g p q ≤ 0
      none p q f = by-eq (under_way N.channel g p q) 0
          (λ e. omega arith) (λ n. clash (S.waits p q (omega arith)) f)

  leads-chain : (S : InvariantIn N g) {p : ℕ} → Leads (root_is (N.root g)) (parents (N.entry g)) p → OnTree (tree_of N g) p
  unfolding tree_of agreed
  leads-chain S (leads.here {p} e) = record { hops = 0; chain = subst (λ (y : ℕ). Chain (tree_of N g) y 0) (sym (eqb-true p (N.root g) e)) here }
  leads-chain S (leads.up {p} n c) =
      let o = leads-chain S c in
      record { hops = _; chain = hop (and_both _ _ (S.core.agreed p n).lists (eq-eqb (N.entry g p).parent _ refl)) o.chain }

  pub invariant-sound : InvariantIn N g → Sound N g
  unfolding connected
  invariant-sound S = record {
    waits = λ p q l. by_bool (has (N.entry g p).waiting q) (λ t. t)
        (λ f. let z : bit (has (N.entry g p).waiting q) ≡ 0 = ap bit f in absurd (omega (arith, S.core.calls p q)));
    single = λ p q. omega (arith, S.core.calls p q, bit_le (has (N.entry g p).waiting q));
    parent_joins = S.parent_joins;
    tentative_joins = S.tentative_joins;
    chains = λ p n. leads-chain S (S.core.reaches p n);
    rising = λ p n. (S.core.agreed p n).ahead;
    replies = λ q p. All-map (λ m v a b c. let w = v a b c in record { lists = w.lists; holds = w.holds; ahead = w.ahead }) (S.core.words q p);
    ceiling = S.ceiling;
  }

-- ---- what it is to have a child
pub child-joins : (e : Entry) (x : ℕ) → has e.children x ≡ true → joins e ≡ true
unfolding joins
child-joins e x t = or_r (eqb e.member 1) (not (eqb e.children 0))
    (of-ne e.children 0 (λ z. clash t (ap (λ (m : ℕ). has m x) z ∙ has-zero x)))

module _ {g r : ℕ} {E : ℕ → Entry} {C : ℕ → ℕ → List Message} (S : Invariant g r E C) where
  -- ---- one entry anew: its core, and the rest
  module _ (p : ℕ) (e : Entry) where
    same-root : Core g (upd (root_is r) p (root_is r p)) (upd E p e) C → Core g (root_is r) (upd E p e) C
    same-root = subst (λ (R : ℕ → Bool). Core g R (upd E p e) C) (upd_same (root_is r) p (root_is r p) refl)

    no-root : p ≢ r → Core g (upd (root_is r) p false) (upd E p e) C → Core g (root_is r) (upd E p e) C
    no-root n = subst (λ (R : ℕ → Bool). Core g R (upd E p e) C) (upd_same (root_is r) p false (ne_eqb p r n))

    entry_kept : Core g (root_is r) (upd E p e) C → (p ≡ r → e.tentative ≡ nil) → (e.parent ≢ nil → joins e ≡ true) → (e.tentative ≢ nil → joins e ≡ true)
        → (E p).clock ≤ e.clock → (p ≢ r → e.clock ≤ (E r).clock) → Invariant g r (upd E p e) C
    entry_kept K top pj tj grows under = record {
      core = K;
      root_tentative = upd-all (λ x (v : Entry). x ≡ r → v.tentative ≡ nil) top (λ x _ h. rw h S.root_tentative) r refl;
      parent_joins = upd-all (λ x (v : Entry). v.parent ≢ nil → joins v ≡ true) pj (λ x _. S.parent_joins x);
      tentative_joins = upd-all (λ x (v : Entry). v.tentative ≢ nil → joins v ≡ true) tj (λ x _. S.tentative_joins x);
      ceiling = upd-all (λ x (v : Entry). v.clock ≤ (upd E p e r).clock)
          (upd-all (λ y (v : Entry). y ≡ r → e.clock ≤ v.clock) (λ _. le_refl _) (λ y n h. rw h (under (λ i. n (h ∙ sym i)))) r refl)
          (λ x _. le_trans (S.ceiling x)
          (upd-all (λ y (v : Entry). y ≡ r → (E r).clock ≤ v.clock) (λ h. rw (← h) grows) (λ y n h. rw h (le_refl _)) r refl));
    }

  at-root : (p : ℕ) → p ≡ r → (E p).tentative ≡ nil
  at-root p e = rw e S.root_tentative

  -- ---- the changes that actions make
  pub ticked-kept : Invariant g r (upd E r (ticked (E r))) C
  unfolding joins
  ticked-kept =
      let i : (E r).parent ≡ nil = S.core.root_parent r (eq-eqb r r refl) in
      entry_kept r (ticked (E r)) (same-root r _ (moves.ticking S.core r (ticked (E r)) i i refl refl (omega arith)))
      (at-root r) (S.parent_joins r) (S.tentative_joins r) (omega arith) (λ n. absurd (n refl))

  pub asking-kept : (p q : ℕ) → p ≢ r → joins (E p) ≡ true → Invariant g r (upd E p (asking (E p) q)) C
  unfolding joins
  asking-kept p q n j = entry_kept p (asking (E p) q)
      (same-root p _ (moves.quiet S.core p (asking (E p) q) refl refl refl (moves.more-waits S.core p q)))
      (λ e. absurd (n e)) (S.parent_joins p) (λ _. j) (le_refl _) (λ _. S.ceiling p)

  pub waiting_kept : (p q : ℕ) → Invariant g r (upd E p (waits_on (E p) q)) C
  unfolding joins
  waiting_kept p q = entry_kept p (waits_on (E p) q)
      (same-root p _ (moves.quiet S.core p (waits_on (E p) q) refl refl refl (moves.more-waits S.core p q)))
      (at-root p) (S.parent_joins p) (S.tentative_joins p) (le_refl _) (λ _. S.ceiling p)

  pub stops-waiting-kept : (p q : ℕ) → under_way C g p q ≡ 0 → Invariant g r (upd E p (stops_waiting (E p) q)) C
  unfolding joins
  stops-waiting-kept p q z = entry_kept p (stops_waiting (E p) q)
      (same-root p _ (moves.quiet S.core p (stops_waiting (E p) q) refl refl refl (moves.fewer-waits S.core p q z)))
      (at-root p) (S.parent_joins p) (S.tentative_joins p) (le_refl _) (λ _. S.ceiling p)

  pub with-child-kept : (p s : ℕ) → Invariant g r (upd E p (with_child (E p) s)) C
  with-child-kept p s = entry_kept p (with_child (E p) s)
      (same-root p _ (moves.with_child S.core p s (with_child (E p) s) refl refl refl refl))
      (at-root p) (λ _. child-joins _ s (with-hit _ s)) (λ _. child-joins _ s (with-hit _ s)) (le_refl _) (λ _. S.ceiling p)

  -- the reply m from s is taken by p, which waits on s no longer
  pub adopting-kept : (p s : ℕ) (m : Message) → (E p).tentative ≡ s → s ≢ nil → Vouch (root_is r s) (E s) p m.clock → (E p).clock < m.clock
      → under_way C g p s ≡ 0 → Invariant g r (upd E p (adopting (stops_waiting (E p) s) s m)) C
  unfolding joins
  adopting-kept p s m t n v l z = entry_kept p e
      (no-root p e not_root (moves.adopting S.core p s e refl n v l refl (moves.fewer-waits S.core p s z)))
      (λ i. absurd (not_root i)) (λ _. j) (λ _. j) (omega arith) (λ _. le_trans v.ahead (S.ceiling s))
    where
      e : Entry
      e = adopting (stops_waiting (E p) s) s m

      not_root : p ≢ r
      not_root i = n (sym t ∙ at-root p i)

      j : joins (E p) ≡ true
      j = S.tentative_joins p (λ i. n (sym t ∙ i))

  -- the flag or the children change, and the station leaves if it no longer joins; whoever leans on it must still be listed
  module _ (p v m : ℕ)
      (kids : (x : ℕ) → (E x).parent ≢ nil → (E x).parent ≡ p → has m x ≡ true)
      (words : (x : ℕ) → All (λ n. n.kind ≡ reply → n.group ≡ g → n.connected ≡ 1 → has m x ≡ true) (C p x)) where
    anew : Entry
    anew = with_member (with_children (E p) m) v

    stays : (eqb p r || joins anew) ≡ true → Invariant g r (upd E p anew) C
    unfolding anew
    stays t = entry_kept p anew
        (same-root p _ (moves.pruning S.core p m kids words anew refl refl refl refl))
        (at-root p)
        (λ n. by-or (eqb p r) (joins anew) t (λ i. absurd (n (S.core.root_parent p i))) (λ j. j))
        (λ n. by-or (eqb p r) (joins anew) t (λ i. absurd (n (at-root p (eqb-true p r i)))) (λ j. j))
        (le_refl _) (λ _. S.ceiling p)

    leaves : (eqb p r || joins anew) ≡ false → Invariant g r (upd E p (leave anew)) C
    unfolding anew
    leaves f = entry_kept p (leave anew)
        (no-root p _ (λ i. clash (eq-eqb p r i) (or-false-l (eqb p r) (joins anew) f))
        (moves.leaving S.core p m kids words (leave anew) refl refl
        (λ x t. clash (child-joins anew x t) (or-false-r (eqb p r) (joins anew) f))))
        (λ _. refl) (λ n. absurd (n refl)) (λ n. absurd (n refl)) (le_refl _) (λ _. S.ceiling p)

    stayed : Invariant g r (upd E p (stay_or_leave r p anew)) C
    unfolding stay_or_leave
    stayed = by_bool (eqb p r || joins anew) (λ t. rw t (stays t)) (λ f. rw f (leaves f))

  pub dropping-kept : (p c : ℕ) → (E c).parent ≢ p → under_way C g c p ≡ 0 → Invariant g r (upd E p (stay_or_leave r p (without_child (E p) c))) C
  unfolding anew
  dropping-kept p c n z = stayed p (E p).member (without (E p).children c) (moves.listed-less S.core p c n z) (moves.promised-less S.core p c n z)

  pub member-kept : (p v : ℕ) → Invariant g r (upd E p (stay_or_leave r p (with_member (E p) v))) C
  unfolding anew
  member-kept p v = stayed p v (E p).children (moves.listed S.core p) (moves.promised S.core p)
