-- The heart of soundness, kept by every action: of one group with the entries E and the channels C, where R says which stations
-- are roots. It is the papers' C2 with the loopless property, in the form that is easiest to keep.
use mathlib.Core.Path.{◌≡◌, refl, sym, ap, subst, ◌∙◌}
use mathlib.Core.Logic.{◌≢◌}
use mathlib.Core.Bool.{Bool, true, not, ◌||◌}
use mathlib.Core.List.{List}
use Prim.Native.Nat.{ℕ, ◌≤◌}
use native.Mathlib.Nat.{le_trans}
use lib.Dec.{eqb}
use Rattle.bits.specs.Sums.{bit}
use Rattle.bits.specs.Masks.{has}
use Rattle.bits.proofs.Cases.{by-eq}
use Rattle.protocol.specs.declared.Entry.{Entry}
use Rattle.protocol.specs.declared.Message.{Message}
use Rattle.protocol.specs.Net.{nil, reply, upd}
use Rattle.protocol.specs.Entries.{under_way}
use Rattle.protocol.specs.Shaped.{All}
use Rattle.protocol.proofs.Laws.Maps.{upd-hit, upd-miss, upd-all, All-map}
use Rattle.protocol.proofs.Sound.Leads.{Leads}
use Rattle.protocol.proofs.Sound.Leads as leads

-- connected: is a root (b) or has a parent
abbrev pub linked : Bool → Entry → Bool
linked b e = b || not (eqb e.parent nil)

-- a station with the entry e vouches for p at clock k: it lists p, is connected, and its clock is at least k
pub record Vouch (b : Bool) (e : Entry) (p k : ℕ) : Type 0 where
  pub lists : has e.children p ≡ true
  pub holds : linked b e ≡ true
  pub ahead : k ≤ e.clock

-- if the message is a reply of the group to p with flag 1, then its sender vouches for p at its clock
abbrev pub Word : ℕ → Bool → Entry → ℕ → Message → Type 0
Word g b e p m = m.kind ≡ reply → m.group ≡ g → m.connected ≡ 1 → Vouch b e p m.clock

abbrev pub parents : (ℕ → Entry) → ℕ → ℕ
parents E p = (E p).parent

pub record Core (g : ℕ) (R : ℕ → Bool) (E : ℕ → Entry) (C : ℕ → ℕ → List Message) : Type 0 where
  pub root_parent : (p : ℕ) → R p ≡ true → (E p).parent ≡ nil
  -- at most one request or reply is under way, and none unless the station waits
  pub calls : (p q : ℕ) → under_way C g p q ≤ bit (has (E p).waiting q)
  -- every parent lists the station, is connected, and its clock is at least the station's
  pub agreed : (p : ℕ) → (E p).parent ≢ nil → Vouch (R (E p).parent) (E (E p).parent) p (E p).clock
  -- a reply with flag 1 is the word of a station that vouches
  pub words : (q p : ℕ) → All (Word g (R q) (E q) p) (C q p)
  pub reaches : (p : ℕ) → (E p).parent ≢ nil → Leads R (parents E) p

-- what a new entry e at p, and its new root flag b, have to satisfy
pub record Change (g : ℕ) (R : ℕ → Bool) (E : ℕ → Entry) (C : ℕ → ℕ → List Message) (p : ℕ) (b : Bool) (e : Entry) : Type 0 where
  pub root_parent : b ≡ true → e.parent ≡ nil
  pub calls : (q : ℕ) → under_way C g p q ≤ bit (has e.waiting q)
  pub own : e.parent ≢ nil → (e.parent ≢ p) × Vouch (R e.parent) (E e.parent) p e.clock
  pub kids : (x : ℕ) → x ≢ p → (E x).parent ≢ nil → (E x).parent ≡ p → Vouch b e x (E x).clock
  pub words : (x : ℕ) → All (Word g b e x) (C p x)
  pub reaches : (x : ℕ) → (upd E p e x).parent ≢ nil → Leads (upd R p b) (parents (upd E p e)) x

module _ {g : ℕ} {R : ℕ → Bool} {E : ℕ → Entry} {C : ℕ → ℕ → List Message} (S : Core g R E C) (p : ℕ) (b : Bool) (e : Entry) where
  vouched : (q x k : ℕ) → (q ≡ p → Vouch b e x k) → (q ≢ p → Vouch (R q) (E q) x k) → Vouch (upd R p b q) (upd E p e q) x k
  vouched q x k f h = by-eq q p
      (λ i. rw (upd-hit R p b q i, upd-hit E p e q i) (f i))
      (λ n. rw (upd-miss R p b q n, upd-miss E p e q n) (h n))

  -- any change of one entry
  pub put : Change g R E C p b e → Core g (upd R p b) (upd E p e) C
  put K = record {
    root_parent = λ x. by-eq x p
        (λ i. rw (upd-hit R p b x i, upd-hit E p e x i) K.root_parent)
        (λ n. rw (upd-miss R p b x n, upd-miss E p e x n) (S.root_parent x));
    calls = upd-all (λ x (v : Entry). (q : ℕ) → under_way C g x q ≤ bit (has v.waiting q)) K.calls (λ x _. S.calls x);
    agreed = upd-all (λ x (v : Entry). v.parent ≢ nil → Vouch (upd R p b v.parent) (upd E p e v.parent) x v.clock)
        (λ h. vouched e.parent p e.clock (λ i. absurd ((K.own h).0 i)) (λ _. (K.own h).1))
        (λ x n h. vouched (E x).parent x (E x).clock (K.kids x n h) (λ _. S.agreed x h));
    words = λ q x. by-eq q p
        (λ i. rw (upd-hit R p b q i, upd-hit E p e q i) (subst (λ (y : ℕ). All (Word g b e x) (C y x)) (sym i) (K.words x)))
        (λ n. rw (upd-miss R p b q n, upd-miss E p e q n) (S.words q x));
    reaches = K.reaches;
  }

module _ {g : ℕ} {R : ℕ → Bool} {E : ℕ → Entry} {C : ℕ → ℕ → List Message} (S : Core g R E C) (p : ℕ) where
  no_self : (E p).parent ≢ nil → (E p).parent ≢ p
  no_self h i = h (S.root_parent p (leads.self-root (S.reaches p h) i))

  -- p vouches for whoever has it for a parent
  pub kid : (x : ℕ) → (E x).parent ≢ nil → (E x).parent ≡ p → Vouch (R p) (E p) x (E x).clock
  kid x n i = subst (λ (y : ℕ). Vouch (R y) (E y) x (E x).clock) i (S.agreed x n)

  -- parent and flag stay: the stations that hold on to p, or are about to, are what is left to see to
  pub keeps : (e : Entry) → e.parent ≡ (E p).parent
      → ((x : ℕ) → (E x).parent ≢ nil → (E x).parent ≡ p → Vouch (R p) e x (E x).clock) → ((x : ℕ) → All (Word g (R p) e x) (C p x))
      → (e.parent ≢ nil → e.clock ≤ (E p).clock)
      → ((q : ℕ) → under_way C g p q ≤ bit (has e.waiting q))
      → Core g (upd R p (R p)) (upd E p e) C
  keeps e i kids words still calls = put S p (R p) e (record {
    root_parent = λ t. i ∙ S.root_parent p t;
    calls = calls;
    own = λ h. let n : (E p).parent ≢ nil = (λ j. h (i ∙ j)) in
        let w : Vouch (R (E p).parent) (E (E p).parent) p (E p).clock = S.agreed p n in
        rw i (no_self n, record { lists = w.lists; holds = w.holds; ahead = le_trans (still h) w.ahead });
    kids = λ x _. kids x;
    words = words;
    reaches = λ x h. leads.same p (λ y n. ap (λ (v : Entry). v.parent) (upd-miss E p e y n)) (λ y n. upd-miss R p (R p) y n)
        (ap (λ (v : Entry). v.parent) (upd-hit E p e p refl) ∙ i) (upd-hit R p (R p) p refl)
        (S.reaches x (λ j. h (same-parent x ∙ j)));
  })
    where
      same-parent : (x : ℕ) → (upd E p e x).parent ≡ (E x).parent
      same-parent = upd-all (λ x (v : Entry). v.parent ≡ (E x).parent) i (λ x _. refl)

  -- and p vouches for whom it did
  pub steady : (e : Entry) → e.parent ≡ (E p).parent → ((x k : ℕ) → Vouch (R p) (E p) x k → Vouch (R p) e x k)
      → (e.parent ≢ nil → e.clock ≤ (E p).clock)
      → ((q : ℕ) → under_way C g p q ≤ bit (has e.waiting q))
      → Core g (upd R p (R p)) (upd E p e) C
  steady e i mono = keeps e i
      (λ x n h. mono x _ (kid x n h))
      (λ x. All-map (λ m w a b c. mono x _ (w a b c)) (S.words p x))
