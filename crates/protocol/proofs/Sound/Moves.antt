-- The changes of one entry that actions make, each keeping the core. The new entry is given by what it has in common with the
-- old, so that the laws serve any kind of entry.
use mathlib.Core.Path.{◌≡◌, refl, sym, ap, subst, ◌∙◌}
use mathlib.Core.Logic.{◌≢◌}
use mathlib.Core.Bool.{Bool, true, false, not, ◌||◌, false≢true}
use mathlib.Core.List.{List}
use Prim.Native.Nat.{ℕ, ◌≤◌, ◌<◌}
use native.Mathlib.Nat.{le_trans, le_of_eq}
use native.Mathlib.Omega.{arith}
use lib.Dec.{eqb}
use Rattle.bits.specs.Sums.{bit}
use Rattle.bits.specs.Masks.{has, with, without}
use Rattle.bits.proofs.Cases.{by_bool, by-eq, by-or, ne_of, of-ne, or_r}
use Rattle.bits.proofs.Masks.{with-keeps, without-miss}
use Rattle.protocol.specs.declared.Entry.{Entry}
use Rattle.protocol.specs.declared.Message.{Message}
use Rattle.protocol.specs.Net.{nil, reply, upd}
use Rattle.protocol.specs.Entries.{under_way}
use Rattle.protocol.specs.Shaped.{All}
use Rattle.protocol.proofs.Laws.Maps.{upd-hit, upd-miss, All-map, All-map2}
use Rattle.protocol.proofs.Laws.Messages.{no-replies}
use Rattle.protocol.proofs.Sound.Leads.{Leads, here}
use Rattle.protocol.proofs.Sound.Leads as leads
use Rattle.protocol.proofs.Sound.Core.{linked, Vouch, parents, Core, put, kid, keeps, steady}

pub parent-links : (b : Bool) (e : Entry) → e.parent ≢ nil → linked b e ≡ true
parent-links b e n = or_r b (not (eqb e.parent nil)) (of-ne e.parent nil n)

with-more : (m j i : ℕ) → bit (has m i) ≤ bit (has (with m j) i)
with-more m j i = by_bool (has m i)
    (λ t. le_of_eq (ap bit (t ∙ sym (with-keeps m j i t))))
    (λ f. rw f (omega arith))

module _ {g : ℕ} {R : ℕ → Bool} {E : ℕ → Entry} {C : ℕ → ℕ → List Message} (S : Core g R E C) where
  linked-leads : (s : ℕ) → linked (R s) (E s) ≡ true → Leads R (parents E) s
  linked-leads s t = by-or (R s) (not (eqb (E s).parent nil)) t (λ i. here i) (λ i. S.reaches s (ne_of (E s).parent nil i))

  -- ---- nothing that others see changes, but whom it waits on
  pub quiet : (p : ℕ) (e : Entry) → e.parent ≡ (E p).parent → e.clock ≡ (E p).clock → e.children ≡ (E p).children
      → ((q : ℕ) → under_way C g p q ≤ bit (has e.waiting q)) → Core g (upd R p (R p)) (upd E p e) C
  quiet p e i j k calls = steady S p e i
      (λ x n v. record {
        lists = ap (λ (y : ℕ). has y x) k ∙ v.lists;
        holds = ap (λ (y : ℕ). R p || not (eqb y nil)) i ∙ v.holds;
        ahead = rw j v.ahead;
      })
      (λ _. le_of_eq j) calls

  pub more-waits : (p q x : ℕ) → under_way C g p x ≤ bit (has (with (E p).waiting q) x)
  more-waits p q x = le_trans (S.calls p x) (with-more _ q x)

  pub fewer-waits : (p q : ℕ) → under_way C g p q ≡ 0 → (x : ℕ) → under_way C g p x ≤ bit (has (without (E p).waiting q) x)
  fewer-waits p q z x = by-eq x q (λ e. rw e (rw z (omega arith))) (λ n. rw (without-miss (E p).waiting q x n) (S.calls p x))

  -- ---- a station without a parent has a greater clock
  pub ticking : (p : ℕ) (e : Entry) → (E p).parent ≡ nil → e.parent ≡ nil → e.children ≡ (E p).children → e.waiting ≡ (E p).waiting → (E p).clock ≤ e.clock
      → Core g (upd R p (R p)) (upd E p e) C
  ticking p e i j k w l = steady S p e (j ∙ sym i)
      (λ x n v. record {
        lists = ap (λ (y : ℕ). has y x) k ∙ v.lists;
        holds = ap (λ (y : ℕ). R p || not (eqb y nil)) (j ∙ sym i) ∙ v.holds;
        ahead = le_trans v.ahead l;
      })
      (λ n. absurd (n j)) (λ q. rw w (S.calls p q))

  -- ---- a child more
  pub with_child : (p s : ℕ) (e : Entry) → e.parent ≡ (E p).parent → e.clock ≡ (E p).clock → e.waiting ≡ (E p).waiting → e.children ≡ with (E p).children s
      → Core g (upd R p (R p)) (upd E p e) C
  with_child p s e i j w k = steady S p e i
      (λ x n v. record {
        lists = ap (λ (y : ℕ). has y x) k ∙ with-keeps _ s x v.lists;
        holds = ap (λ (y : ℕ). R p || not (eqb y nil)) i ∙ v.holds;
        ahead = rw j v.ahead;
      })
      (λ _. le_of_eq j) (λ q. rw w (S.calls p q))

  -- ---- the reply is taken: loops are shut out by the strictly greater clock
  pub adopting : (p s : ℕ) (e : Entry) → e.parent ≡ s → s ≢ nil → Vouch (R s) (E s) p e.clock → (E p).clock < e.clock
      → e.children ≡ (E p).children → ((q : ℕ) → under_way C g p q ≤ bit (has e.waiting q)) → Core g (upd R p false) (upd E p e) C
  adopting p s e i n v l k calls = put S p false e (record {
    root_parent = λ t. absurd (false≢true t);
    calls = calls;
    own = λ _. rw i (λ j. let z : (E s).clock ≡ (E p).clock = ap (λ (x : ℕ). (E x).clock) j in omega (arith, v.ahead), v);
    kids = λ x _ a b. let u : Vouch (R p) (E p) x (E x).clock = kid S p x a b in
        record { lists = ap (λ (y : ℕ). has y x) k ∙ u.lists; holds = conn; ahead = omega (arith, u.ahead) };
    words = λ x. All-map (λ m u a b c. let u' : Vouch (R p) (E p) x m.clock = u a b c in
        record { lists = ap (λ (y : ℕ). has y x) k ∙ u'.lists; holds = conn; ahead = omega (arith, u'.ahead) }) (S.words p x);
    reaches = λ x h. by-eq x p
        (λ j. rw j (leads.adopter p others flags (λ y. (E y).clock) s this n (λ y g. (S.agreed y g).ahead) above (linked-leads s v.holds)))
        (λ j. leads.adopt p others flags (λ y. (E y).clock) s this n (λ y g. (S.agreed y g).ahead) above (linked-leads s v.holds)
        (S.reaches x (λ g. h (others x j ∙ g))));
  })
    where
      conn : linked false e ≡ true
      conn = parent-links false e (λ j. n (sym i ∙ j))

      above : (E p).clock < (E s).clock
      above = omega (arith, v.ahead)

      this : parents (upd E p e) p ≡ s
      this = ap (λ (u : Entry). u.parent) (upd-hit E p e p refl) ∙ i

      others : (x : ℕ) → x ≢ p → parents (upd E p e) x ≡ parents E x
      others x j = ap (λ (u : Entry). u.parent) (upd-miss E p e x j)

      flags : (x : ℕ) → x ≢ p → upd R p false x ≡ R x
      flags x j = upd-miss R p false x j

  -- ---- the children become those of the mask m, which lists all who hold on to p or are about to
  module _ (p m : ℕ) (kids : (x : ℕ) → (E x).parent ≢ nil → (E x).parent ≡ p → has m x ≡ true)
      (words : (x : ℕ) → All (λ n. n.kind ≡ reply → n.group ≡ g → n.connected ≡ 1 → has m x ≡ true) (C p x)) where
    pub pruning : (e : Entry) → e.parent ≡ (E p).parent → e.clock ≡ (E p).clock → e.waiting ≡ (E p).waiting → e.children ≡ m
        → Core g (upd R p (R p)) (upd E p e) C
    pruning e i j w k = keeps S p e i
        (λ x a b. mono x _ (kid S p x a b) (kids x a b))
        (λ x. All-map2 (λ n u l a b c. mono x _ (u a b c) (l a b c)) (S.words p x) (words x))
        (λ _. le_of_eq j) (λ q. rw w (S.calls p q))
      where
        mono : (x n : ℕ) → Vouch (R p) (E p) x n → has m x ≡ true → Vouch (R p) e x n
        mono x n v l = record {
          lists = ap (λ (y : ℕ). has y x) k ∙ l;
          holds = ap (λ (y : ℕ). R p || not (eqb y nil)) i ∙ v.holds;
          ahead = rw j v.ahead;
        }

    -- it leaves, since the mask lists nobody
    pub leaving : (e : Entry) → e.parent ≡ nil → e.waiting ≡ (E p).waiting → ((x : ℕ) → has m x ≡ true → ⊥) → Core g (upd R p false) (upd E p e) C
    leaving e i w nobody = put S p false e (record {
      root_parent = λ _. i;
      calls = λ q. rw w (S.calls p q);
      own = λ n. absurd (n i);
      kids = λ x _ a b. absurd (nobody x (kids x a b));
      words = λ x. All-map (λ n l a b c. absurd (nobody x (l a b c))) (words x);
      reaches = λ x h. by-eq x p
          (λ j. absurd (h (ap (λ (u : Entry). u.parent) (upd-hit E p e x j) ∙ i)))
          (λ j. leads.leave p others (λ y n. upd-miss R p false y n) (λ y a b. nobody y (kids y a b)) j (S.reaches x (λ g. h (others x j ∙ g))));
    })
      where
        others : (x : ℕ) → x ≢ p → parents (upd E p e) x ≡ parents E x
        others x j = ap (λ (u : Entry). u.parent) (upd-miss E p e x j)

  -- who holds on to p is listed, or is about to be; and stays so if another is struck off
  pub listed : (p x : ℕ) → (E x).parent ≢ nil → (E x).parent ≡ p → has (E p).children x ≡ true
  listed p x a b = (kid S p x a b).lists

  pub promised : (p x : ℕ) → All (λ n. n.kind ≡ reply → n.group ≡ g → n.connected ≡ 1 → has (E p).children x ≡ true) (C p x)
  promised p x = All-map (λ n u a b c. (u a b c).lists) (S.words p x)

  module _ (p c : ℕ) (n : (E c).parent ≢ p) (z : under_way C g c p ≡ 0) where
    pub listed-less : (x : ℕ) → (E x).parent ≢ nil → (E x).parent ≡ p → has (without (E p).children c) x ≡ true
    listed-less x a b = without-miss (E p).children c x (λ j. n (ap (λ (y : ℕ). (E y).parent) (sym j) ∙ b)) ∙ listed p x a b

    pub promised-less : (x : ℕ) → All (λ n. n.kind ≡ reply → n.group ≡ g → n.connected ≡ 1 → has (without (E p).children c) x ≡ true) (C p x)
    unfolding under_way
    promised-less x = by-eq x c
        (λ i. subst (λ (y : ℕ). All (λ m. m.kind ≡ reply → m.group ≡ g → m.connected ≡ 1 → has (without (E p).children c) y ≡ true) (C p y)) (sym i)
        (no-replies (C p c) (omega arith)))
        (λ j. All-map (λ m u a b f. without-miss (E p).children c x j ∙ (u a b f).lists) (S.words p x))
