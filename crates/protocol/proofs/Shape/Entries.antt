-- What the actions put is well shaped: a request, a reply, and an entry that waits, lists, hears, leaves.
use mathlib.Core.Path.{◌≡◌, refl, sym, ap, ◌∙◌}
use mathlib.Core.Logic.{◌≢◌, inl, inr}
use mathlib.Core.Bool.{true, ◌||◌}
use Prim.Native.Nat.{ℕ, ◌≤◌, ◌<◌}
use native.Mathlib.Omega.{arith}
use lib.Dec.{eqb}
use Rattle.bits.specs.Masks.{has, with, without}
use Rattle.bits.proofs.Cases.{by_bool, by-eq, clash}
use Rattle.bits.proofs.Masks.{with-miss, without-hit, without-miss}
use Rattle.protocol.specs.declared.Entry.{Entry}
use Rattle.protocol.specs.declared.Message.{Message}
use Rattle.protocol.specs.Net.{nil, largest_clock}
use Rattle.protocol.specs.Cases.{adopts, CaseHolds}
use Rattle.protocol.specs.Entries.{with_parents, with_member, with_clock, joins, connected, waits_on, stops_waiting, asking, with_child, without_child, stay_or_leave, request_of, reply_of, hearing}
use Rattle.protocol.specs.Shaped.{ShapedEntry, ShapedMessage}
use Rattle.protocol.proofs.Laws.Cases.{adopts-holds}
use Rattle.protocol.proofs.Laws.Messages.{bit_le}

pub shaped-request : (n g : ℕ) → g < n → ShapedMessage n (request_of g)
shaped-request n g h = record { kinds = inl refl; grouped = h; flag = omega arith; clock_fits = omega arith; bare = λ _. (refl, refl) }

pub shaped-reply : (n g r p : ℕ) (e : Entry) → g < n → e.clock ≤ largest_clock → ShapedMessage n (reply_of g r p e)
shaped-reply n g r p e h k = record { kinds = inr refl; grouped = h; flag = bit_le (connected r p e); clock_fits = k; bare = λ i. absurd (omega arith) }

with-near : (nb m q : ℕ) → has nb q ≡ true → ((x : ℕ) → has m x ≡ true → has nb x ≡ true) → (x : ℕ) → has (with m q) x ≡ true → has nb x ≡ true
with-near nb m q h f x t = by-eq x q (λ i. rw i h) (λ n. f x (sym (with-miss m q x n) ∙ t))

without-near : (nb m q : ℕ) → ((x : ℕ) → has m x ≡ true → has nb x ≡ true) → (x : ℕ) → has (without m q) x ≡ true → has nb x ≡ true
without-near nb m q f x t = by-eq x q
    (λ i. clash t (ap (has (without m q)) i ∙ without-hit m q))
    (λ n. f x (sym (without-miss m q x n) ∙ t))

module _ {nb r p : ℕ} {e : Entry} (K : ShapedEntry nb r p e) where
  -- other masks; other parents; another flag; another clock
  shaped-masks : (c w : ℕ) → ((x : ℕ) → has c x ≡ true → has nb x ≡ true) → ((x : ℕ) → has w x ≡ true → has nb x ≡ true)
      → ShapedEntry nb r p (record { parent = e.parent; tentative = e.tentative; member = e.member; clock = e.clock; children = c; waiting = w })
  shaped-masks c w hc hw = record { parent_near = K.parent_near; tentative_near = K.tentative_near; nil_at_root = K.nil_at_root; flag = K.flag; children_near = hc; waiting_near = hw; clock_fits = K.clock_fits }

  shaped-parents : (q t : ℕ) → (q ≢ nil → has nb q ≡ true) → (t ≢ nil → has nb t ≡ true) → (p ≡ r → (q ≡ nil) × (t ≡ nil)) → ShapedEntry nb r p (with_parents e q t)
  shaped-parents q t hq ht top = record { parent_near = hq; tentative_near = ht; nil_at_root = top; flag = K.flag; children_near = K.children_near; waiting_near = K.waiting_near; clock_fits = K.clock_fits }

  pub shaped-member : (v : ℕ) → v ≤ 1 → ShapedEntry nb r p (with_member e v)
  shaped-member v h = record { parent_near = K.parent_near; tentative_near = K.tentative_near; nil_at_root = K.nil_at_root; flag = h; children_near = K.children_near; waiting_near = K.waiting_near; clock_fits = K.clock_fits }

  pub shaped-clock : (k : ℕ) → k ≤ largest_clock → ShapedEntry nb r p (with_clock e k)
  shaped-clock k h = record { parent_near = K.parent_near; tentative_near = K.tentative_near; nil_at_root = K.nil_at_root; flag = K.flag; children_near = K.children_near; waiting_near = K.waiting_near; clock_fits = h }

module _ {nb r p : ℕ} {e : Entry} (K : ShapedEntry nb r p e) where
  pub shaped-waits : (q : ℕ) → has nb q ≡ true → ShapedEntry nb r p (waits_on e q)
  shaped-waits q h = shaped-masks K _ _ K.children_near (with-near nb e.waiting q h K.waiting_near)

  pub shaped-stops : (q : ℕ) → ShapedEntry nb r p (stops_waiting e q)
  shaped-stops q = shaped-masks K _ _ K.children_near (without-near nb e.waiting q K.waiting_near)

  pub shaped-asking : (q : ℕ) → has nb q ≡ true → p ≢ r → ShapedEntry nb r p (asking e q)
  shaped-asking q h n = shaped-parents (shaped-waits q h) e.parent q K.parent_near (λ _. h) (λ i. absurd (n i))

  pub shaped-child : (s : ℕ) → has nb s ≡ true → ShapedEntry nb r p (with_child e s)
  shaped-child s h = shaped-masks K _ _ (with-near nb e.children s h K.children_near) K.waiting_near

  pub shaped-childless : (x : ℕ) → ShapedEntry nb r p (without_child e x)
  shaped-childless x = shaped-masks K _ _ (without-near nb e.children x K.children_near) K.waiting_near

  pub shaped-stay : ShapedEntry nb r p (stay_or_leave r p e)
  unfolding stay_or_leave
  shaped-stay = by_bool (eqb p r || joins e) (λ t. rw t K)
      (λ f. rw f (shaped-parents K nil nil (λ n. absurd (n refl)) (λ n. absurd (n refl)) (λ _. (refl, refl))))

module _ {nb r p : ℕ} {e : Entry} (K : ShapedEntry nb r p e) where
  pub shaped-hearing : (s : ℕ) (m : Message) → has nb s ≡ true → s ≢ nil → m.clock ≤ largest_clock → ShapedEntry nb r p (hearing e s m)
  unfolding hearing CaseHolds
  shaped-hearing s m h n k = by_bool (adopts e s m)
      (λ t. rw t (shaped-clock (shaped-parents (shaped-stops K s) s e.tentative (λ _. h) K.tentative_near
      (λ i. absurd (n (sym (adopts-holds e s m t).0 ∙ (K.nil_at_root i).1)))) m.clock k))
      (λ f. rw f (shaped-stops K s))
