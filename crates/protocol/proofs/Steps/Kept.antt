-- A station that has a parent still has one after any step that leaves it a member or with a child.
use mathlib.Core.Path.{◌≡◌, refl, sym, ◌∙◌}
use mathlib.Core.Logic.{◌≢◌}
use mathlib.Core.Bool.{true, ◌||◌}
use Prim.Native.Nat.{ℕ}
use native.Mathlib.Omega.{arith}
use lib.Dec.{eqb, ltb}
use borrow.Author.Tests.{ltb-true}
use Rattle.bits.proofs.Cases.{by_bool, and_l, and_r, or-false-r, clash}
use Rattle.protocol.specs.declared.Entry.{Entry}
use Rattle.protocol.specs.declared.Message.{Message}
use Rattle.protocol.specs.Net.{Net, nil, request, upd2, set_entry, set_channel, set_route, send, take_at, station?, near?}
use Rattle.protocol.specs.Cases.{adopts}
use Rattle.protocol.specs.Entries.{joins, stay_or_leave, hearing}
use Rattle.protocol.specs.Rules.{oldest, tick, ask, refresh, answered, heard, deliver, lose, give_up, drop_child, member, route, rules}
use Rattle.protocol.specs.Steps.{step}
use Rattle.protocol.specs.Demands.{KeepsParents}
use Rattle.protocol.specs.Shaped.{All, none, both, Shaped}
use Rattle.protocol.proofs.Laws.Maps.{upd2-all}
use Rattle.protocol.proofs.Steps.Steps.{Passed, Owes, step_keeps}

-- from entry e to entry f: a parent is kept, if the station still joins
abbrev Keeps : Entry → Entry → Type 0
Keeps e f = e.parent ≢ nil → joins f ≡ true → f.parent ≢ nil

stayed : (r p : ℕ) (e f : Entry) → f.parent ≡ e.parent → Keeps e (stay_or_leave r p f)
unfolding stay_or_leave joins
stayed r p e f i = by_bool (eqb p r || joins f)
    (λ t. rw t (λ n _ j. n (sym i ∙ j)))
    (λ l. rw l (λ _ j _. clash j (or-false-r (eqb p r) (joins f) l)))

heeded : (s : ℕ) (e : Entry) (m : Message) → s ≢ nil → Keeps e (hearing e s m)
unfolding hearing
heeded s e m n = by_bool (adopts e s m) (λ t. rw t (λ _ _. n)) (λ f. rw f (λ h _. h))

module _ (N : Net) where
  -- one entry changes, or none
  one : (g p : ℕ) (e : Entry) → Keeps (N.entry g p) e → (x y : ℕ) → Keeps (N.entry x y) (upd2 N.entry g p e x y)
  one g p e k = upd2-all (λ x y (v : Entry). Keeps (N.entry x y) v) k (λ x y _ h _. h)

  deliver-keeps : Shaped N → (s d c : ℕ) → Passed (deliver N s d c) → KeepsParents N (deliver N s d c).next
  unfolding deliver answered heard send take_at set_channel set_entry near? station?
  deliver-keeps H s d c P =
      let o = P.operands in
      let o1 : ltb s N.stations ≡ true = search (and_l, and_r) in
      by_bool (eqb (oldest N.channel s d).kind request)
      (λ i. rw i (one _ d _ (λ n _. n)))
      (λ i. rw i (one _ d _ (heeded s _ _ (λ j. omega (arith, H.plan.stations_most, ltb-true s N.stations o1)))))

  all_keep : Shaped N → (a b c : ℕ) → All (Owes N (KeepsParents N)) (rules N a b c)
  unfolding rules tick ask refresh lose give_up drop_child member route send take_at set_channel set_entry set_route
  all_keep H a b c =
      both (λ _. one a (N.root a) _ (λ n _. n)) (both (λ _. one a b _ (λ n _. n)) (both (λ _. one a b _ (λ n _. n))
      (both (deliver-keeps H a b c) (both (λ _ g p h _. h) (both (λ _. one a b _ (λ n _. n)) (both (λ _. one a b _ (stayed _ b (N.entry a b) _ refl))
      (both (λ _. one a b _ (stayed _ b (N.entry a b) _ refl)) (both (λ _ g p h _. h) none))))))))

pub step-keeps-parents : (N : Net) → Shaped N → (k a b c : ℕ) → KeepsParents N (step N k a b c)
step-keeps-parents N H k a b c = step_keeps N (KeepsParents N) (λ g p h _. h) k a b c (all_keep N H a b c)
