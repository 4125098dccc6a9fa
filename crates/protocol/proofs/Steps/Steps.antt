-- What every action keeps, a step keeps: for any list of rules.
use mathlib.Core.Path.{◌≡◌, refl}
use mathlib.Core.Logic.{◌≢◌}
use mathlib.Core.Bool.{Bool, true, false, false≢true}
use Prim.Native.Nat.{ℕ, ◌-◌}
use native.Mathlib.Omega.{arith}
use lib.Dec.{eqb}
use borrow.Author.Tests.{eqb-true}
use Rattle.bits.proofs.Cases.{by_bool}
use Rattle.protocol.specs.Net.{Net, request, set_entry, set_channel, set_route, send, take_at}
use Rattle.protocol.specs.Fresh.{plan_of}
use Rattle.protocol.specs.Rules.{Rule, oldest, tick, ask, refresh, answered, heard, deliver, lose, give_up, drop_child, member, route, rules}
use Rattle.protocol.specs.Steps.{or_else, verdict, no_rule, rule, action?, outcome, step}
use Rattle.protocol.specs.Shaped.{All, none, both}
use Rattle.protocol.proofs.Laws.Maps.{All-get_or}

-- a number other than its own shows that a test passed
pub or_else-pass : (b : Bool) (k rest o : ℕ) → k ≢ o → or_else b k rest ≡ o → (b ≡ true) × (rest ≡ o)
or_else-pass true k rest o n e = (refl, e)
or_else-pass false k rest o n e = absurd (n e)

-- all tests of an accepted rule pass
pub record Passed {T : Type 0} (R : Rule T) : Type 0 where
  pub operands : R.operands ≡ true
  pub enabled : R.enabled ≡ true
  pub clock_room : R.clock_room ≡ true
  pub send_room : R.send_room ≡ true

pub accepted : {T : Type 0} (R : Rule T) → verdict R ≡ 0 → Passed R
unfolding verdict
accepted R e =
    let e3 = or_else-pass R.operands 3 _ 0 (λ i. omega arith) e in
    let e4 = or_else-pass R.enabled 4 _ 0 (λ i. omega arith) e3.1 in
    let e5 = or_else-pass R.clock_room 5 _ 0 (λ i. omega arith) e4.1 in
    let e6 = or_else-pass R.send_room 6 _ 0 (λ i. omega arith) e5.1 in
    record { operands = e3.0; enabled = e4.0; clock_room = e5.0; send_room = e6.0 }

module _ (N : Net) where
  -- what holds of each of the nine rules holds of the rule of any number
  pub each-rule : (Q : Rule Net → Type 0) → Q (no_rule N) → (a b c : ℕ) → All Q (rules N a b c) → (k : ℕ) → Q (rule N k a b c)
  unfolding rule
  each-rule Q nothing a b c all k = All-get_or (k - 1) (no_rule N) nothing all

  -- a step is the rule's next net where it is accepted, and else the net as it is
  pub by-step : (Q : Net → Type 0) (k a b c : ℕ) → (Passed (rule N k a b c) → Q (rule N k a b c).next) → Q N → Q (step N k a b c)
  unfolding step outcome
  by-step Q k a b c yes· no· = by_bool (eqb (outcome N k a b c) 0)
      (λ t. rw t (yes· (accepted (rule N k a b c) (or_else-pass (action? k) 2 _ 0 (λ i. omega arith) (eqb-true _ 0 t)).1)))
      (λ f. rw f no·)

  -- what each rule keeps where it is accepted, a step keeps
  abbrev pub Owes : (Net → Type 0) → Rule Net → Type 0
  Owes Q R = Passed R → Q R.next

  pub step_keeps : (Q : Net → Type 0) → Q N → (k a b c : ℕ) → All (Owes Q) (rules N a b c) → Q (step N k a b c)
  step_keeps Q now k a b c all = by-step Q k a b c (each-rule (Owes Q) (λ z. absurd (false≢true z.operands)) a b c all k) now

  -- a refused step changes nothing
  pub refused-same : (k a b c : ℕ) → eqb (outcome N k a b c) 0 ≡ false → step N k a b c ≡ N
  unfolding step
  refused-same k a b c f = rw f

  -- a step changes nothing of the plan
  deliver-plan : (s d c : ℕ) → plan_of (deliver N s d c).next ≡ plan_of N
  unfolding deliver answered heard send take_at set_entry set_channel
  deliver-plan s d c = by_bool (eqb (oldest N.channel s d).kind request) (λ i. rw i) (λ i. rw i)

  same : (a b c : ℕ) → All (Owes (λ M. plan_of M ≡ plan_of N)) (rules N a b c)
  unfolding rules tick ask refresh lose give_up drop_child member route send take_at set_entry set_channel set_route
  same a b c =
      both (λ _. refl) (both (λ _. refl) (both (λ _. refl)
      (both (λ _. deliver-plan a b c) (both (λ _. refl) (both (λ _. refl) (both (λ _. refl) (both (λ _. refl) (both (λ _. refl) none))))))))

  pub step-plan : (k a b c : ℕ) → plan_of (step N k a b c) ≡ plan_of N
  step-plan k a b c = step_keeps (λ M. plan_of M ≡ plan_of N) refl k a b c (same a b c)
