-- Which number a refused rule has, by the tests that are known to pass.
use mathlib.Core.Path.{◌≡◌, refl}
use mathlib.Core.Logic.{◌≢◌}
use mathlib.Core.Bool.{true, false, cond}
use Prim.Native.Nat.{ℕ}
use Rattle.bits.proofs.Cases.{by_bool}
use Rattle.protocol.specs.Net.{Net}
use Rattle.protocol.specs.Rules.{Rule}
use Rattle.protocol.specs.Steps.{verdict, action?, rule, outcome}

module _ (R : Rule Net) where
  pub is-3 : R.operands ≡ false → 3 ≡ verdict R
  unfolding verdict
  is-3 a = rw a refl

  pub is-4 : R.operands ≡ true → R.enabled ≡ false → 4 ≡ verdict R
  unfolding verdict
  is-4 a b = rw (a, b) refl

  pub is-6 : R.operands ≡ true → R.enabled ≡ true → R.clock_room ≡ true → verdict R ≢ 0 → 6 ≡ verdict R
  unfolding verdict
  is-6 a b c n = by_bool R.send_room (λ t. absurd (n (rw (a, b, c, t) refl))) (λ f. rw (a, b, c, f) refl)

  -- of a rule that needs no room, and of one that is always enabled and sends nothing
  pub is-3-or-4 : R.clock_room ≡ true → R.send_room ≡ true → verdict R ≢ 0 → cond R.operands 4 3 ≡ verdict R
  unfolding verdict
  is-3-or-4 c d n = by_bool R.operands
      (λ a. by_bool R.enabled (λ b. absurd (n (rw (a, b, c, d) refl))) (λ b. rw (a, b) refl))
      (λ a. rw a refl)

  pub is-3-or-5 : R.enabled ≡ true → R.send_room ≡ true → verdict R ≢ 0 → cond R.operands 5 3 ≡ verdict R
  unfolding verdict
  is-3-or-5 b d n = by_bool R.operands
      (λ a. by_bool R.clock_room (λ c. absurd (n (rw (a, b, c, d) refl))) (λ c. rw (a, b, c) refl))
      (λ a. rw a refl)

-- the outcome of a step is its rule's verdict, where there is such an action
pub of-action : (N : Net) (n k a b c : ℕ) → action? n ≡ true → k ≡ n → outcome N k a b c ≡ verdict (rule N n a b c)
unfolding outcome
of-action N n k a b c t e = rw (e, t) refl

pub none-such : (N : Net) (k a b c : ℕ) → action? k ≡ false → 2 ≡ outcome N k a b c
unfolding outcome
none-such N k a b c f = rw f refl
