-- How an action ends: one law for each test that it may fail, and one for none.
use mathlib.Core.Path.{◌≡◌, refl, sym, subst}
use mathlib.Core.Bool.{true, false}
use mathlib.Core.List.{List}
use Prim.Native.Nat.{ℕ}
use lib.Dec.{eqb}
use borrow.Author.Tests.{eqb-false}
use Rattle.protocol.specs.Net.{Net}
use Rattle.protocol.specs.Rules.{Rule}
use Rattle.protocol.specs.Steps.{verdict}
use Rattle.protocol.proofs.Steps.Steps.{Passed}
use Rattle.net.specs.Encode.{bytes_like}
use Rattle.action.specs.declared.Answer.{Answer}
use Rattle.action.specs.declared.Answer.TheVariants.{Refused}
use Rattle.action.specs.Inner.Ends.{accepted?, traffic_of, bytes_after, Ended, ActionEnd}

-- refused, with any number but 0
pub refused : (k : ℕ) (R : Rule Net) (l : List ℕ) → eqb k 0 ≡ false → Ended k R l Refused l
unfolding bytes_after
refused k R l e = record { accepted = sym e; traffic = λ z. absurd (eqb-false k 0 e z); bytes = rw e refl }

module _ (R : Rule Net) (l : List ℕ) where
  -- by the number of the verdict
  by : (k : ℕ) {r : Answer} {l' : List ℕ} → verdict R ≡ k → Ended k R l r l' → ActionEnd R l r l'
  by k {r} {l'} e E = subst (λ (n : ℕ). Ended n R l r l') (sym e) E

  pub ends-3 : R.operands ≡ false → ActionEnd R l Refused l
  unfolding verdict
  ends-3 a = by 3 (rw a refl) (refused 3 R l refl)

  pub ends-4 : R.operands ≡ true → R.enabled ≡ false → ActionEnd R l Refused l
  unfolding verdict
  ends-4 a b = by 4 (rw (a, b) refl) (refused 4 R l refl)

  pub ends-5 : R.operands ≡ true → R.enabled ≡ true → R.clock_room ≡ false → ActionEnd R l Refused l
  unfolding verdict
  ends-5 a b c = by 5 (rw (a, b, c) refl) (refused 5 R l refl)

  pub ends-6 : R.operands ≡ true → R.enabled ≡ true → R.clock_room ≡ true → R.send_room ≡ false → ActionEnd R l Refused l
  unfolding verdict
  ends-6 a b c d = by 6 (rw (a, b, c, d) refl) (refused 6 R l refl)

  pub ends-0 : {r : Answer} {l' : List ℕ} → accepted? r ≡ true → traffic_of r ≡ R.traffic → Passed R → l' ≡ bytes_like l R.next → ActionEnd R l r l'
  unfolding verdict bytes_after
  ends-0 t m P b = by 0 (rw (P.operands, P.enabled, P.clock_room, P.send_room) refl) (record { accepted = t; traffic = λ _. m; bytes = b })
