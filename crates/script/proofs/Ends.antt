-- How a step ends.
use mathlib.Core.Path.{◌≡◌, refl, sym, subst, ◌∙◌}
use mathlib.Core.Logic.{◌≢◌}
use mathlib.Core.Bool.{true, false, and-false}
use mathlib.Core.List.{List}
use Prim.Native.Nat.{ℕ, suc, ◌≤◌}
use native.Mathlib.Omega.{arith}
use lib.Dec.{eqb, ltb}
use borrow.Author.Tests.{le-ltb, lt-leb}
use Rattle.bits.proofs.Cases.{by_bool, by-lt}
use Rattle.protocol.specs.Steps.{verdict, action?, rule, outcome, step}
use Rattle.net.specs.View.{view}
use Rattle.net.specs.Encode.{bytes_like}
use Rattle.net.proofs.Forms.{view-bytes}
use Rattle.access.specs.Inner.Nets.{IsNet}
use Rattle.action.specs.declared.Answer.{Answer}
use Rattle.action.specs.declared.Answer.TheVariants.{Refused}
use Rattle.action.specs.Inner.Ends.{bytes_after, Ended, ActionEnd}
use Rattle.action.proofs.Ends.{refused}
use Rattle.script.specs.Inner.Ends.{StepEnd}

-- by the number of the outcome
by : (l : List ℕ) (k a b c o : ℕ) {d : Answer} {l' : List ℕ} → outcome (view l) k a b c ≡ o → Ended o (rule (view l) k a b c) l d l' → StepEnd l k a b c d l'
by l k a b c o {d} {l'} e E = subst (λ (n : ℕ). Ended n (rule (view l) k a b c) l d l') (sym e) E

-- a number that names no action
pub unknown : (l : List ℕ) (k a b c : ℕ) → action? k ≡ false → StepEnd l k a b c Refused l
unfolding outcome
unknown l k a b c f = by l k a b c 2 (rw f refl) (refused 2 _ l refl)

-- the arm of number n: its action did what the rule of that number says
pub arm : (n : ℕ) → action? n ≡ true → (l : List ℕ) (k a b c : ℕ) → k ≡ n → {d : Answer} {l' : List ℕ} → ActionEnd (rule (view l) n a b c) l d l' → StepEnd l k a b c d l'
unfolding outcome
arm n t l k a b c e {d} {l'} D = subst (λ (k : ℕ). StepEnd l k a b c d l') (sym e) (by l n a b c (verdict (rule (view l) n a b c)) (rw t refl) D)

-- the bytes that are left are those of the step's net
pub left-bytes : (l : List ℕ) → IsNet l → (k a b c : ℕ) {d : Answer} {l' : List ℕ} → StepEnd l k a b c d l' → l' ≡ bytes_like l (step (view l) k a b c)
unfolding bytes_after step
left-bytes l r k a b c E = E.bytes ∙ by_bool (eqb (outcome (view l) k a b c) 0) (λ t. rw t refl) (λ f. rw f (sym (view-bytes _ l r.shape)))

-- a number that is none of one to nine names no action
past : (n k : ℕ) → n ≤ k → k ≢ n → suc n ≤ k
past n k h e = omega arith

pub no-action : (k : ℕ) → k ≢ 1 → k ≢ 2 → k ≢ 3 → k ≢ 4 → k ≢ 5 → k ≢ 6 → k ≢ 7 → k ≢ 8 → k ≢ 9 → action? k ≡ false
no-action k n1 n2 n3 n4 n5 n6 n7 n8 n9 = by-lt 0 k
    (λ h. rw (lt-leb k 9 (past 9 k (past 8 k (past 7 k (past 6 k (past 5 k (past 4 k (past 3 k (past 2 k (past 1 k h n1) n2) n3) n4) n5) n6) n7) n8) n9)) (and-false (ltb 0 k)))
    (λ z. rw (le-ltb 0 k z))
