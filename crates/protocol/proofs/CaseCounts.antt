-- What a run counts of the replies that it hears.
use mathlib.Core.Path.{◌≡◌, refl, sym, ap, ◌∙◌}
use mathlib.Core.Bool.{false, cond}
use mathlib.Core.List.{List}
use Prim.Native.Nat.{ℕ, zero, suc, ◌+◌}
use native.Mathlib.Omega.{arith}
use lib.Dec.{eqb}
use borrow.Author.Tests.{eqb-true, ne_eqb}
use Rattle.bits.specs.Sums.{bit}
use Rattle.bits.proofs.Cases.{by_bool}
use Rattle.protocol.specs.declared.Case.{Case}
use Rattle.protocol.specs.declared.Case.TheVariants.{Adopted, NotTentative, Unconnected, NotGreater}
use Rattle.protocol.specs.declared.Replies.{Replies}
use Rattle.protocol.specs.Net.{Net, request, reply}
use Rattle.protocol.specs.Cases.{case_number, no_case}
use Rattle.protocol.specs.Steps.{rule, outcome, case_heard}
use Rattle.protocol.specs.Runs.{case_count, count_case, no_tally, RunState, then, at_step, after, how_many, delivers, hears, all_replies}
use Rattle.protocol.specs.Shaped.{Shaped}
use Rattle.protocol.proofs.Steps.Hears.{some-case, heard-is, delivered-is}
use Rattle.protocol.proofs.Theorems.{run-shaped}

-- ---- one reply more
-- in the count of its case, and of no other
count-case : (r : Replies) (k : ℕ) (x : Case) → case_count (count_case r k) x ≡ case_count r x + bit (eqb k (case_number x))
unfolding case_count count_case
count-case r k x = at x ∙ by_bool (eqb k (case_number x)) (λ t. rw t refl) (λ f. rw f (omega arith))
  where
    at : (x : Case) → case_count (count_case r k) x ≡ cond (eqb k (case_number x)) (case_count r x + 1) (case_count r x)
    at Adopted = refl
    at NotTentative = refl
    at Unconnected = refl
    at NotGreater = refl

all-count : (r : Replies) (x : Case) → all_replies (count_case r (case_number x)) ≡ all_replies r + 1
unfolding case_count count_case case_number
all-count r Adopted = omega arith
all-count r NotTentative = omega arith
all-count r Unconnected = omega arith
all-count r NotGreater = omega arith

none-count : (r : Replies) → all_replies (count_case r no_case) ≡ all_replies r
unfolding case_count count_case case_number
none-count r = omega arith

-- a refused step delivers nothing
refused-delivers : (kind : ℕ) (N : Net) (k a b c : ℕ) → eqb (outcome N k a b c) 0 ≡ false → delivers kind N k a b c ≡ false
unfolding delivers
refused-delivers kind N k a b c f = rw f (by_bool (eqb k 4) (λ i. rw i refl) (λ i. rw i refl))

-- ---- one step more
module _ (R : RunState) (k a b c : ℕ) where
  then-case : (x : Case) → case_count (then R k a b c).tally.replies x ≡ case_count R.tally.replies x + bit (hears x R.net k a b c)
  unfolding then hears case_heard
  then-case x = by_bool (eqb (outcome R.net k a b c) 0)
      (λ t. rw t (count-case R.tally.replies (rule R.net k a b c).traffic.case x))
      (λ f. rw (f, ne_eqb no_case (case_number x) (λ i. some-case x (sym i))) (omega arith))

  module _ (H : Shaped R.net) where
    then-replies : all_replies (then R k a b c).tally.replies ≡ all_replies R.tally.replies + bit (delivers reply R.net k a b c)
    unfolding then case_heard
    then-replies = by_bool (eqb (outcome R.net k a b c) 0)
        (λ t. let is : (rule R.net k a b c).traffic.case ≡ cond (delivers reply R.net k a b c) _ no_case = rw t at (heard-is R.net H k a b c) in
        rw (t, is) (by_bool (delivers reply R.net k a b c) (λ d. rw d (all-count R.tally.replies _)) (λ d. rw d (none-count R.tally.replies ∙ (omega arith)))))
        (λ f. rw (f, refused-delivers reply R.net k a b c f) (omega arith))

    then-delivered : (then R k a b c).tally.delivered ≡ R.tally.delivered + (bit (delivers request R.net k a b c) + bit (delivers reply R.net k a b c))
    unfolding then
    then-delivered = by_bool (eqb (outcome R.net k a b c) 0)
        (λ t. rw (t, delivered-is R.net H k a b c (eqb-true _ 0 t)) refl)
        (λ f. rw (f, refused-delivers request R.net k a b c f, refused-delivers reply R.net k a b c f) (omega arith))

-- ---- a run: each count is the number of steps that hear a reply of its case; the four together are the replies delivered, and those
-- and the requests delivered are all that is delivered
none_yet : (x : Case) → case_count no_tally.replies x ≡ 0
unfolding case_count
none_yet Adopted = refl
none_yet NotTentative = refl
none_yet Unconnected = refl
none_yet NotGreater = refl

module _ (N : Net) (s : List ℕ) where
  pub run-cases : (i : ℕ) (x : Case) → case_count (after N s i).tally.replies x ≡ how_many (hears x) N s i
  unfolding after how_many
  run-cases zero x = none_yet x
  run-cases (suc i) x = more ∙ ap (λ (n : ℕ). n + bit (at_step s i (hears x (after N s i).net))) (run-cases i x)
    where
      more : case_count (after N s (suc i)).tally.replies x ≡ case_count (after N s i).tally.replies x + bit (at_step s i (hears x (after N s i).net))
      more = then-case (after N s i) _ _ _ _ x

  module _ (H : Shaped N) where
    more-replies : (i : ℕ) → all_replies (after N s (suc i)).tally.replies ≡ all_replies (after N s i).tally.replies + bit (at_step s i (delivers reply (after N s i).net))
    unfolding after
    more-replies i = then-replies (after N s i) _ _ _ _ (run-shaped N s H i)

    pub run-replies : (i : ℕ) → all_replies (after N s i).tally.replies ≡ how_many (delivers reply) N s i
    unfolding after how_many case_count
    run-replies zero = refl
    run-replies (suc i) = omega (arith, run-replies i, more-replies i)

    more-delivered : (i : ℕ) → (after N s (suc i)).tally.delivered
        ≡ (after N s i).tally.delivered + (bit (at_step s i (delivers request (after N s i).net)) + bit (at_step s i (delivers reply (after N s i).net)))
    unfolding after
    more-delivered i = then-delivered (after N s i) _ _ _ _ (run-shaped N s H i)

    pub run-delivered : (i : ℕ) → (after N s i).tally.delivered ≡ how_many (delivers request) N s i + all_replies (after N s i).tally.replies
    unfolding after how_many case_count
    run-delivered zero = refl
    run-delivered (suc i) = omega (arith, run-delivered i, more-replies i, more-delivered i)
