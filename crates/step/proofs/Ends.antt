-- What a step answers: by the tally of a script of one.
use mathlib.Core.Path.{◌≡◌, refl, ap, ◌∙◌}
use mathlib.Core.Logic.{◌≢◌}
use mathlib.Core.Bool.{true, false}
use mathlib.Core.List.{List, [], ◌∷◌}
use Rattle.std.proofs.Common.{Option, Ok, Err}
use Prim.Native.Nat.{ℕ}
use native.Mathlib.Omega.{arith}
use lib.Dec.{eqb}
use borrow.Author.Tests.{eq-eqb, ne_eqb, eqb-true}
use Rattle.bits.proofs.Cases.{by_bool}
use Rattle.protocol.specs.declared.Case.{Case}
use Rattle.protocol.specs.declared.Case.TheVariants.{Adopted, NotTentative, Unconnected, NotGreater}
use Rattle.protocol.specs.declared.Refusal.{Refusal}
use Rattle.protocol.specs.declared.Refusal.TheVariants.{NotANet}
use Rattle.protocol.specs.Refusals.{number}
use Rattle.protocol.specs.Net.{Net, request}
use Rattle.protocol.specs.Cases.{case_number, no_case}
use Rattle.protocol.specs.Rules.{Rule, oldest, case_at, tick, ask, refresh, deliver, lose, give_up, drop_child, member, route, rules}
use Rattle.protocol.specs.Steps.{outcome, step, case_heard}
use Rattle.protocol.specs.Runs.{no_tally, case_count, count_case, then, after}
use Rattle.protocol.specs.Shaped.{All, none, both}
use Rattle.protocol.proofs.Steps.Steps.{each-rule}
use Rattle.layout.specs.declared.form.Mark.{Mark}
use Rattle.shape.specs.Shape.{shaped_as}
use Rattle.shape.proofs.Nets.{marked}
use Rattle.net.specs.View.{view}
use Rattle.net.specs.Encode.{bytes_as, bytes_like}
use Rattle.net.proofs.Forms.{view-bytes}
use Rattle.step.specs.Steps.{case_told, told, step_outcome_as, step_case_as, step_answer_as, net_after_step_as}
use Rattle.step.specs.Inner.Counted.{case_counted}

-- ---- the case is the one that has a count
record Counted (R : Rule Net) : Type 0 where
  pub case : case_counted (count_case no_tally.replies R.traffic.case) ≡ R.traffic.case

counted_none : (R : Rule Net) → R.traffic.case ≡ no_case → Counted R
unfolding case_counted count_case case_count case_number
counted_none R e = record { case = rw e refl }

counted-case : (x : Case) → case_counted (count_case no_tally.replies (case_number x)) ≡ case_number x
unfolding case_counted count_case case_count case_number
counted-case Adopted = refl
counted-case NotTentative = refl
counted-case Unconnected = refl
counted-case NotGreater = refl

counted-delivery : (N : Net) (a b c : ℕ) → Counted (deliver N a b c)
unfolding deliver case_counted count_case case_count case_number
counted-delivery N a b c = record {
  case = by_bool (eqb (oldest N.channel a b).kind request)
      (λ t. rw t refl)
      (λ f. rw f (counted-case (case_at N a b (oldest N.channel a b))));
}

all-counted : (N : Net) (a b c : ℕ) → All Counted (rules N a b c)
unfolding rules tick ask refresh lose give_up drop_child member route
all-counted N a b c =
    both (counted_none _ refl) (both (counted_none _ refl) (both (counted_none _ refl)
    (both (counted-delivery N a b c)
    (both (counted_none _ refl) (both (counted_none _ refl) (both (counted_none _ refl) (both (counted_none _ refl) (both (counted_none _ refl) none))))))))

-- ---- a script of one
module _ (N : Net) (k a b c : ℕ) where
  abbrev pub one : List ℕ
  one = k ∷ a ∷ b ∷ c ∷ []

  pub one-net : (after N one 1).net ≡ step N k a b c
  unfolding after then
  one-net = refl

  pub one-refused : (after N one 1).tally.refused ≢ 0 → outcome N k a b c ≢ 0
  unfolding after then
  one-refused n z = n (rw (eq-eqb _ 0 z) refl)

  pub one-accepted : (after N one 1).tally.refused ≡ 0 → outcome N k a b c ≡ 0
  unfolding after then
  one-accepted e = by_bool (eqb (outcome N k a b c) 0) (eqb-true _ 0) (λ f. let w : 1 ≡ 0 = rw f at e in absurd (omega (arith, w)))

  pub one-case : outcome N k a b c ≡ 0 → case_counted (after N one 1).tally.replies ≡ case_heard N k a b c
  unfolding after then case_heard
  one-case z = rw (eq-eqb _ 0 z) (each-rule N Counted (counted_none _ refl) a b c (all-counted N a b c) k).case

-- ---- any bytes: a net's in the form of this mark, and others
module _ (m : Mark) (l : List ℕ) (k a b c : ℕ) where
  abbrev O : ℕ
  O = outcome (view l) k a b c

  -- what a refused step leaves
  pub kept : shaped_as m l ≡ true → O ≢ 0 → bytes_like l (step (view l) k a b c) ≡ l
  unfolding step
  kept s n = rw (ne_eqb _ 0 n) (view-bytes _ l (rw (marked m l s) s))

  pub on-refusal : shaped_as m l ≡ true → O ≢ 0 → (r : Refusal) {l' : List ℕ} → number r ≡ O → l' ≡ l
      → (told (Err r) ≡ step_answer_as m l k a b c) × (l' ≡ net_after_step_as m l k a b c)
  unfolding step_outcome_as step_case_as net_after_step_as case_heard
  on-refusal s n r e f = rw (s, ne_eqb _ 0 n) ((λ i. record { outcome = e i; case = 0 }), f)

  pub on-net : shaped_as m l ≡ true → O ≡ 0 → (x : Option Case) {l' : List ℕ} → case_told x ≡ case_heard (view l) k a b c → l' ≡ bytes_like l (step (view l) k a b c)
      → (told (Ok x) ≡ step_answer_as m l k a b c) × (l' ≡ net_after_step_as m l k a b c)
  unfolding step_outcome_as step_case_as net_after_step_as
  on-net s z x e f = rw (s, z) ((λ i. record { outcome = 0; case = e i }), f ∙ ap (λ (n : Mark). bytes_as n (step (view l) k a b c)) (marked m l s))

  pub on_none : shaped_as m l ≡ false → (told (Err NotANet) ≡ step_answer_as m l k a b c) × (l ≡ net_after_step_as m l k a b c)
  unfolding step_outcome_as step_case_as net_after_step_as
  on_none f = rw f (refl, refl)
