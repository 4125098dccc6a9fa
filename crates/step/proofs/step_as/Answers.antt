use Rattle.std.proofs.Common.{◌≡◌, ◌≢◌, ℕ, List, true, Option, Ok, Err, sym, ap, subst, ◌∙◌}
use Rattle.protocol.specs.declared.Case.{Case}
use Rattle.protocol.specs.declared.Refusal.{Refusal}
use Rattle.protocol.specs.declared.Tally.{Tally}
use Rattle.protocol.specs.Refusals.{number}
use Rattle.protocol.specs.Steps.{outcome, step}
use Rattle.protocol.specs.Runs.{after}
use Rattle.layout.specs.declared.form.Mark.{Mark}
use Rattle.layout.specs.Marks.{mark_of}
use Rattle.shape.specs.Shape.{shaped_as}
use Rattle.shape.proofs.Nets.{marked}
use Rattle.net.specs.View.{view}
use Rattle.net.specs.Encode.{bytes_like}
use Rattle.access.specs.Inner.Nets.{IsNet}
use Rattle.access.proofs.Laws.{is-net}
use Rattle.step.specs.Inner.Counted.{case_counted}
use Rattle.step.specs.Steps.{case_told, told, step_answer_as, net_after_step_as}
use Rattle.step.proofs.Ends.{one, one-net, one-refused, one-accepted, one-case, kept, on-refusal, on-net, on_none}
use Rattle.step.proofs.step_as.Goals as goal

-- what the script of one left, of bytes that are a net's
module _ (m : Mark) (l : List ℕ) (ok : shaped_as m l ≡ true) (k a b c : ℕ) {t : Tally} {l' : List ℕ}
    (ran : let R = after (view l) (one (view l) k a b c) 1 in (t ≡ R.tally) × (l' ≡ bytes_like l R.net)) where
  left : l' ≡ bytes_like l (step (view l) k a b c)
  left = ran.1 ∙ ap (bytes_like l) (one-net (view l) k a b c)

  -- it was refused, and the net is as it was
  module _ (not_none : t.refused ≢ 0) where
    refused : outcome (view l) k a b c ≢ 0
    refused = one-refused (view l) k a b c (λ z. not_none (ap (λ (x : Tally). x.refused) ran.0 ∙ z))

    same : l' ≡ l
    same = left ∙ kept m l k a b c ok refused

    still-refused : outcome (view l') k a b c ≢ 0
    still-refused = subst (λ (x : List ℕ). outcome (view x) k a b c ≢ 0) (sym same) refused

    told-refused : (r : Refusal) → number r ≡ outcome (view l') k a b c
        → (told (Err r) ≡ step_answer_as m l k a b c) × (l' ≡ net_after_step_as m l k a b c)
    told-refused r is = on-refusal m l k a b c ok refused r (is ∙ ap (λ (x : List ℕ). outcome (view x) k a b c) same) same

  told-accepted : t.refused ≡ 0 → (x : Option Case) → case_told x ≡ case_counted t.replies
      → (told (Ok x) ≡ step_answer_as m l k a b c) × (l' ≡ net_after_step_as m l k a b c)
  told-accepted none x is =
      let z = one-accepted (view l) k a b c (sym (ap (λ (x : Tally). x.refused) ran.0) ∙ none) in
      on-net m l k a b c ok z x (is ∙ ap (λ (x : Tally). case_counted x.replies) ran.0 ∙ one-case (view l) k a b c z) left

pub returns-then-not-shaped_as : goal.returns-then-not-shaped_as
returns-then-not-shaped_as c = on_none _ _ _ _ _ _ (sym c.shaped_as.ensures ∙ c.if-not-shaped_as.true)

pub run_in-tally-requires-clause-net : goal.run_in-tally-requires-clause-net
run_in-tally-requires-clause-net c = is-net c.args.m c.args.net.now (sym c.shaped_as.ensures ∙ c.if-not-shaped_as.false)

pub run_in-tally-requires-clause-m_value : goal.run_in-tally-requires-clause-m_value
run_in-tally-requires-clause-m_value c = sym (marked _ _ (sym c.shaped_as.ensures ∙ c.if-not-shaped_as.false))

-- what was refused is a net still
pub invariant_of-seen : goal.invariant_of-seen
invariant_of-seen c = let a = c.args in
    let ok = sym c.shaped_as.ensures ∙ c.if-not-shaped_as.false in
    let was = same a.m a.net.now ok a.action a.a a.b a.c c.run_in-tally.ensures c.if-tally-ne0.true in
    record { is_net = subst IsNet (sym was) (is-net a.m a.net.now ok); is_marked = sym (marked _ _ ok) ∙ ap mark_of (sym was) }

pub refusal-requires : goal.refusal-requires
refusal-requires c = let a = c.args in
    let ok = sym c.shaped_as.ensures ∙ c.if-not-shaped_as.false in
    still-refused a.m a.net.now ok a.action a.a a.b a.c c.run_in-tally.ensures c.if-tally-ne0.true

pub returns-then-tally-ne0 : goal.returns-then-tally-ne0
returns-then-tally-ne0 c = let a = c.args in
    told-refused a.m a.net.now (sym c.shaped_as.ensures ∙ c.if-not-shaped_as.false) a.action a.a a.b a.c c.run_in-tally.ensures c.if-tally-ne0.true _ c.refusal.ensures

pub returns : goal.returns
returns c = let a = c.args in
    told-accepted a.m a.net.now (sym c.shaped_as.ensures ∙ c.if-not-shaped_as.false) a.action a.a a.b a.c c.run_in-tally.ensures c.if-tally-ne0.false _ c.case_counted.ensures
