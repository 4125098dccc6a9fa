use Rattle.std.proofs.Common.{refl, sym, ◌∙◌}
use borrow.Author.Tests.{eq-eqb, ne_eqb}
use Rattle.plan.proofs.Plans.{counts, plan-long, plan-passes}
use Rattle.fresh.specs.Fresh.{fresh_outcome, net_after_fresh}
use Rattle.fresh.proofs.Laid.{laid-fresh}
use Rattle.fresh.proofs.fresh.Goals as goal

pub returns-in_default : goal.returns-in_default
unfolding fresh_outcome net_after_fresh
returns-in_default c = rw (ne_eqb _ _ c.in_default.ensures.cases) (refl, refl)

pub returns-then-not-plan_shaped : goal.returns-then-not-plan_shaped
unfolding fresh_outcome net_after_fresh
returns-then-not-plan_shaped c =
    let whole = c.in-Some.ensures.cases in
    rw (eq-eqb _ _ whole.long, sym c.plan_shaped.ensures ∙ c.if-not-plan_shaped.true) (refl, whole.same)

pub lay-requires : goal.lay-requires
lay-requires c =
    let s = sym c.plan_shaped.ensures ∙ c.if-not-plan_shaped.false in
    let w = counts _ _ (plan-passes _ s) in
    (plan-long _ s, w.1, w.3)

pub returns : goal.returns
unfolding fresh_outcome net_after_fresh
returns c =
    let s = sym c.plan_shaped.ensures ∙ c.if-not-plan_shaped.false in
    rw (eq-eqb _ _ c.in-Some.ensures.cases.long, s) (refl, c.lay.ensures ∙ laid-fresh _ s)
