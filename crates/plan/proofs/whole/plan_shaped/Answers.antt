use Rattle.std.proofs.Common.{rules}
use borrow.Author.Tests.{ne_eqb}
use Rattle.plan.specs.Planned.{plan_shaped}
use Rattle.plan.proofs.Plans.{plan-is}
use Rattle.plan.proofs.whole.plan_shaped.Goals as goal

pub returns-then-s-eq-PLAN_LENGTH : goal.returns-then-s-eq-PLAN_LENGTH
returns-then-s-eq-PLAN_LENGTH c = plan-is c.args.s.now _ c.if-s-eq-PLAN_LENGTH.true (λ i. search rules) c.planned.ensures

pub returns-else-s-eq-PLAN_LENGTH : goal.returns-else-s-eq-PLAN_LENGTH
unfolding plan_shaped
returns-else-s-eq-PLAN_LENGTH c = simp (ne_eqb _ _ c.if-s-eq-PLAN_LENGTH.false)
