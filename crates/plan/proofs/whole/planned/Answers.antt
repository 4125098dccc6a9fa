use Rattle.std.proofs.Common.{sym, ◌∙◌, arith}
use Rattle.plan.specs.Planned.{planned}
use Rattle.plan.proofs.Plans.{header-few}
use Rattle.plan.proofs.whole.planned.Goals as goal

pub groups_shaped-requires : goal.groups_shaped-requires
groups_shaped-requires c = let few = header-few _ _ (sym c.header_shaped.ensures ∙ c.if-header_shaped.true) in omega (arith, few)

pub names_distinct-requires : goal.names_distinct-requires
names_distinct-requires c = let few = header-few _ _ (sym c.header_shaped.ensures ∙ c.if-header_shaped.true) in omega (arith, few)

pub cables_shaped-requires : goal.cables_shaped-requires
cables_shaped-requires c = let few = header-few _ _ (sym c.header_shaped.ensures ∙ c.if-header_shaped.true) in omega (arith, few)

pub returns-then-header_shaped : goal.returns-then-header_shaped
unfolding planned
returns-then-header_shaped c = simp (← c.header_shaped.ensures, c.if-header_shaped.true) (cc)

pub returns-else-header_shaped : goal.returns-else-header_shaped
unfolding planned
returns-else-header_shaped c = simp (← c.header_shaped.ensures, c.if-header_shaped.false)
