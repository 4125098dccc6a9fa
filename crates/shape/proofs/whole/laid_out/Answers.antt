use Rattle.std.proofs.Common.{◌≡◌, ℕ, Bool, List, sym, ap, ◌∙◌, arith}
use Rattle.layout.specs.declared.form.Mark.{Mark}
use Rattle.layout.specs.Layout.{net_length}
use Rattle.layout.specs.Marks.{mark_byte}
use Rattle.plan.specs.Planned.{of_version1, net_header, planned}
use Rattle.shape.specs.Shape.{laid_out}
use Rattle.shape.proofs.Nets.{planned-few}
use Rattle.shape.proofs.whole.laid_out.Goals as goal

-- the plan was tested with the mark's byte
plan-is : (m : Mark) (l : List ℕ) {b : ℕ} {r : Bool} → b ≡ mark_byte m → r ≡ planned l (of_version1 net_length b) → r ≡ planned l (net_header m)
plan-is m l e f = f ∙ ap (λ (b : ℕ). planned l (of_version1 net_length b)) e

pub routes_shaped-requires : goal.routes_shaped-requires
routes_shaped-requires c =
    omega (arith, planned-few c.args.net.now _ (sym (plan-is c.args.m c.args.net.now c.mark_byte.ensures c.planned.ensures) ∙ c.if-planned.true))

pub channels_shaped-requires : goal.channels_shaped-requires
channels_shaped-requires c =
    omega (arith, planned-few c.args.net.now _ (sym (plan-is c.args.m c.args.net.now c.mark_byte.ensures c.planned.ensures) ∙ c.if-planned.true))

pub returns-then-planned : goal.returns-then-planned
unfolding laid_out
returns-then-planned c = simp (← plan-is c.args.m c.args.net.now c.mark_byte.ensures c.planned.ensures, c.if-planned.true) (cc)

pub returns-else-planned : goal.returns-else-planned
unfolding laid_out
returns-else-planned c = simp (← plan-is c.args.m c.args.net.now c.mark_byte.ensures c.planned.ensures, c.if-planned.false)
