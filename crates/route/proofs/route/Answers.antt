use Rattle.std.proofs.Common.{refl, sym, ◌∙◌}
use Rattle.protocol.specs.Rules as rule
use Rattle.net.specs.View.{view}
use Rattle.action.proofs.Ends.{ends-3, ends-0}
use Rattle.route.proofs.route.Goals as goal

pub returns-then-not-of_route : goal.returns-then-not-of_route
unfolding rule.route
returns-then-not-of_route c =
    let a = c.args in
    ends-3 (rule.route (view a.net.now) a.p a.d a.q) _ (rw (← c.of-seen.ensures) (sym c.of_route.ensures.value ∙ c.if-not-of_route.true))

pub returns : goal.returns
unfolding rule.route
returns c =
    let a = c.args in
    ends-0 (rule.route (view a.net.now) a.p a.d a.q) _ refl refl
    (record {
      operands = rw (← c.of-seen.ensures) (sym c.of_route.ensures.value ∙ c.if-not-of_route.false);
      enabled = refl;
      clock_room = refl;
      send_room = refl;
    })
    c.set_route.ensures
