use Rattle.std.proofs.Common.{refl, sym, ap, ◌∙◌, ltb}
use borrow.Author.Tests.{lt-ltb, le-ltb}
use Rattle.protocol.specs.Rules as rule
use Rattle.net.specs.View.{view}
use Rattle.action.proofs.Ends.{ends-3, ends-4, ends-0}
use Rattle.lose.proofs.lose.Goals as goal

pub returns-then-not-of_position : goal.returns-then-not-of_position
unfolding rule.lose
returns-then-not-of_position c =
    let a = c.args in
    ends-3 (rule.lose (view a.net.now) a.s a.d a.i) _ (rw (← c.of-seen.ensures) (sym c.of_position.ensures.value ∙ c.if-not-of_position.true))

pub returns-then-i-in_channel : goal.returns-then-i-in_channel
unfolding rule.lose
returns-then-i-in_channel c =
    let a = c.args in
    ends-4 (rule.lose (view a.net.now) a.s a.d a.i) _
    (rw (← c.of-seen.ensures) (sym c.of_position.ensures.value ∙ c.if-not-of_position.false))
    (rw (← c.of-seen.ensures) (ap (ltb a.i) (sym c.in_channel.ensures) ∙ le-ltb _ _ c.if-i-in_channel.true))

pub returns : goal.returns
unfolding rule.lose
returns c =
    let a = c.args in
    ends-0 (rule.lose (view a.net.now) a.s a.d a.i) _ refl refl
    (record {
      operands = rw (← c.of-seen.ensures) (sym c.of_position.ensures.value ∙ c.if-not-of_position.false);
      enabled = rw (← c.of-seen.ensures) (ap (ltb a.i) (sym c.in_channel.ensures) ∙ lt-ltb _ _ c.if-i-in_channel.false);
      clock_room = refl;
      send_room = refl;
    })
    c.take_at.ensures
