use Rattle.std.proofs.Common.{◌≡◌, ◌≤◌, refl, arith}
use Rattle.protocol.specs.Rules.{rules}
use Rattle.protocol.specs.Steps.{rule}
use Rattle.script.proofs.Ends.{arm, unknown, no-action}
use Rattle.script.proofs.step_in.Goals as goal

pub returns-in-1 : goal.returns-in-1
unfolding rule rules
returns-in-1 c = arm 1 refl _ _ _ _ _ c.in-1.is c.tick.ensures

pub returns-in-2 : goal.returns-in-2
unfolding rule rules
returns-in-2 c = arm 2 refl _ _ _ _ _ c.in-2.is c.ask.ensures

pub returns-in-3 : goal.returns-in-3
unfolding rule rules
returns-in-3 c = arm 3 refl _ _ _ _ _ c.in-3.is c.refresh.ensures

pub returns-in-4 : goal.returns-in-4
unfolding rule rules
returns-in-4 c = arm 4 refl _ _ _ _ _ c.in-4.is c.deliver.ensures

pub returns-in-5 : goal.returns-in-5
unfolding rule rules
returns-in-5 c = arm 5 refl _ _ _ _ _ c.in-5.is c.lose.ensures

pub returns-in-6 : goal.returns-in-6
unfolding rule rules
returns-in-6 c = arm 6 refl _ _ _ _ _ c.in-6.is c.give_up.ensures

pub returns-in-7 : goal.returns-in-7
unfolding rule rules
returns-in-7 c = arm 7 refl _ _ _ _ _ c.in-7.is c.drop_child.ensures

pub returns-in-8 : goal.returns-in-8
unfolding rule rules
returns-in-8 c = arm 8 refl _ _ _ _ _ c.in-8.is c.member.ensures

pub returns-in-9 : goal.returns-in-9
unfolding rule rules
returns-in-9 c = arm 9 refl _ _ _ _ _ c.in-9.is c.route.ensures

pub returns-in-0 : goal.returns-in-0
returns-in-0 c = let a = c.args in
    let none : a.action ≡ 0 = omega arith in
    unknown a.net.now a.action a.a a.b a.c (rw none refl)

pub returns-in-0-2 : goal.returns-in-0-2
returns-in-0-2 c = let a = c.args in
    let past : 10 ≤ a.action = omega arith in
    unknown a.net.now a.action a.a a.b a.c
    (no-action a.action (omega arith) (omega arith) (omega arith) (omega arith) (omega arith) (omega arith) (omega arith) (omega arith) (omega arith))
