use Rattle.std.proofs.Common.{◌≡◌, ◌≢◌, ◌≤◌, ℕ, Bool, true, refl, sym, ap, ◌∙◌, arith}
use mathlib.Core.Bool.{cond}
use Rattle.protocol.specs.Net.{Net}
use Rattle.protocol.specs.Rules.{Rule, rules}
use Rattle.protocol.specs.Rules as book
use Rattle.protocol.specs.Steps.{verdict, action?, rule, outcome}
use Rattle.access.specs.Inner.Seen.{net_of}
use Rattle.script.proofs.Ends.{no-action}
use Rattle.step.proofs.Refusals.{is-3-or-4, is-3-or-5, of-action, none-such}
use Rattle.step.proofs.refusal.refusal.Goals as goal

-- action n was refused by it, and its number is the outcome
module _ (N : Net) (k a b c n : ℕ) (t : action? n ≡ true) (e : k ≡ n) where
  is : outcome N k a b c ≡ verdict (rule N n a b c)
  is = of-action N n k a b c t e

  not_taken : outcome N k a b c ≢ 0 → verdict (rule N n a b c) ≢ 0
  not_taken o z = o (is ∙ z)

  -- 3, or the number that is left
  left : (m : ℕ) {fit : Bool} {r : ℕ} → r ≡ cond fit m 3 → fit ≡ (rule N n a b c).operands → cond (rule N n a b c).operands m 3 ≡ verdict (rule N n a b c)
      → r ≡ outcome N k a b c
  left m r f v = r ∙ ap (λ (x : Bool). cond x m 3) f ∙ v ∙ sym is

pub of_ask-requires : goal.of_ask-requires
unfolding rule rules
of_ask-requires c = not_taken (net_of c.args.net.now) c.args.action c.args.a c.args.b c.args.c 2 refl c.in-2.is c.requires

pub of_refresh-requires : goal.of_refresh-requires
unfolding rule rules
of_refresh-requires c = not_taken (net_of c.args.net.now) c.args.action c.args.a c.args.b c.args.c 3 refl c.in-3.is c.requires

pub of_deliver-requires : goal.of_deliver-requires
unfolding rule rules
of_deliver-requires c = not_taken (net_of c.args.net.now) c.args.action c.args.a c.args.b c.args.c 4 refl c.in-4.is c.requires

pub returns-in-1 : goal.returns-in-1
unfolding rule rules book.tick
returns-in-1 c =
    left (net_of c.args.net.now) c.args.action c.args.a c.args.b c.args.c 1 refl c.in-1.is 5 c.or_operands.ensures c.of_group.ensures.value
    (is-3-or-5 _ refl refl (not_taken (net_of c.args.net.now) c.args.action c.args.a c.args.b c.args.c 1 refl c.in-1.is c.requires))

pub returns-in-2 : goal.returns-in-2
unfolding rule rules
returns-in-2 c = c.of_ask.ensures ∙ sym (is (net_of c.args.net.now) c.args.action c.args.a c.args.b c.args.c 2 refl c.in-2.is)

pub returns-in-3 : goal.returns-in-3
unfolding rule rules
returns-in-3 c = c.of_refresh.ensures ∙ sym (is (net_of c.args.net.now) c.args.action c.args.a c.args.b c.args.c 3 refl c.in-3.is)

pub returns-in-4 : goal.returns-in-4
unfolding rule rules
returns-in-4 c = c.of_deliver.ensures ∙ sym (is (net_of c.args.net.now) c.args.action c.args.a c.args.b c.args.c 4 refl c.in-4.is)

pub returns-in-5 : goal.returns-in-5
unfolding rule rules book.lose
returns-in-5 c =
    left (net_of c.args.net.now) c.args.action c.args.a c.args.b c.args.c 5 refl c.in-5.is 4 c.or_operands-in-5.ensures c.of_position.ensures.value
    (is-3-or-4 _ refl refl (not_taken (net_of c.args.net.now) c.args.action c.args.a c.args.b c.args.c 5 refl c.in-5.is c.requires))

pub returns-in-6 : goal.returns-in-6
unfolding rule rules book.give_up
returns-in-6 c =
    left (net_of c.args.net.now) c.args.action c.args.a c.args.b c.args.c 6 refl c.in-6.is 4 c.or_operands-in-6.ensures c.of_pair.ensures.value
    (is-3-or-4 _ refl refl (not_taken (net_of c.args.net.now) c.args.action c.args.a c.args.b c.args.c 6 refl c.in-6.is c.requires))

pub returns-in-7 : goal.returns-in-7
unfolding rule rules book.drop_child
returns-in-7 c =
    left (net_of c.args.net.now) c.args.action c.args.a c.args.b c.args.c 7 refl c.in-7.is 4 c.or_operands-in-7.ensures c.of_pair-in-7.ensures.value
    (is-3-or-4 _ refl refl (not_taken (net_of c.args.net.now) c.args.action c.args.a c.args.b c.args.c 7 refl c.in-7.is c.requires))

pub returns-in-8 : goal.returns-in-8
unfolding rule rules book.member
returns-in-8 c =
    left (net_of c.args.net.now) c.args.action c.args.a c.args.b c.args.c 8 refl c.in-8.is 4 c.or_operands-in-8.ensures c.of_flag.ensures.value
    (is-3-or-4 _ refl refl (not_taken (net_of c.args.net.now) c.args.action c.args.a c.args.b c.args.c 8 refl c.in-8.is c.requires))

pub returns-in-9 : goal.returns-in-9
unfolding rule rules book.route
returns-in-9 c =
    left (net_of c.args.net.now) c.args.action c.args.a c.args.b c.args.c 9 refl c.in-9.is 4 c.or_operands-in-9.ensures c.of_route.ensures.value
    (is-3-or-4 _ refl refl (not_taken (net_of c.args.net.now) c.args.action c.args.a c.args.b c.args.c 9 refl c.in-9.is c.requires))

pub returns-in-0 : goal.returns-in-0
returns-in-0 c = let a = c.args in
    let none : a.action ≡ 0 = omega arith in
    none-such (net_of a.net.now) a.action a.a a.b a.c (rw none refl)

pub returns-in-0-2 : goal.returns-in-0-2
returns-in-0-2 c = let a = c.args in
    let past : 10 ≤ a.action = omega arith in
    none-such (net_of a.net.now) a.action a.a a.b a.c
    (no-action a.action (omega arith) (omega arith) (omega arith) (omega arith) (omega arith) (omega arith) (omega arith) (omega arith) (omega arith))
