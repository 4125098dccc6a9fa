use Rattle.std.proofs.Common.{◌≡◌, ◌<◌, ℕ, refl, sym, ap, subst, ◌∙◌, true, length, arith}
use borrow.Author.Tests.{lt-ltb}
use Rattle.bits.proofs.Cases.{and_l}
use Rattle.protocol.specs.declared.Message.{Message}
use Rattle.protocol.specs.Net.{take_at}
use Rattle.protocol.specs.Rules.{oldest, room?, answered, heard, case_at}
use Rattle.protocol.specs.Rules as rule
use Rattle.net.specs.View.{view}
use Rattle.net.specs.Encode.{bytes_like}
use Rattle.action.proofs.Ends.{ends-3, ends-4, ends-6}
use Rattle.deliver.specs.Inner.MayDeliver.{MayDeliver}
use Rattle.deliver.proofs.Delivers.{request-ends, reply-ends}
use Rattle.deliver.proofs.deliver.Goals as goal
use Rattle.deliver.proofs.deliver.Goals.{After-oldest-oldest}

-- what the tests before the oldest message is looked at have told
operands : (c : After-oldest-oldest) → let a = c.args in (rule.deliver (view a.net.now) a.s a.d a.c).operands ≡ true
unfolding rule.deliver
operands c = sym c.of_cable.ensures.value ∙ c.if-not-of_cable.false

some : (c : After-oldest-oldest) → let a = c.args in 0 < length ((view a.net.now).channel a.s a.d)
some c = subst (λ (n : ℕ). 0 < n) c.in_channel.ensures (omega (arith, c.if-in_channel-eq0.false))

may : (c : After-oldest-oldest) → let a = c.args in MayDeliver (view a.net.now) a.s a.d
unfolding rule.deliver
may c = let t = operands c in record { between = search (and_l); some = some c }

kind : (c : After-oldest-oldest) → let a = c.args in c.oldest-oldest.result.kind ≡ (oldest (view a.net.now).channel a.s a.d).kind
kind c = ap (λ (m : Message). m.kind) c.oldest-oldest.ensures

pub returns-then-not-of_cable : goal.returns-then-not-of_cable
unfolding rule.deliver
returns-then-not-of_cable c = ends-3 _ _ (sym c.of_cable.ensures.value ∙ c.if-not-of_cable.true)

pub returns-then-in_channel-eq0 : goal.returns-then-in_channel-eq0
unfolding rule.deliver
returns-then-in_channel-eq0 c =
    ends-4 _ _ (sym c.of_cable.ensures.value ∙ c.if-not-of_cable.false) (rw (sym c.in_channel.ensures ∙ c.if-in_channel-eq0.true) refl)

pub oldest-oldest-requires : goal.oldest-oldest-requires
oldest-oldest-requires c =
    let a = c.args in
    let w = c.of_cable.ensures.s_bound c.if-not-of_cable.false in
    (w.0, w.1, subst (λ (n : ℕ). 0 < n) c.in_channel.ensures (omega (arith, c.if-in_channel-eq0.false)))

pub returns-then-not-has_room : goal.returns-then-not-has_room
unfolding rule.deliver
returns-then-not-has_room c =
    let a = c.args in
    let N = view a.net.now in
    let x = (goal.at.returns-then-not-has_room c).After-oldest-oldest in
    ends-6 (rule.deliver N a.s a.d a.c) _ (operands x) (lt-ltb _ _ (some x)) refl
    (rw (sym (kind x) ∙ c.if-oldest-eq-REQUEST.true) (sym c.has_room.ensures ∙ c.if-not-has_room.true))

pub answer-requires : goal.answer-requires
unfolding rule.deliver
answer-requires c =
    let x = (goal.at.answer-requires c).After-oldest-oldest in
    record {
      net = c.requires.net;
      m_value = c.requires.m_value;
      may_deliver = may x;
      g_value = ((λ i. (c.oldest-oldest.ensures i).group), sym c.has_room.ensures ∙ c.if-not-has_room.false);
    }

pub returns-then-oldest-eq-REQUEST : goal.returns-then-oldest-eq-REQUEST
unfolding rule.deliver
returns-then-oldest-eq-REQUEST c =
    let a = c.args in
    let N = view a.net.now in
    let x = (goal.at.returns-then-oldest-eq-REQUEST c).After-oldest-oldest in
    request-ends N _ a.s a.d a.c (operands x) (lt-ltb _ _ (some x)) (sym (kind x) ∙ c.if-oldest-eq-REQUEST.true) (sym c.has_room.ensures ∙ c.if-not-has_room.false)
    (c.answer.ensures ∙ (λ i. bytes_like a.net.now (answered (take_at N a.s a.d 0) (c.oldest-oldest.ensures i).group a.s a.d)))

pub hear-requires : goal.hear-requires
unfolding rule.deliver
hear-requires c =
    let x = (goal.at.hear-requires c).After-oldest-oldest in
    record { net = c.requires.net; m_value = c.requires.m_value; may_deliver = may x; reply_value = c.oldest-oldest.ensures }

pub returns : goal.returns
unfolding rule.deliver
returns c =
    let a = c.args in
    let N = view a.net.now in
    let x = (goal.at.returns c).After-oldest-oldest in
    reply-ends N _ a.s a.d a.c (operands x) (lt-ltb _ _ (some x)) (λ i. c.if-oldest-eq-REQUEST.false (kind x ∙ i))
    (c.hear.ensures.0 ∙ ap (case_at N a.s a.d) c.oldest-oldest.ensures)
    (c.hear.ensures.1 ∙ ap (λ (m : Message). bytes_like a.net.now (heard (take_at N a.s a.d 0) a.s a.d m)) c.oldest-oldest.ensures)
