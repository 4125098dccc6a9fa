use Rattle.std.proofs.Common.{refl, sym, ap, ◌∙◌}
use Rattle.bits.specs.Masks.{without}
use Rattle.protocol.specs.declared.Entry.{Entry}
use Rattle.protocol.specs.Net.{set_entry}
use Rattle.protocol.specs.Entries.{with_waiting}
use Rattle.protocol.specs.Rules as rule
use Rattle.net.specs.View.{view}
use Rattle.net.specs.Encode.{bytes_like}
use Rattle.access.proofs.Laws.{made}
use Rattle.action.proofs.Ends.{ends-3, ends-4, ends-0}
use Rattle.give_up.proofs.give_up.Goals as goal

pub returns-then-not-of_pair : goal.returns-then-not-of_pair
unfolding rule.give_up
returns-then-not-of_pair c = ends-3 _ _ (sym c.of_pair.ensures.value ∙ c.if-not-of_pair.true)

pub returns-then-not-may_give_up : goal.returns-then-not-may_give_up
unfolding rule.give_up
returns-then-not-may_give_up c =
    ends-4 _ _ (sym c.of_pair.ensures.value ∙ c.if-not-of_pair.false) (sym c.may_give_up.ensures ∙ c.if-not-may_give_up.true)

pub returns : goal.returns
unfolding rule.give_up
returns c =
    let a = c.args in
    let N = view a.net.now in
    let in-range = c.of_pair.ensures.g_bound c.if-not-of_pair.false in
    let mask = c.without.ensures ∙ ap (λ (e : Entry). without e.waiting a.q) c.entry-e.ensures in
    ends-0 _ _ refl refl
    (record {
      operands = sym c.of_pair.ensures.value ∙ c.if-not-of_pair.false;
      enabled = sym c.may_give_up.ensures ∙ c.if-not-may_give_up.false;
      clock_room = refl;
      send_room = refl;
    })
    (made _ c.requires.net a.m a.g a.p _ (λ (e : Entry). with_waiting e c.without.result) c.requires.m_value in-range.0 in-range.1 c.set_waiting.ensures
    ∙ (λ i. bytes_like a.net.now (set_entry N a.g a.p (with_waiting (N.entry a.g a.p) (mask i)))))
