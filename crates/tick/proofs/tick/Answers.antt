use Rattle.std.proofs.Common.{refl, sym, ap, ◌∙◌, ◌+◌, ltb}
use borrow.Author.Tests.{lt-ltb, le-ltb}
use Rattle.protocol.specs.declared.Entry.{Entry}
use Rattle.protocol.specs.Net.{largest_clock, set_entry}
use Rattle.protocol.specs.Entries.{with_clock}
use Rattle.protocol.specs.Rules as rule
use Rattle.net.specs.View.{view}
use Rattle.net.specs.Encode.{bytes_like}
use Rattle.access.proofs.Laws.{made}
use Rattle.action.proofs.Ends.{ends-3, ends-5, ends-0}
use Rattle.tick.proofs.tick.Goals as goal

pub returns-then-not-of_group : goal.returns-then-not-of_group
unfolding rule.tick
returns-then-not-of_group c = ends-3 _ _ (sym c.of_group.ensures.value ∙ c.if-not-of_group.true)

pub returns-then-clock-ge-LARGEST_CLOCK : goal.returns-then-clock-ge-LARGEST_CLOCK
unfolding rule.tick
returns-then-clock-ge-LARGEST_CLOCK c =
    let N = view c.args.net.now in
    let g = c.args.g in
    let entry = c.entry-clock.ensures ∙ ap (N.entry g) c.root_of-root.ensures.0 in
    ends-5 _ _ (sym c.of_group.ensures.value ∙ c.if-not-of_group.false) refl
    (ap (λ (e : Entry). ltb e.clock largest_clock) (sym entry) ∙ le-ltb _ _ c.if-clock-ge-LARGEST_CLOCK.true)

pub returns : goal.returns
unfolding rule.tick
returns c =
    let a = c.args in
    let N = view a.net.now in
    let g = a.g in
    let root = c.root_of-root in
    let entry = c.entry-clock.ensures ∙ ap (N.entry g) root.ensures.0 in
    ends-0 _ _ refl refl
    (record {
      operands = sym c.of_group.ensures.value ∙ c.if-not-of_group.false;
      enabled = refl;
      clock_room = ap (λ (e : Entry). ltb e.clock largest_clock) (sym entry) ∙ lt-ltb _ _ c.if-clock-ge-LARGEST_CLOCK.false;
      send_room = refl;
    })
    (made _ c.requires.net a.m g root.result _ (λ (e : Entry). with_clock e (c.entry-clock.result.clock + 1)) c.requires.m_value
    (c.of_group.ensures.g_bound c.if-not-of_group.false) root.ensures.1 c.set_clock.ensures
    ∙ (λ i. bytes_like a.net.now (set_entry N g (root.ensures.0 i) (with_clock (N.entry g (root.ensures.0 i)) ((entry i).clock + 1)))))
