use Rattle.std.proofs.Common.{◌≡◌, refl, sym, ap, ◌∙◌, eqb, cond, ◌||◌}
use Rattle.protocol.specs.declared.Entry.{Entry}
use Rattle.protocol.specs.Net.{set_entry}
use Rattle.protocol.specs.Entries.{with_children, without_child, joins, leave, stay_or_leave}
use Rattle.protocol.specs.Rules as rule
use Rattle.net.specs.View.{view}
use Rattle.net.specs.Encode.{bytes_like}
use Rattle.access.specs.Inner.Nets.{EntryMade}
use Rattle.access.proofs.Laws.{made_then, made}
use Rattle.action.proofs.Ends.{ends-3, ends-4, ends-0}
use Rattle.drop_child.proofs.drop_child.Goals as goal

pub returns-then-not-of_pair : goal.returns-then-not-of_pair
unfolding rule.drop_child
returns-then-not-of_pair c = ends-3 _ _ (sym c.of_pair.ensures.value ∙ c.if-not-of_pair.true)

pub returns-then-not-may_drop : goal.returns-then-not-may_drop
unfolding rule.drop_child
returns-then-not-may_drop c =
    ends-4 _ _ (sym c.of_pair.ensures.value ∙ c.if-not-of_pair.false) (sym c.may_drop.ensures ∙ c.if-not-may_drop.true)

pub returns : goal.returns
unfolding rule.drop_child stay_or_leave
returns c =
    let a = c.args in
    let N = view a.net.now in
    let in-range = c.of_pair.ensures.g_bound c.if-not-of_pair.false in
    let root = c.root_of-root in
    let e = c.without_child-e.result in
    let entry : e ≡ without_child (N.entry a.g a.p) a.x = c.without_child-e.ensures ∙ ap (λ (e : Entry). without_child e a.x) c.entry.ensures in
    let f : Entry → Entry = λ x. with_children x e.children in
    let h : Entry → Entry = λ x. cond (eqb a.p root.result || joins e) x (leave x) in
    let both : EntryMade a.m a.net.now c.stay_or_leave.new.net a.g a.p (λ x. h (f x)) =
    made_then a.m a.g a.p _ _ _ f h c.set_children.ensures c.stay_or_leave.ensures in
    let put : Entry → Entry = λ x. with_children (N.entry a.g a.p) x.children in
    ends-0 _ _ refl refl
    (record {
      operands = sym c.of_pair.ensures.value ∙ c.if-not-of_pair.false;
      enabled = sym c.may_drop.ensures ∙ c.if-not-may_drop.false;
      clock_room = refl;
      send_room = refl;
    })
    (made _ c.requires.net a.m a.g a.p _ (λ x. h (f x)) c.requires.m_value in-range.0 in-range.1 both
    ∙ (λ i. bytes_like a.net.now
    (set_entry N a.g a.p (cond (eqb a.p (root.ensures.0 i) || joins (entry i)) (put (entry i)) (leave (put (entry i)))))))
