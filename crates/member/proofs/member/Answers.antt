use Rattle.std.proofs.Common.{◌≡◌, refl, sym, ap, ◌∙◌, eqb, cond, ◌||◌}
use Rattle.protocol.specs.declared.Entry.{Entry}
use Rattle.protocol.specs.Net.{set_entry}
use Rattle.protocol.specs.Entries.{with_member, joins, leave, stay_or_leave}
use Rattle.protocol.specs.Rules as rule
use Rattle.net.specs.View.{view}
use Rattle.net.specs.Encode.{bytes_like}
use Rattle.access.specs.Inner.Nets.{EntryMade}
use Rattle.access.proofs.Laws.{made_then, made}
use Rattle.action.proofs.Ends.{ends-3, ends-0}
use Rattle.member.proofs.member.Goals as goal

pub returns-then-not-of_flag : goal.returns-then-not-of_flag
unfolding rule.member
returns-then-not-of_flag c = ends-3 _ _ (sym c.of_flag.ensures.value ∙ c.if-not-of_flag.true)

pub returns : goal.returns
unfolding rule.member stay_or_leave
returns c =
    let a = c.args in
    let N = view a.net.now in
    let in-range = c.of_flag.ensures.g_bound c.if-not-of_flag.false in
    let root = c.root_of-root in
    let put = with_member (N.entry a.g a.p) a.v in
    let e = c.with_member-e.result in
    let entry : e ≡ put = c.with_member-e.ensures ∙ ap (λ (e : Entry). with_member e a.v) c.entry.ensures in
    let f : Entry → Entry = λ e. with_member e a.v in
    let h : Entry → Entry = λ x. cond (eqb a.p root.result || joins e) x (leave x) in
    let both : EntryMade a.m a.net.now c.stay_or_leave.new.net a.g a.p (λ e. h (f e)) =
    made_then a.m a.g a.p _ _ _ f h c.set_member.ensures c.stay_or_leave.ensures in
    ends-0 _ _ refl refl
    (record { operands = sym c.of_flag.ensures.value ∙ c.if-not-of_flag.false; enabled = refl; clock_room = refl; send_room = refl })
    (made _ c.requires.net a.m a.g a.p _ (λ e. h (f e)) c.requires.m_value in-range.0 in-range.1 both
    ∙ (λ i. bytes_like a.net.now (set_entry N a.g a.p (cond (eqb a.p (root.ensures.0 i) || joins (entry i)) put (leave put)))))
