use Rattle.std.proofs.Common.{Bool, cond, sym, subst, ◌∙◌}
use Rattle.protocol.specs.declared.Entry.{Entry}
use Rattle.protocol.specs.Net.{nil}
use Rattle.protocol.specs.Entries.{with_parents, leave}
use Rattle.access.specs.Inner.Nets.{EntryMade}
use Rattle.access.proofs.Laws.{made-same, made_then}
use Rattle.action.proofs.leave.stay_or_leave.Goals as goal

pub returns-then-not-stays : goal.returns-then-not-stays
returns-then-not-stays c =
    let a = c.args in
    let no = sym c.stays.ensures ∙ c.if-not-stays.true in
    subst (λ (b : Bool). EntryMade a.m a.net.now c.set_tentative.new.net a.g a.p (λ e. cond b e (leave e))) (sym no)
    (made_then a.m a.g a.p _ _ _ (λ (e : Entry). with_parents e nil e.tentative) (λ (e : Entry). with_parents e e.parent nil)
    c.set_parent.ensures c.set_tentative.ensures)

pub returns-else-not-stays : goal.returns-else-not-stays
returns-else-not-stays c =
    let a = c.args in
    let yes· = sym c.stays.ensures ∙ c.if-not-stays.false in
    subst (λ (b : Bool). EntryMade a.m a.net.now a.net.now a.g a.p (λ e. cond b e (leave e))) (sym yes·) (made-same a.m a.g a.p a.net.now)
