use Rattle.std.proofs.Common.{◌≡◌, subst}
use Rattle.protocol.specs.declared.Entry.{Entry}
use Rattle.protocol.specs.declared.Message.{Message}
use Rattle.protocol.specs.Entries.{with_parents, with_clock, adopting}
use Rattle.protocol.specs.Rules.{oldest}
use Rattle.net.specs.View.{view}
use Rattle.net.proofs.Forms.{seen}
use Rattle.access.specs.Inner.Nets.{EntryMade}
use Rattle.access.proofs.Laws.{few, made_then}
use Rattle.deliver.proofs.Takes.{sender, receiver}
use Rattle.deliver.proofs.adopt.Goals as goal

pub oldest-reply-requires : goal.oldest-reply-requires
oldest-reply-requires c =
    let a = c.args in
    let N = view a.net.now in
    let H = seen _ _ c.requires.net.shape in
    let O = c.requires.may_deliver in
    rw c.of.ensures (sender N H a.s a.d O, receiver N H a.s a.d O, O.some)

pub set_clock-requires : goal.set_clock-requires
set_clock-requires c =
    let a = c.args in
    let H = seen _ _ c.requires.net.shape in
    few _ c.requires.net _ _ c.requires.g_bound (receiver (view a.net.now) H a.s a.d c.requires.may_deliver)

pub set_parent-requires : goal.set_parent-requires
set_parent-requires c =
    let a = c.args in
    let H = seen _ _ c.requires.net.shape in
    few _ c.requires.net _ _ c.requires.g_bound (receiver (view a.net.now) H a.s a.d c.requires.may_deliver)

pub returns : goal.returns
returns c =
    let a = c.args in
    let read : c.oldest-reply.result ≡ oldest (view a.net.now).channel a.s a.d = rw (← c.of.ensures) c.oldest-reply.ensures in
    subst (λ (m : Message). EntryMade a.m a.net.now c.set_parent.new.net a.g a.d (λ (e : Entry). adopting e a.s m)) read
    (made_then a.m a.g a.d _ _ _ (λ (e : Entry). with_clock e c.oldest-reply.result.clock) (λ (e : Entry). with_parents e a.s e.tentative)
    c.set_clock.ensures c.set_parent.ensures)
