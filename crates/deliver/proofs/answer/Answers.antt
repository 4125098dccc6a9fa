use Rattle.std.proofs.Common.{◌≡◌, ◌<◌, sym, ap, subst, ◌∙◌, length, arith}
use borrow.Author.Tests.{ltb-true}
use Rattle.protocol.specs.declared.Entry.{Entry}
use Rattle.protocol.specs.Net.{Net, capacity, set_entry, set_channel, take_at, send}
use Rattle.protocol.specs.Entries.{with_child, with_children, reply_of}
use Rattle.protocol.specs.Rules.{room?, answered}
use Rattle.net.specs.View.{view}
use Rattle.net.specs.Encode.{bytes_like}
use Rattle.net.proofs.Forms.{seen}
use Rattle.access.specs.Inner.Nets.{IsNet}
use Rattle.access.proofs.Laws.{few, is-net-after, made_after}
use Rattle.deliver.proofs.Takes.{sender, receiver, grouped, taken, within, listed, room-kept}
use Rattle.deliver.proofs.answer.Goals as goal
use Rattle.deliver.proofs.answer.Goals.{After-set_children}

-- the net without the message, and with the sender listed
abbrev out : (c : After-set_children) → Net
out c = take_at (view c.args.net.now) c.args.s c.args.d 0

abbrev lists : (c : After-set_children) → Net
lists c = let a = c.args in set_entry (out c) a.g a.d (with_child ((view a.net.now).entry a.g a.d) a.s)

entry : (c : After-set_children) → c.with_child-e.result ≡ with_child ((view c.args.net.now).entry c.args.g c.args.d) c.args.s
unfolding take_at set_channel
entry c =
    let a = c.args in
    let N = view a.net.now in
    let H = seen _ _ c.requires.net.shape in
    let O = c.requires.may_deliver in
    c.with_child-e.ensures
    ∙ ap (λ (e : Entry). with_child e a.s) (c.entry.ensures ∙ ap (λ (M : Net). M.entry a.g a.d) (taken N H a.s a.d O _ _ c.take_at.ensures).1)

-- the bytes once the sender is listed
after : (c : After-set_children) → let l = c.set_children.new.net in
    (IsNet l) × (view l ≡ lists c) × ((M : Net) → bytes_like l M ≡ bytes_like c.args.net.now M)
unfolding take_at set_channel
after c =
    let a = c.args in
    let N = view a.net.now in
    let H = seen _ _ c.requires.net.shape in
    let O = c.requires.may_deliver in
    let r = c.requires.g_value in
    let written : c.set_children.new.net ≡ bytes_like a.net.now (lists c) =
    made_after a.m a.g a.d _ (out c) _ _ (λ (e : Entry). with_children e c.with_child-e.result.children) c.requires.m_value
    c.requires.net.stations_most c.requires.net.groups_most (grouped N H a.s a.d O a.g r.0) (receiver N H a.s a.d O) c.take_at.ensures c.set_children.ensures
    ∙ (λ i. bytes_like a.net.now (set_entry (out c) a.g a.d (with_children (N.entry a.g a.d) (entry c i).children))) in
    let w = is-net-after _ (lists c) _ (listed N H a.s a.d O a.g r.0) written in
    (w.0, w.1, w.2)

pub take_at-requires-clause-s_bound : goal.take_at-requires-clause-s_bound
take_at-requires-clause-s_bound c =
    let a = c.args in
    let N = view a.net.now in
    let H = seen _ _ c.requires.net.shape in
    let O = c.requires.may_deliver in
    (sender N H a.s a.d O, receiver N H a.s a.d O, O.some)

pub invariant_of-seen : goal.invariant_of-seen
invariant_of-seen c =
    let a = c.args in
    let N = view a.net.now in
    let H = seen _ _ c.requires.net.shape in
    let O = c.requires.may_deliver in
    let left = taken N H a.s a.d O _ _ c.take_at.ensures in
    record { is_net = left.0; is_marked = c.requires.m_value ∙ left.3 }

pub root_of-root-requires : goal.root_of-root-requires
root_of-root-requires c =
    let a = c.args in
    let N = view a.net.now in
    let H = seen _ _ c.requires.net.shape in
    let O = c.requires.may_deliver in
    (within N H a.s a.d O a.g c.requires.g_value.0 _ _ c.take_at.ensures).0

pub entry-requires : goal.entry-requires
entry-requires c =
    let a = c.args in
    let N = view a.net.now in
    let H = seen _ _ c.requires.net.shape in
    let O = c.requires.may_deliver in
    within N H a.s a.d O a.g c.requires.g_value.0 _ _ c.take_at.ensures

pub with_child-e-requires : goal.with_child-e-requires
with_child-e-requires c =
    let a = c.args in
    let N = view a.net.now in
    let H = seen _ _ c.requires.net.shape in
    let O = c.requires.may_deliver in
    omega (arith, sender N H a.s a.d O, c.requires.net.stations_most)

pub set_children-requires : goal.set_children-requires
set_children-requires c =
    let a = c.args in
    let N = view a.net.now in
    let H = seen _ _ c.requires.net.shape in
    let O = c.requires.may_deliver in
    let w = within N H a.s a.d O a.g c.requires.g_value.0 _ _ c.take_at.ensures in
    few _ (taken N H a.s a.d O _ _ c.take_at.ensures).0 _ _ w.0 w.1

pub send-requires : goal.send-requires
unfolding take_at set_channel set_entry room?
send-requires c =
    let a = c.args in
    let N = view a.net.now in
    let H = seen _ _ c.requires.net.shape in
    let O = c.requires.may_deliver in
    let left = after (goal.at.send-requires c).After-set_children in
    record {
      net = left.0;
      s_bound = subst (λ (M : Net). (a.d < M.stations) × (a.s < M.stations) × (length (M.channel a.d a.s) < capacity)) (sym left.1)
          (receiver N H a.s a.d O, sender N H a.s a.d O, ltb-true _ _ (room-kept N H a.s a.d O c.requires.g_value.1));
    }

pub returns : goal.returns
unfolding answered take_at set_channel
returns c =
    let a = c.args in
    let N = view a.net.now in
    let H = seen _ _ c.requires.net.shape in
    let O = c.requires.may_deliver in
    let x = (goal.at.returns c).After-set_children in
    let left = after x in
    let root : c.root_of-root.result ≡ N.root a.g =
    c.root_of-root.ensures.0 ∙ ap (λ (M : Net). M.root a.g) (taken N H a.s a.d O _ _ c.take_at.ensures).1 in
    let m = c.reply_of.ensures ∙ (λ i. reply_of a.g (root i) a.d (entry x i)) in
    c.send.ensures ∙ left.2 _ ∙ (λ i. bytes_like a.net.now (send (left.1 i) a.d a.s (m i)))
