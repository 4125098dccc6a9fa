use Rattle.std.proofs.Common.{◌≡◌, ◌<◌, sym, ap, subst, ◌∙◌, arith}
use Rattle.bits.specs.Masks.{without}
use Rattle.protocol.specs.declared.Entry.{Entry}
use Rattle.protocol.specs.Net.{Net, station?, near?, set_entry}
use Rattle.protocol.specs.Cases.{case_of}
use Rattle.protocol.specs.Entries.{with_waiting, stops_waiting, adopting, hearing}
use Rattle.protocol.specs.Rules.{oldest, heard, case_at}
use Rattle.protocol.proofs.Laws.Maps.{upd2-hit, set-again}
use Rattle.net.specs.View.{view}
use Rattle.net.specs.Encode.{bytes_like}
use Rattle.net.proofs.Forms.{seen}
use Rattle.access.specs.Inner.Nets.{IsNet}
use Rattle.access.proofs.Laws.{few, is-net-after, made_after, made}
use Rattle.deliver.specs.Inner.MayDeliver.{MayDeliver}
use Rattle.deliver.proofs.Takes.{sender, receiver, grouped, waited}
use Rattle.deliver.proofs.Adopts.{takes}
use Rattle.deliver.proofs.listen.Goals as goal
use Rattle.deliver.proofs.listen.Goals.{After-set_waiting}

abbrev had : (c : After-set_waiting) → Entry
had c = (view c.args.net.now).entry c.args.reply.group c.args.d

-- the net once the receiver waits on the sender no longer
abbrev waits : (c : After-set_waiting) → Net
waits c = let a = c.args in set_entry (view a.net.now) a.reply.group a.d (stops_waiting (had c) a.s)

written : (c : After-set_waiting) → c.set_waiting.new.net ≡ bytes_like c.args.net.now (waits c)
written c =
    let a = c.args in
    let N = view a.net.now in
    let H = seen _ _ c.requires.net.shape in
    let O = c.requires.may_deliver in
    let g = a.reply.group in
    let mask = c.without.ensures ∙ ap (λ (e : Entry). without e.waiting a.s) c.entry-e.ensures in
    made _ c.requires.net a.m g a.d _ (λ (e : Entry). with_waiting e c.without.result) c.requires.m_value
    (grouped N H a.s a.d O g (λ i. (c.requires.reply_value i).group)) (receiver N H a.s a.d O) c.set_waiting.ensures
    ∙ (λ i. bytes_like a.net.now (set_entry N g a.d (with_waiting (had c) (mask i))))

after : (c : After-set_waiting) → let l = c.set_waiting.new.net in
    (IsNet l) × (view l ≡ waits c) × ((M : Net) → bytes_like l M ≡ bytes_like c.args.net.now M)
after c =
    let a = c.args in
    let N = view a.net.now in
    let H = seen _ _ c.requires.net.shape in
    let w = is-net-after _ (waits c) _ (waited N H a.s a.d c.requires.may_deliver a.reply.group (λ i. (c.requires.reply_value i).group)) (written c) in
    (w.0, w.1, w.2)

pub entry-e-requires : goal.entry-e-requires
entry-e-requires c =
    let a = c.args in
    let N = view a.net.now in
    let H = seen _ _ c.requires.net.shape in
    let O = c.requires.may_deliver in
    let g = a.reply.group in
    let in-groups = grouped N H a.s a.d O g (λ i. (c.requires.reply_value i).group) in
    let to = receiver N H a.s a.d O in
    (in-groups, to)

pub without-requires : goal.without-requires
without-requires c =
    let a = c.args in
    let N = view a.net.now in
    let H = seen _ _ c.requires.net.shape in
    let O = c.requires.may_deliver in
    omega (arith, sender N H a.s a.d O, receiver N H a.s a.d O, c.requires.net.stations_most)

pub set_waiting-requires : goal.set_waiting-requires
set_waiting-requires c =
    let a = c.args in
    let N = view a.net.now in
    let H = seen _ _ c.requires.net.shape in
    let O = c.requires.may_deliver in
    let g = a.reply.group in
    let in-groups = grouped N H a.s a.d O g (λ i. (c.requires.reply_value i).group) in
    let to = receiver N H a.s a.d O in
    few _ c.requires.net _ _ in-groups to

pub adopt-requires : goal.adopt-requires
unfolding set_entry near? station?
adopt-requires c =
    let a = c.args in
    let N = view a.net.now in
    let H = seen _ _ c.requires.net.shape in
    let O = c.requires.may_deliver in
    let x = (goal.at.adopt-requires c).After-set_waiting in
    let left = after x in
    let may : (MayDeliver (waits x) a.s a.d) × (a.reply.group < N.groups) =
    (record { between = O.between; some = O.some }, grouped N H a.s a.d O a.reply.group (λ i. (c.requires.reply_value i).group)) in
    let kept = subst (λ (M : Net). (MayDeliver M a.s a.d) × (a.reply.group < M.groups)) (sym left.1) may in
    record { net = left.0; may_deliver = kept.0; g_bound = kept.1 }

pub returns-then-eq : goal.returns-then-eq
unfolding heard case_at hearing set_entry
returns-then-eq c =
    let a = c.args in
    let N = view a.net.now in
    let H = seen _ _ c.requires.net.shape in
    let O = c.requires.may_deliver in
    let g = a.reply.group in
    let x = (goal.at.returns-then-eq c).After-set_waiting in
    let told : c.case_of-case.result ≡ case_of (had x) a.s a.reply =
    c.case_of-case.ensures ∙ ap (λ (e : Entry). case_of e a.s a.reply) c.entry-e.ensures in
    let e = stops_waiting (had x) a.s in
    let taken = sym (takes (had x) a.s a.reply c.eq.ensures told) ∙ c.if-eq.true in
    let there : (waits x).entry g a.d ≡ e = upd2-hit N.entry g a.d e in
    let same : oldest (view c.set_waiting.new.net).channel a.s a.d ≡ a.reply =
    ap (λ (M : Net). oldest M.channel a.s a.d) (after x).1 ∙ sym c.requires.reply_value in
    let put = made_after a.m g a.d _ (waits x) _ _ (λ (e : Entry). adopting e a.s (oldest (view c.set_waiting.new.net).channel a.s a.d)) c.requires.m_value
    c.requires.net.stations_most c.requires.net.groups_most
    (grouped N H a.s a.d O g (λ i. (c.requires.reply_value i).group)) (receiver N H a.s a.d O) (written x) c.adopt.ensures
    ∙ (λ i. bytes_like a.net.now (set_entry (waits x) g a.d (adopting (there i) a.s (same i))))
    ∙ ap (bytes_like a.net.now) (set-again N g a.d e (adopting e a.s a.reply)) in
    (told, rw taken put)

pub returns-else-eq : goal.returns-else-eq
unfolding heard case_at hearing
returns-else-eq c =
    let a = c.args in
    let x = (goal.at.returns-else-eq c).After-set_waiting in
    let told : c.case_of-case.result ≡ case_of (had x) a.s a.reply =
    c.case_of-case.ensures ∙ ap (λ (e : Entry). case_of e a.s a.reply) c.entry-e.ensures in
    (told, rw (sym (takes (had x) a.s a.reply c.eq.ensures told) ∙ c.if-eq.false) (written x))
