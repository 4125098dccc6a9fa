use Rattle.std.proofs.Common.{◌≡◌, ◌<◌, ℕ, refl, sym, ap, ◌∙◌, true, arith}
use Rattle.bits.specs.Masks.{with}
use Rattle.protocol.specs.declared.Entry.{Entry}
use Rattle.protocol.specs.Net.{Net, most_stations, set_entry, send}
use Rattle.protocol.specs.Entries.{with_waiting, waits_on}
use Rattle.protocol.specs.Rules.{room?}
use Rattle.protocol.specs.Rules as rule
use Rattle.protocol.specs.Shaped.{Shaped}
use Rattle.protocol.proofs.Shape.Actions.{cable, refresh-near, refresh-entry}
use Rattle.net.specs.View.{view}
use Rattle.net.specs.Encode.{bytes_like}
use Rattle.net.proofs.Forms.{seen}
use Rattle.access.proofs.Laws.{made}
use Rattle.action.proofs.Ends.{ends-3, ends-4, ends-6, ends-0}
use Rattle.action.proofs.InRange.{parent-small}
use Rattle.action.proofs.Posts.{may-send, sent}
use Rattle.refresh.proofs.refresh.Goals as goal
use Rattle.refresh.proofs.refresh.Goals.{After-may_refresh, After-set_waiting}

pub returns-then-not-of_station : goal.returns-then-not-of_station
unfolding rule.refresh
returns-then-not-of_station c = ends-3 _ _ (sym c.of_station.ensures.value ∙ c.if-not-of_station.true)

pub may_refresh-requires : goal.may_refresh-requires
may_refresh-requires c =
    let a = c.args in
    rw c.entry-e.ensures (parent-small (view a.net.now) (seen _ _ c.requires.net.shape) a.g a.p)

pub returns-then-not-may_refresh : goal.returns-then-not-may_refresh
unfolding rule.refresh
returns-then-not-may_refresh c =
    let a = c.args in
    ends-4 (rule.refresh (view a.net.now) a.g a.p a.c) _ (sym c.of_station.ensures.value ∙ c.if-not-of_station.false)
    (rw (← c.entry-e.ensures) (sym c.may_refresh.ensures ∙ c.if-not-may_refresh.true))

enabled : (c : After-may_refresh) → c.may_refresh.result ≡ true → let a = c.args in (rule.refresh (view a.net.now) a.g a.p a.c).enabled ≡ true
unfolding rule.refresh
enabled c t = rw (← c.entry-e.ensures) (sym c.may_refresh.ensures ∙ t)

near : (c : After-may_refresh) → c.may_refresh.result ≡ true → let N = view c.args.net.now in (N.entry c.args.g c.args.p).parent < N.stations
near c t =
    let a = c.args in
    let N = view a.net.now in
    let H = seen _ _ c.requires.net.shape in
    (cable N H a.p _ (refresh-near N H a.g a.p a.c (enabled c t))).1

-- the net once the station waits on its parent
abbrev waits : (N : Net) (g p : ℕ) → Net
waits N g p = set_entry N g p (waits_on (N.entry g p) (N.entry g p).parent)

shaped : (c : After-may_refresh) → c.may_refresh.result ≡ true → Shaped (waits (view c.args.net.now) c.args.g c.args.p)
unfolding rule.refresh
shaped c t =
    let a = c.args in
    let operands = sym c.of_station.ensures.value ∙ c.if-not-of_station.false in
    refresh-entry (view a.net.now) (seen _ _ c.requires.net.shape) a.g a.p a.c operands (enabled c t)

written : (c : After-set_waiting) → c.set_waiting.new.net ≡ bytes_like c.args.net.now (waits (view c.args.net.now) c.args.g c.args.p)
written c =
    let a = c.args in
    let N = view a.net.now in
    let in-range = c.of_station.ensures.g_bound c.if-not-of_station.false in
    let mask = c.with.ensures ∙ ap (λ (e : Entry). with e.waiting e.parent) c.entry-e.ensures in
    made _ c.requires.net a.m a.g a.p _ (λ (e : Entry). with_waiting e c.with.result) c.requires.m_value in-range.0 in-range.1 c.set_waiting.ensures
    ∙ (λ i. bytes_like a.net.now (set_entry N a.g a.p (with_waiting (N.entry a.g a.p) (mask i))))

pub has_room-requires : goal.has_room-requires
has_room-requires c =
    let x = (goal.at.has_room-requires c).After-may_refresh in
    ((c.of_station.ensures.g_bound c.if-not-of_station.false).1, rw c.entry-e.ensures (near x c.if-not-may_refresh.false))

pub returns-then-not-has_room : goal.returns-then-not-has_room
unfolding rule.refresh
returns-then-not-has_room c =
    let a = c.args in
    let N = view a.net.now in
    let x = (goal.at.returns-then-not-has_room c).After-may_refresh in
    ends-6 (rule.refresh N a.g a.p a.c) _ (sym c.of_station.ensures.value ∙ c.if-not-of_station.false) (enabled x c.if-not-may_refresh.false) refl
    (rw (← c.entry-e.ensures) (sym c.has_room.ensures ∙ c.if-not-has_room.true))

pub with-requires : goal.with-requires
with-requires c =
    let x = (goal.at.with-requires c).After-may_refresh in
    let small : c.entry-e.result.parent < most_stations =
    rw c.entry-e.ensures (omega (arith, near x c.if-not-may_refresh.false, c.requires.net.stations_most)) in
    small

pub send-requires : goal.send-requires
send-requires c =
    let a = c.args in
    let N = view a.net.now in
    let x = (goal.at.send-requires c).After-may_refresh in
    let in-range = c.of_station.ensures.g_bound c.if-not-of_station.false in
    let room : room? N a.p (N.entry a.g a.p).parent ≡ true =
    sym (c.has_room.ensures ∙ ap (λ (e : Entry). room? N a.p e.parent) c.entry-e.ensures) ∙ c.if-not-has_room.false in
    let sends = may-send _ a.g a.p _ (shaped x c.if-not-may_refresh.false) _ (written (goal.at.send-requires c).After-set_waiting)
    (N.entry a.g a.p).parent in-range.1 (near x c.if-not-may_refresh.false) room in
    rw c.entry-e.ensures (record { net = sends.0; s_bound = sends.1 })

pub returns : goal.returns
unfolding rule.refresh
returns c =
    let a = c.args in
    let N = view a.net.now in
    let x = (goal.at.returns c).After-may_refresh in
    let room : room? N a.p (N.entry a.g a.p).parent ≡ true =
    sym (c.has_room.ensures ∙ ap (λ (e : Entry). room? N a.p e.parent) c.entry-e.ensures) ∙ c.if-not-has_room.false in
    ends-0 _ _ refl refl
    (record { operands = sym c.of_station.ensures.value ∙ c.if-not-of_station.false; enabled = enabled x c.if-not-may_refresh.false; clock_room = refl; send_room = room })
    (sent _ a.g a.p _ (shaped x c.if-not-may_refresh.false) _ (written (goal.at.returns c).After-set_waiting) _ _ _ c.send.ensures
    ∙ (λ i. bytes_like a.net.now
    (send (set_entry N a.g a.p (waits_on (N.entry a.g a.p) (N.entry a.g a.p).parent)) a.p (c.entry-e.ensures i).parent (c.request_of.ensures i))))
