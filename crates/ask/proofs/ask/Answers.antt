use Rattle.std.proofs.Common.{◌≡◌, ◌<◌, ℕ, refl, sym, ap, ◌∙◌, true, arith}
use Rattle.bits.specs.Masks.{with}
use Rattle.protocol.specs.declared.Entry.{Entry}
use Rattle.protocol.specs.Net.{Net, most_stations, set_entry, send}
use Rattle.protocol.specs.Entries.{with_parents, with_waiting, asking}
use Rattle.protocol.specs.Rules.{room?}
use Rattle.protocol.specs.Rules as rule
use Rattle.protocol.specs.Shaped.{Shaped}
use Rattle.protocol.proofs.Shape.Actions.{cable, ask-near, ask-entry}
use Rattle.net.specs.View.{view}
use Rattle.net.specs.Encode.{bytes_like}
use Rattle.net.proofs.Forms.{seen}
use Rattle.access.specs.Inner.Nets.{EntryMade}
use Rattle.access.proofs.Laws.{made_then, made}
use Rattle.action.proofs.Ends.{ends-3, ends-4, ends-6, ends-0}
use Rattle.action.proofs.InRange.{route-small}
use Rattle.action.proofs.Posts.{may-send, sent}
use Rattle.ask.proofs.ask.Goals as goal
use Rattle.ask.proofs.ask.Goals.{After-may_ask, After-set_waiting}

pub returns-then-not-of_station : goal.returns-then-not-of_station
unfolding rule.ask
returns-then-not-of_station c = ends-3 _ _ (sym c.of_station.ensures.value ∙ c.if-not-of_station.true)

pub may_ask-requires : goal.may_ask-requires
may_ask-requires c =
    let a = c.args in
    let N = view a.net.now in
    let route = c.route_of-q.ensures ∙ ap (N.route a.p) c.root_of-root.ensures.0 in
    rw route (route-small N (seen _ _ c.requires.net.shape) a.p (N.root a.g))

-- the station asked is the one on the route to the root
asked : (c : After-may_ask) → c.route_of-q.result ≡ (view c.args.net.now).route c.args.p ((view c.args.net.now).root c.args.g)
asked c = c.route_of-q.ensures ∙ ap ((view c.args.net.now).route c.args.p) c.root_of-root.ensures.0

may : (c : After-may_ask) → let a = c.args in c.may_ask.result ≡ (rule.ask (view a.net.now) a.g a.p a.c).enabled
unfolding rule.ask
may c = rw (← asked c, ← c.entry-e.ensures, ← c.root_of-root.ensures.0) c.may_ask.ensures

near : (c : After-may_ask) → c.may_ask.result ≡ true → let N = view c.args.net.now in N.route c.args.p (N.root c.args.g) < N.stations
near c t =
    let a = c.args in
    let N = view a.net.now in
    let H = seen _ _ c.requires.net.shape in
    (cable N H a.p _ (ask-near N H a.g a.p a.c (sym (may c) ∙ t))).1

-- the net with the station asked noted in the entry of the one that asks
abbrev noted : (N : Net) (g p : ℕ) → Net
noted N g p = set_entry N g p (asking (N.entry g p) (N.route p (N.root g)))

shaped : (c : After-may_ask) → c.may_ask.result ≡ true → Shaped (noted (view c.args.net.now) c.args.g c.args.p)
unfolding rule.ask
shaped c t =
    let a = c.args in
    let operands = sym c.of_station.ensures.value ∙ c.if-not-of_station.false in
    ask-entry (view a.net.now) (seen _ _ c.requires.net.shape) a.g a.p a.c operands (sym (may c) ∙ t)

written : (c : After-set_waiting) → c.set_waiting.new.net ≡ bytes_like c.args.net.now (noted (view c.args.net.now) c.args.g c.args.p)
written c =
    let a = c.args in
    let N = view a.net.now in
    let had = N.entry a.g a.p in
    let in-range = c.of_station.ensures.g_bound c.if-not-of_station.false in
    let route = c.route_of-q.ensures ∙ ap (N.route a.p) c.root_of-root.ensures.0 in
    let mask = c.with.ensures ∙ (λ i. with (c.entry-e.ensures i).waiting (route i)) in
    let f : Entry → Entry = λ e. with_parents e e.parent c.route_of-q.result in
    let h : Entry → Entry = λ e. with_waiting e c.with.result in
    let both : EntryMade a.m a.net.now c.set_waiting.new.net a.g a.p (λ e. h (f e)) =
    made_then a.m a.g a.p _ _ _ f h c.set_tentative.ensures c.set_waiting.ensures in
    made _ c.requires.net a.m a.g a.p _ (λ e. h (f e)) c.requires.m_value in-range.0 in-range.1 both
    ∙ (λ i. bytes_like a.net.now (set_entry N a.g a.p (with_waiting (with_parents had had.parent (route i)) (mask i))))

pub returns-then-not-may_ask : goal.returns-then-not-may_ask
unfolding rule.ask
returns-then-not-may_ask c =
    let a = c.args in
    let x = (goal.at.returns-then-not-may_ask c).After-may_ask in
    ends-4 (rule.ask (view a.net.now) a.g a.p a.c) _ (sym c.of_station.ensures.value ∙ c.if-not-of_station.false) (sym (may x) ∙ c.if-not-may_ask.true)

pub has_room-requires : goal.has_room-requires
has_room-requires c =
    let x = (goal.at.has_room-requires c).After-may_ask in
    ((c.of_station.ensures.g_bound c.if-not-of_station.false).1, rw (asked x) (near x c.if-not-may_ask.false))

pub returns-then-not-has_room : goal.returns-then-not-has_room
unfolding rule.ask
returns-then-not-has_room c =
    let a = c.args in
    let N = view a.net.now in
    let x = (goal.at.returns-then-not-has_room c).After-may_ask in
    ends-6 (rule.ask N a.g a.p a.c) _ (sym c.of_station.ensures.value ∙ c.if-not-of_station.false) (sym (may x) ∙ c.if-not-may_ask.false) refl
    (sym (c.has_room.ensures ∙ ap (room? N a.p) (asked x)) ∙ c.if-not-has_room.true)

pub with-requires : goal.with-requires
with-requires c =
    let x = (goal.at.with-requires c).After-may_ask in
    let small : c.route_of-q.result < most_stations = rw (asked x) (omega (arith, near x c.if-not-may_ask.false, c.requires.net.stations_most)) in
    small

pub send-requires : goal.send-requires
send-requires c =
    let a = c.args in
    let N = view a.net.now in
    let y = (goal.at.send-requires c).After-may_ask in
    let wrote = written (goal.at.send-requires c).After-set_waiting in
    let room : room? N a.p (N.route a.p (N.root a.g)) ≡ true = sym (c.has_room.ensures ∙ ap (room? N a.p) (asked y)) ∙ c.if-not-has_room.false in
    let in-range = c.of_station.ensures.g_bound c.if-not-of_station.false in
    let sends = may-send _ a.g a.p _ (shaped y c.if-not-may_ask.false) _ wrote (N.route a.p (N.root a.g)) in-range.1 (near y c.if-not-may_ask.false) room in
    rw (asked y) (record { net = sends.0; s_bound = sends.1 })

pub returns : goal.returns
unfolding rule.ask
returns c =
    let a = c.args in
    let N = view a.net.now in
    let y = (goal.at.returns c).After-may_ask in
    let wrote = written (goal.at.returns c).After-set_waiting in
    let room : room? N a.p (N.route a.p (N.root a.g)) ≡ true = sym (c.has_room.ensures ∙ ap (room? N a.p) (asked y)) ∙ c.if-not-has_room.false in
    ends-0 _ _ refl refl
    (record { operands = sym c.of_station.ensures.value ∙ c.if-not-of_station.false; enabled = sym (may y) ∙ c.if-not-may_ask.false; clock_room = refl; send_room = room })
    (sent _ a.g a.p _ (shaped y c.if-not-may_ask.false) _ wrote _ _ _ c.send.ensures
    ∙ (λ i. bytes_like a.net.now (send (noted N a.g a.p) a.p (asked y i) (c.request_of.ensures i))))
