-- The nine actions, each as its tests and the net that it leads to.
use Rattle.std.specs.Prelude.{Bool, true, cond, not, ◌&&◌, ◌||◌, List, [], ◌∷◌, ℕ, eqb, ltb, length, get_or}
use Rattle.bits.specs.Sums.{bit}
use Rattle.bits.specs.Masks.{has}
use Rattle.protocol.specs.declared.Case.{Case}
use Rattle.protocol.specs.declared.Message.{Message}
use Rattle.protocol.specs.Net.{NetOf, Net, nil, largest_clock, capacity, room_in, request, set_entry, set_route, send, take_at, group?, station?, near?}
use Rattle.protocol.specs.Cases.{case_number, no_case, case_of}
use Rattle.protocol.specs.Entries.{joins, ticked, waits_on, stops_waiting, asking, with_child, without_child, stay_or_leave, with_member, request_of, reply_of, hearing, under_way}

-- the messages that a step sends, delivers and loses, and the number of the case of the reply that it hears, or that of no case
pub record Traffic : Type 0 where
  pub sent : ℕ
  pub delivered : ℕ
  pub lost : ℕ
  pub case : ℕ

abbrev pub no_traffic : Traffic
no_traffic = record { sent = 0; delivered = 0; lost = 0; case = no_case }

abbrev pub one_sent : Traffic
one_sent = record { sent = 1; delivered = 0; lost = 0; case = no_case }

abbrev pub one_lost : Traffic
one_lost = record { sent = 0; delivered = 0; lost = 1; case = no_case }

-- an action on what T describes: its tests, in the order of the numbers that they give when they fail, its traffic, and what
-- it leads to
pub record Rule (T : Type 0) : Type 0 where
  pub operands : Bool  -- else 3
  pub enabled : Bool  -- else 4
  pub clock_room : Bool  -- else 5
  pub send_room : Bool  -- else 6
  pub traffic : Traffic
  pub next : T

-- no message: what is read where there is none
abbrev pub no_message : Message
no_message = record { kind = 0; group = 0; connected = 0; clock = 0 }

-- the oldest message from s to d
abbrev pub oldest : (ℕ → ℕ → List Message) → ℕ → ℕ → Message
oldest C s d = get_or (C s d) 0 no_message

-- "those not listed must be zero"
abbrev pub unused? : ℕ → Bool
unused? c = eqb c 0

-- room for one message more from s to d
unfoldable pub room? : Net → ℕ → ℕ → Bool
room? N s d = room_in N capacity s d

-- 1. "Tick (group). The root's clock grows by one."
unfoldable pub tick : Net → ℕ → ℕ → ℕ → Rule Net
tick N g b c =
    let r = N.root g in
    let e = N.entry g r in
    record {
      operands = group? N g && unused? b && unused? c;
      enabled = true;
      clock_room = ltb e.clock largest_clock;
      send_room = true;
      traffic = no_traffic;
      next = set_entry N g r (ticked e);
    }

-- 2. "Ask (group, station). Enabled if the station is not the root, joins, has a route to the root, and is not waiting on
-- that route's neighbour. That neighbour becomes tentative parent; a request goes to it; the station waits on it."
unfoldable pub ask : Net → ℕ → ℕ → ℕ → Rule Net
ask N g p c =
    let e = N.entry g p in
    let q = N.route p (N.root g) in
    record {
      operands = group? N g && station? N p && unused? c;
      enabled = not (eqb p (N.root g)) && joins e && not (eqb q nil) && not (has e.waiting q);
      clock_room = true;
      send_room = room? N p q;
      traffic = one_sent;
      next = send (set_entry N g p (asking e q)) p q (request_of g);
    }

-- 3. "Refresh (group, station). Enabled if it has a parent and is not waiting on it. A request goes to the parent; the
-- station waits on it."
unfoldable pub refresh : Net → ℕ → ℕ → ℕ → Rule Net
refresh N g p c =
    let e = N.entry g p in
    let q = e.parent in
    record {
      operands = group? N g && station? N p && unused? c;
      enabled = not (eqb q nil) && not (has e.waiting q);
      clock_room = true;
      send_room = room? N p q;
      traffic = one_sent;
      next = send (set_entry N g p (waits_on e q)) p q (request_of g);
    }

-- "A request: the receiver adds the sender to its children and replies with its connected flag and clock."
unfoldable pub answered : Net → ℕ → ℕ → ℕ → Net
answered N g s d =
    let e = with_child (N.entry g d) s in
    send (set_entry N g d e) d s (reply_of g (N.root g) d e)

-- "A reply: the receiver stops waiting on the sender", and may adopt it
unfoldable pub heard : Net → ℕ → ℕ → Message → Net
heard N s d m = set_entry N m.group d (hearing (N.entry m.group d) s m)

-- which case of a reply it is to the receiver
unfoldable pub case_at : Net → ℕ → ℕ → Message → Case
case_at N s d m = case_of (N.entry m.group d) s m

-- 4. "Deliver (from, to). Takes the oldest message." It "passes on" the case of a reply
unfoldable pub deliver : Net → ℕ → ℕ → ℕ → Rule Net
deliver N s d c =
    let m = oldest N.channel s d in
    let asked = eqb m.kind request in
    record {
      operands = near? N s d && unused? c;
      enabled = ltb 0 (length (N.channel s d));
      clock_room = true;
      send_room = not asked || room? N d s;
      traffic = record { sent = bit asked; delivered = 1; lost = 0; case = cond asked no_case (case_number (case_at N s d m)) };
      next = cond asked (answered (take_at N s d 0) m.group s d) (heard (take_at N s d 0) s d m);
    }

-- 5. "Lose (from, to, position 0 to 7). That message is removed". In channels of any capacity, and in those of version 1
abbrev pub lose_in : {E M : Type 0} → NetOf E M → (capacity s d i : ℕ) → Rule (NetOf E M)
lose_in N capacity s d i = record {
  operands = near? N s d && ltb i capacity;
  enabled = ltb i (length (N.channel s d));
  clock_room = true;
  send_room = true;
  traffic = one_lost;
  next = take_at N s d i;
}

unfoldable pub lose : Net → ℕ → ℕ → ℕ → Rule Net
lose N s d i = lose_in N capacity s d i

-- 6. "Give up (group, station, neighbour). Enabled if it waits on the neighbour and neither its request nor the reply is in
-- the channels. It stops waiting."
unfoldable pub give_up : Net → ℕ → ℕ → ℕ → Rule Net
give_up N g p q =
    let e = N.entry g p in
    record {
      operands = group? N g && near? N p q;
      enabled = has e.waiting q && eqb (under_way N.channel g p q) 0;
      clock_room = true;
      send_room = true;
      traffic = no_traffic;
      next = set_entry N g p (stops_waiting e q);
    }

-- 7. "Drop child (group, station, child). Enabled if it is a child whose parent is not this station, with no request from it
-- and no reply to it in the channels. It is removed; then the station leaves if it no longer joins."
unfoldable pub drop_child : Net → ℕ → ℕ → ℕ → Rule Net
drop_child N g p x =
    let e = N.entry g p in
    record {
      operands = group? N g && near? N p x;
      enabled = has e.children x && not (eqb (N.entry g x).parent p) && eqb (under_way N.channel g x p) 0;
      clock_room = true;
      send_room = true;
      traffic = no_traffic;
      next = set_entry N g p (stay_or_leave (N.root g) p (without_child e x));
    }

-- 8. "Member (group, station, 0 or 1). Sets the flag; then the station leaves if it no longer joins."
unfoldable pub member : Net → ℕ → ℕ → ℕ → Rule Net
member N g p v = record {
  operands = group? N g && station? N p && ltb v 2;
  enabled = true;
  clock_room = true;
  send_room = true;
  traffic = no_traffic;
  next = set_entry N g p (stay_or_leave (N.root g) p (with_member (N.entry g p) v));
}

-- 9. "Route (station, destination, next or 255). Sets the route. Names no group." Outcome 3 also if "9's station and its
-- next (unless 255), are not neighbours, a route's destination is its own station"
unfoldable pub route : Net → ℕ → ℕ → ℕ → Rule Net
route N p d q = record {
  operands = station? N p && station? N d && not (eqb p d) && (eqb q nil || near? N p q);
  enabled = true;
  clock_room = true;
  send_room = true;
  traffic = no_traffic;
  next = set_route N p d q;
}

-- the actions in the order of their numbers, with the operands a, b, c
unfoldable pub rules : Net → ℕ → ℕ → ℕ → List (Rule Net)
rules N a b c =
    tick N a b c ∷ ask N a b c ∷ refresh N a b c ∷ deliver N a b c ∷ lose N a b c ∷ give_up N a b c ∷ drop_child N a b c ∷ member N a b c ∷ route N a b c
    ∷ []
