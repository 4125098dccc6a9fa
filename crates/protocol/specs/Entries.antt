-- What the actions ask of one entry or message, and what they make of it.
use Rattle.std.specs.Prelude.{Bool, cond, not, ◌&&◌, ◌||◌, List, [], ◌∷◌, ℕ, ◌+◌, eqb}
use Rattle.bits.specs.Sums.{bit}
use Rattle.bits.specs.Masks.{with, without}
use Rattle.protocol.specs.declared.Entry.{Entry}
use Rattle.protocol.specs.declared.Message.{Message}
use Rattle.protocol.specs.Net.{nil, request, reply}
use Rattle.protocol.specs.Cases.{adopts}

-- ---- an entry with one field anew
abbrev pub with_parents : Entry → ℕ → ℕ → Entry
with_parents e q t = record { parent = q; tentative = t; member = e.member; clock = e.clock; children = e.children; waiting = e.waiting }

abbrev pub with_member : Entry → ℕ → Entry
with_member e v = record { parent = e.parent; tentative = e.tentative; member = v; clock = e.clock; children = e.children; waiting = e.waiting }

abbrev pub with_clock : Entry → ℕ → Entry
with_clock e k = record { parent = e.parent; tentative = e.tentative; member = e.member; clock = k; children = e.children; waiting = e.waiting }

abbrev pub with_children : Entry → ℕ → Entry
with_children e m = record { parent = e.parent; tentative = e.tentative; member = e.member; clock = e.clock; children = m; waiting = e.waiting }

abbrev pub with_waiting : Entry → ℕ → Entry
with_waiting e m = record { parent = e.parent; tentative = e.tentative; member = e.member; clock = e.clock; children = e.children; waiting = m }

-- ---- "Joins" means member or has a child. "Connected" means is the root or has a parent
unfoldable pub joins : Entry → Bool
joins e = eqb e.member 1 || not (eqb e.children 0)

-- of station p, where r is the root
unfoldable pub connected : ℕ → ℕ → Entry → Bool
connected r p e = eqb p r || not (eqb e.parent nil)

-- ---- what becomes of a station's entry
-- the root's clock grows by one
abbrev pub ticked : Entry → Entry
ticked e = with_clock e (e.clock + 1)

-- it waits on q, and no longer waits on q
abbrev pub waits_on : Entry → ℕ → Entry
waits_on e q = with_waiting e (with e.waiting q)

abbrev pub stops_waiting : Entry → ℕ → Entry
stops_waiting e q = with_waiting e (without e.waiting q)

-- it asks q: q becomes tentative parent, and it waits on q
abbrev pub asking : Entry → ℕ → Entry
asking e q = with_parents (waits_on e q) e.parent q

-- s is added to its children, and x is removed
abbrev pub with_child : Entry → ℕ → Entry
with_child e s = with_children e (with e.children s)

abbrev pub without_child : Entry → ℕ → Entry
without_child e x = with_children e (without e.children x)

-- "To leave is to set both parents to nil. The clock and waiting stay"
abbrev pub leave : Entry → Entry
leave e = with_parents e nil nil

-- station p "leaves if it no longer joins"; "the root never leaves"
unfoldable pub stay_or_leave : ℕ → ℕ → Entry → Entry
stay_or_leave r p e = cond (eqb p r || joins e) e (leave e)

-- ---- messages
-- "both connected and clock zero in a request"
abbrev pub request_of : ℕ → Message
request_of g = record { kind = request; group = g; connected = 0; clock = 0 }

-- station p "replies with its connected flag and clock"
abbrev pub reply_of : ℕ → ℕ → ℕ → Entry → Message
reply_of g r p e = record { kind = reply; group = g; connected = bit (connected r p e); clock = e.clock }

-- of a reply from s that is taken "the sender becomes parent and the clock is taken"
abbrev pub adopting : Entry → ℕ → Message → Entry
adopting e s m = with_clock (with_parents e s e.tentative) m.clock

-- the reply m from s is heard: the station "stops waiting on the sender", and adopts it if the reply is taken
unfoldable pub hearing : Entry → ℕ → Message → Entry
hearing e s m = cond (adopts e s m) (adopting (stops_waiting e s) s m) (stops_waiting e s)

-- ---- how many messages of a kind and a group are in a list
unfoldable pub is_of : ℕ → ℕ → Message → Bool
is_of k g m = eqb m.kind k && eqb m.group g

unfoldable pub count_of : ℕ → ℕ → List Message → ℕ
count_of k g [] = 0
count_of k g (m ∷ l) = bit (is_of k g m) + count_of k g l

-- requests of p to q and q's replies to them that are in the channels C
unfoldable pub under_way : (ℕ → ℕ → List Message) → ℕ → ℕ → ℕ → ℕ
under_way C g p q = count_of request g (C p q) + count_of reply g (C q p)
