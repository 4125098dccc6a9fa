-- The examples of document 01, "on each side", and examples of its other sentences: one table, in the document's order.
-- (`proofs/examples/Examples.antt` has the theorem: every row is right.)
-- A row names a net and says something of it (`ExampleRows`). The net is that of a plan, where `knowing (g, p, e)` group g is e to
-- station p, `carrying (s, d, m)` the message m is on its way from s to d, and `by (k, a, b, c)` the step has been taken, and accepted.
-- Masks are binary: 0b101 is stations 0 and 2.
use Rattle.std.specs.Prelude.{true, false, List, [], ◌∷◌, ◌++◌, ℕ, zero, suc, replicate}
use Rattle.protocol.specs.declared.Entry.{Entry}
use Rattle.protocol.specs.declared.Message.{Message}
use Rattle.protocol.specs.Net.{nil}
use Rattle.protocol.specs.ExampleNets.{Step, Cable, Start, new, ◌knowing◌, ◌carrying◌, ◌having◌, ◌by◌}
use Rattle.protocol.specs.ExampleRows.{Row, gives, give_each, tells, entry, knows, a_request, a_reply, holds, in_all_channels, leads, counts, counts_replies, ends}
use Rattle.protocol.specs.ExampleRows.{script_gives, finds, calls, reach_entry, has_reach}

-- ---- the plans
-- one group "A" with root 0: a sole station; stations 0-1; 0-1-2 in a line; 0-1-3 and 0-2
abbrev one_group : ℕ → List Cable → Start
one_group = new (record { name = 0x41 ∷ []; root = 0 } ∷ [])

abbrev sole : Start
sole = one_group 1 []

abbrev pair : Start
pair = one_group 2 ((0, 1) ∷ [])

abbrev pub line : Start
line = one_group 3 ((0, 1) ∷ (1, 2) ∷ [])

abbrev fork : Start
fork = one_group 4 ((0, 1) ∷ (0, 2) ∷ (1, 3) ∷ [])

-- stations 0-1 with three groups: H21 with root 0, H210 with root 1, and a name of 16 bytes with root 0
abbrev H2 : List ℕ
H2 = 0x48 ∷ 0x32 ∷ []

abbrev H21 : List ℕ
H21 = H2 ++ (0x31 ∷ [])

abbrev H210 : List ℕ
H210 = H21 ++ (0x30 ∷ [])

abbrev pub hulls : Start
hulls =
    new (record { name = H21; root = 0 } ∷ record { name = H210; root = 1 } ∷ record { name = replicate 16 0x48; root = 0 } ∷ []) 2
    ((0, 1) ∷ [])

-- ---- nets on the way
-- in the line, the group is e to station 1; and a reply is on its way to it from 0, or a request from 2
abbrev middle : Entry → Start
middle e = line knowing (0, 1, e)

abbrev replied : Entry → ℕ → ℕ → Start
replied e flag k = middle e carrying (0, 1, a_reply 0 flag k)

abbrev requested : Entry → Start
requested e = middle e carrying (2, 1, a_request 0)

-- k messages more on the same way
unfoldable pub crowded : ℕ → Start → ℕ × ℕ × Message → Start
crowded zero S c = S
crowded (suc k) S c = crowded k S c carrying c

-- ---- "A fresh net keeps the plan's groups and cables. Routes and parents are nil; members, clocks, children, waiting and channels
-- are zero"
abbrev of_fresh : List Row
of_fresh =
    knows pair 0 0 (entry nil nil 0 0 0 0) ∷ knows pair 0 1 (entry nil nil 0 0 0 0) ∷ leads pair 1 0 nil ∷ holds pair 1 0 [] ∷ []

-- ---- "Joins" means member or has a child. "Connected" means is the root or has a parent. "Everything is per group; in 4 and 5 the
-- message names it"
-- station 1 asks in group 0 and then in group 2
abbrev asked_twice : Start
asked_twice = hulls by (9, 1, 0, 0) by (8, 0, 1, 1) by (8, 2, 1, 1) by (2, 0, 1, 0) by (2, 2, 1, 0)

abbrev of_groups : List Row
of_groups =
    -- it joins by a child, even one that has it for no parent; not by a parent
    gives (middle (entry nil nil 0 0 0b100 0) by (9, 1, 0, 0)) (2, 0, 1, 0) 0
    ∷ gives (middle (entry 0 0 0 0 0 0) by (9, 1, 0, 0)) (2, 0, 1, 0) 4
    -- it is connected by a parent, even one that does not list it; not by a tentative parent. The clock is sent in any case
    ∷ holds (requested (entry 0 0 0 5 0 0) by (4, 2, 1, 0)) 1 2 (a_reply 0 1 5 ∷ [])
    ∷ holds (requested (entry nil 0 1 5 0 0) by (4, 2, 1, 0)) 1 2 (a_reply 0 0 5 ∷ [])
    -- a member of one group is none of another; each group has its own root; who waits in one group may ask in another
    ∷ gives (hulls by (8, 0, 0, 1) by (9, 0, 1, 1)) (2, 1, 0, 0) 4
    ∷ holds (hulls by (8, 1, 0, 1) by (9, 0, 1, 1) by (2, 1, 0, 0) by (4, 0, 1, 0)) 1 0 (a_reply 1 1 0 ∷ [])
    ∷ holds asked_twice 1 0 (a_request 0 ∷ a_request 2 ∷ [])
    -- the oldest message is delivered, in its group; then the next one, in its own
    ∷ holds (asked_twice by (4, 1, 0, 0)) 1 0 (a_request 2 ∷ [])
    ∷ knows (asked_twice by (4, 1, 0, 0)) 0 0 (entry nil nil 0 0 0b10 0)
    ∷ knows (asked_twice by (5, 1, 0, 0) by (4, 1, 0, 0)) 2 0 (entry nil nil 0 0 0b10 0)
    ∷ []

-- ---- 1. "Tick (group). The root's clock grows by one": the group's own root's, and no other station's
abbrev of_tick : List Row
of_tick =
    knows (pair by (1, 0, 0, 0)) 0 0 (entry nil nil 0 1 0 0)
    ∷ knows (pair by (1, 0, 0, 0)) 0 1 (entry nil nil 0 0 0 0)
    ∷ knows (hulls by (1, 1, 0, 0)) 1 1 (entry nil nil 0 1 0 0)
    ∷ []

-- ---- 2. "Ask (group, station). Enabled if the station is not the root, joins, has a route to the root, and is not waiting on that
-- route's neighbour. That neighbour becomes tentative parent; a request goes to it; the station waits on it"
-- a child of 0 that waits on it asks 2, its own child, which is the next on its route
abbrev asks_another : Start
asks_another = middle (entry 0 0 1 3 0b100 0b001) by (9, 1, 0, 2) by (2, 0, 1, 0)

abbrev of_ask : List Row
of_ask =
    -- a route to another station only; waiting on the route's neighbour, who is not the tentative parent; not waiting on it, the parent
    gives (line by (8, 0, 1, 1) by (9, 1, 2, 2)) (2, 0, 1, 0) 4
    ∷ gives (middle (entry nil 2 1 0 0 0b001) by (9, 1, 0, 0)) (2, 0, 1, 0) 4
    ∷ gives (middle (entry 0 0 1 0 0 0b100) by (9, 1, 0, 0)) (2, 0, 1, 0) 0
    -- the parent stays, and the wait on it; the one that is asked knows nothing yet
    ∷ knows asks_another 0 1 (entry 0 2 1 3 0b100 0b101)
    ∷ holds asks_another 1 2 (a_request 0 ∷ [])
    ∷ knows asks_another 0 2 (entry nil nil 0 0 0 0)
    ∷ []

-- ---- 3. "Refresh (group, station). Enabled if it has a parent and is not waiting on it. A request goes to the parent; the station
-- waits on it"
-- a child of 0 that does not join, whose tentative parent and route are 2, and which waits on 2
abbrev refreshes : Start
refreshes = middle (entry 0 2 0 3 0 0b100) by (9, 1, 0, 2) by (3, 0, 1, 0)

abbrev of_refresh : List Row
of_refresh =
    -- the tentative parent stays
    knows refreshes 0 1 (entry 0 2 0 3 0 0b101)
    ∷ holds refreshes 1 0 (a_request 0 ∷ [])
    -- waiting on the parent; no parent, only a tentative one and a route
    ∷ gives (middle (entry 0 2 1 3 0 0b001)) (3, 0, 1, 0) 4
    ∷ gives (middle (entry nil 0 1 3 0 0) by (9, 1, 0, 0)) (3, 0, 1, 0) 4
    ∷ []

-- ---- 4. "Deliver (from, to). Takes the oldest message"
-- station 1, a child of 2 that lists it, adopts 0
abbrev moves : Start
moves = replied (entry 2 0 1 1 0b100 0b001) 1 9 knowing (0, 2, entry nil nil 1 0 0b010 0) by (4, 0, 1, 0)

abbrev of_deliver : List Row
of_deliver =
    -- "A request: the receiver adds the sender to its children": also one that does not join; also its own parent
    knows (requested (entry nil nil 0 5 0 0) by (4, 2, 1, 0)) 0 1 (entry nil nil 0 5 0b100 0)
    ∷ knows (requested (entry 2 2 1 5 0b001 0b100) by (4, 2, 1, 0)) 0 1 (entry 2 2 1 5 0b101 0b100)
    -- "and replies": behind what is in the channel
    ∷ holds (requested (entry nil nil 0 5 0 0) carrying (1, 2, a_request 0) by (4, 2, 1, 0)) 1 2 (a_request 0 ∷ a_reply 0 0 5 ∷ [])
    -- "A reply: the receiver stops waiting on the sender", and on no other; "if the sender is its tentative parent", not its parent
    ∷ knows (replied (entry 2 2 1 1 0 0b101) 1 9 by (4, 0, 1, 0)) 0 1 (entry 2 2 1 1 0 0b100)
    ∷ knows (replied (entry 0 2 1 1 0 0b001) 1 9 by (4, 0, 1, 0)) 0 1 (entry 0 2 1 1 0 0)
    -- "the flag is 1": by flag 0 a parent is not lost; "and the clock is strictly greater than its own"
    ∷ knows (replied (entry 0 0 1 1 0 0b001) 0 9 by (4, 0, 1, 0)) 0 1 (entry 0 0 1 1 0 0)
    ∷ knows (replied (entry nil 0 1 9 0 0b001) 1 1 by (4, 0, 1, 0)) 0 1 (entry nil 0 1 9 0 0)
    -- "the sender becomes parent and the clock is taken": also if it is the parent; also where the station neither joins nor waits
    ∷ knows (replied (entry 0 0 1 1 0 0b001) 1 9 by (4, 0, 1, 0)) 0 1 (entry 0 0 1 9 0 0)
    ∷ knows (replied (entry nil 0 0 1 0 0) 1 9 by (4, 0, 1, 0)) 0 1 (entry 0 0 0 9 0 0)
    -- neither the former parent nor the new one learns of it
    ∷ knows moves 0 1 (entry 0 0 1 9 0b100 0)
    ∷ knows moves 0 2 (entry nil nil 1 0 0b010 0)
    ∷ knows moves 0 0 (entry nil nil 0 0 0 0)
    ∷ []

-- ---- "which case holds: adopted, sender is not the tentative parent, sender unconnected, clock not greater, tested in that order"
-- station 1 has clock 1; its tentative parent is 0, or 2, and a reply comes from 0
abbrev of_tentative : ℕ → ℕ → ℕ → Start
of_tentative t flag k = replied (entry nil t 1 1 0 0b101) flag k

-- eight replies from 0, its tentative parent, and three messages from 2, which is not
abbrev many_replies : Start
many_replies =
    middle (entry nil 0 1 1 0 0b101)
    carrying (0, 1, a_reply 0 1 2) carrying (0, 1, a_reply 0 0 9) carrying (0, 1, a_reply 0 1 3) carrying (0, 1, a_reply 0 0 2)
    carrying (0, 1, a_reply 0 1 3) carrying (0, 1, a_reply 0 1 4) carrying (0, 1, a_reply 0 0 0) carrying (0, 1, a_reply 0 1 5)
    carrying (2, 1, a_reply 0 1 9) carrying (2, 1, a_request 0) carrying (2, 1, a_reply 0 0 0)

abbrev delivered : List Step
delivered =
    (4, 0, 1, 0) ∷ (4, 0, 1, 0) ∷ (4, 0, 1, 0) ∷ (4, 0, 1, 0) ∷ (4, 0, 1, 0) ∷ (4, 0, 1, 0) ∷ (4, 0, 1, 0) ∷ (4, 0, 1, 0)
    ∷ (4, 2, 1, 0) ∷ (4, 2, 1, 0) ∷ (4, 2, 1, 0) ∷ []

abbrev of_cases : List Row
of_cases =
    -- own clock 1: a reply of 1; of 2; of 2 with flag 0; of 2 from a station that is not the tentative parent
    tells (of_tentative 0 1 1) (4, 0, 1, 0) 0 4 ∷ tells (of_tentative 0 1 2) (4, 0, 1, 0) 0 1
    ∷ tells (of_tentative 0 0 2) (4, 0, 1, 0) 0 3 ∷ tells (of_tentative 2 1 2) (4, 0, 1, 0) 0 2
    -- two wrong at once, and all three: the first in order is told
    ∷ tells (of_tentative 2 0 2) (4, 0, 1, 0) 0 2 ∷ tells (of_tentative 2 1 1) (4, 0, 1, 0) 0 2
    ∷ tells (of_tentative 0 0 1) (4, 0, 1, 0) 0 3 ∷ tells (of_tentative 2 0 1) (4, 0, 1, 0) 0 2
    -- a clock that is lower; the largest clock, which nothing is greater than
    ∷ tells (of_tentative 0 1 0) (4, 0, 1, 0) 0 4
    ∷ tells (replied (entry nil 0 1 4294967295 0 0b001) 1 4294967295) (4, 0, 1, 0) 0 4
    ∷ tells (replied (entry nil 0 1 4294967294 0 0b001) 1 4294967295) (4, 0, 1, 0) 0 1
    -- no tentative parent; the parent, which is not the tentative one; where the station neither joins nor waits
    ∷ tells (of_tentative nil 1 2) (4, 0, 1, 0) 0 2
    ∷ tells (replied (entry 0 2 1 1 0 0b001) 1 2) (4, 0, 1, 0) 0 2
    ∷ tells (replied (entry nil 0 0 1 0 0) 1 2) (4, 0, 1, 0) 0 1
    -- the entry is that of the message's group
    ∷ tells (hulls knowing (0, 1, entry nil 0 1 1 0 0b01) knowing (2, 1, entry nil 0 1 2 0 0b01) carrying (0, 1, a_reply 2 1 2)) (4, 0, 1, 0) 0 4
    -- a request, another action, a loss of a reply: none is heard; nor by a step that is refused
    ∷ tells (requested (entry nil 2 1 0 0 0)) (4, 2, 1, 0) 0 0
    ∷ tells (of_tentative 0 1 2) (1, 0, 0, 0) 0 0 ∷ tells (of_tentative 0 1 2) (5, 0, 1, 0) 0 0
    ∷ tells (of_tentative 0 1 2) (4, 0, 1, 1) 3 0 ∷ tells (of_tentative 0 1 2) (4, 1, 0, 0) 4 0
    ∷ tells (crowded 8 (requested (entry nil 2 1 0 0 0)) (1, 2, a_request 0)) (4, 2, 1, 0) 6 0
    -- a reply that is not taken changes nothing but the waiting, and is taken out
    ∷ knows (of_tentative 2 1 2 by (4, 0, 1, 0)) 0 1 (entry nil 2 1 1 0 0b100)
    ∷ knows (of_tentative 0 0 2 by (4, 0, 1, 0)) 0 1 (entry nil 0 1 1 0 0b100)
    ∷ knows (of_tentative 0 1 1 by (4, 0, 1, 0)) 0 1 (entry nil 0 1 1 0 0b100)
    ∷ holds (of_tentative 0 1 1 by (4, 0, 1, 0)) 0 1 []
    -- "one count for each case": each by the clock that the replies before it have left; a request, and what is refused, in none
    ∷ counts_replies many_replies delivered 4 2 3 1
    ∷ counts many_replies delivered 11 0 1 11 0
    ∷ counts_replies (of_tentative 0 1 2) ((4, 0, 1, 1) ∷ (4, 0, 1, 0) ∷ (4, 0, 1, 0) ∷ []) 1 0 0 0
    ∷ counts_replies (of_tentative 0 1 2) ((5, 0, 1, 0) ∷ (4, 0, 1, 0) ∷ []) 0 0 0 0
    ∷ []

-- ---- 5. "Lose (from, to, position 0 to 7). That message is removed; later ones, other groups' too, move up in their order, here and
-- in 4"
abbrev queue : Start
queue = hulls carrying (0, 1, a_request 1) carrying (0, 1, a_reply 0 1 7) carrying (0, 1, a_reply 2 0 5)

abbrev of_lose : List Row
of_lose =
    holds (queue by (5, 0, 1, 0)) 0 1 (a_reply 0 1 7 ∷ a_reply 2 0 5 ∷ [])
    ∷ holds (queue by (5, 0, 1, 1)) 0 1 (a_request 1 ∷ a_reply 2 0 5 ∷ [])
    ∷ holds (queue by (4, 0, 1, 0)) 0 1 (a_reply 0 1 7 ∷ a_reply 2 0 5 ∷ [])
    -- the last of three is at position 2
    ∷ gives queue (5, 0, 1, 2) 0
    ∷ give_each queue ((5, 0, 1, 3) ∷ (5, 0, 1, 7) ∷ []) 4
    -- who has sent a request that is lost still waits
    ∷ knows (line by (9, 1, 0, 0) by (8, 0, 1, 1) by (2, 0, 1, 0) by (5, 1, 0, 0)) 0 1 (entry nil 0 1 0 0 0b001)
    ∷ []

-- ---- 6. "Give up (group, station, neighbour). Enabled if it waits on the neighbour and neither its request nor the reply is in the
-- channels. It stops waiting"
-- station 1 waits on its parent and on its tentative parent
abbrev waits : Start
waits = middle (entry 0 2 1 3 0 0b101)

abbrev of_give_up : List Row
of_give_up =
    -- on this neighbour only; nothing else changes, and it cannot be done twice
    knows (waits by (6, 0, 1, 0)) 0 1 (entry 0 2 1 3 0 0b100)
    ∷ knows (waits by (6, 0, 1, 2)) 0 1 (entry 0 2 1 3 0 0b001)
    ∷ gives (waits by (6, 0, 1, 0)) (6, 0, 1, 0) 4
    -- its request or the reply, at any position
    ∷ gives (waits carrying (1, 0, a_reply 0 0 0) carrying (1, 0, a_request 0)) (6, 0, 1, 0) 4
    ∷ gives (waits carrying (0, 1, a_request 0) carrying (0, 1, a_reply 0 0 0)) (6, 0, 1, 0) 4
    -- the neighbour's own request and the reply to it do not matter, nor those with another neighbour, nor another group's
    ∷ gives (waits carrying (0, 1, a_request 0) carrying (1, 0, a_reply 0 1 3)) (6, 0, 1, 0) 0
    ∷ gives (waits carrying (1, 2, a_request 0) carrying (2, 1, a_reply 0 0 0)) (6, 0, 1, 0) 0
    ∷ gives (hulls knowing (0, 1, entry nil nil 0 0 0 0b01) carrying (1, 0, a_request 2) carrying (0, 1, a_reply 2 0 0)) (6, 0, 1, 0) 0
    ∷ []

-- ---- 7. "Drop child (group, station, child). Enabled if it is a child whose parent is not this station, with no request from it and
-- no reply to it in the channels. It is removed; then the station leaves if it no longer joins"
-- station 1, a child of 0, lists 2
abbrev has_child : Start
has_child = middle (entry 0 0 0 3 0b100 0b001)

abbrev of_drop_child : List Row
of_drop_child =
    -- "To leave is to set both parents to nil. The clock and waiting stay"
    knows (has_child by (7, 0, 1, 2)) 0 1 (entry nil nil 0 3 0 0b001)
    -- a member does not leave, nor one with another child
    ∷ knows (middle (entry 0 0 1 3 0b100 0b001) by (7, 0, 1, 2)) 0 1 (entry 0 0 1 3 0 0b001)
    ∷ knows (middle (entry 2 2 0 3 0b101 0) by (7, 0, 1, 0)) 0 1 (entry 2 2 0 3 0b100 0)
    -- no child; a child whose parent it is. A child whose tentative parent it is may be dropped, and learns nothing of it
    ∷ gives (has_child by (7, 0, 1, 2)) (7, 0, 1, 2) 4
    ∷ gives (has_child knowing (0, 2, entry 1 nil 1 0 0 0)) (7, 0, 1, 2) 4
    ∷ knows (has_child knowing (0, 2, entry nil 1 1 0 0 0b010) by (7, 0, 1, 2)) 0 2 (entry nil 1 1 0 0 0b010)
    -- a request from it or a reply to it, at any position
    ∷ gives (has_child carrying (2, 1, a_reply 0 0 0) carrying (2, 1, a_request 0)) (7, 0, 1, 2) 4
    ∷ gives (has_child carrying (1, 2, a_request 0) carrying (1, 2, a_reply 0 1 3)) (7, 0, 1, 2) 4
    -- the station's own request and the reply to it do not matter, nor the child's with another station, nor another group's
    ∷ gives (has_child carrying (1, 2, a_request 0) carrying (2, 1, a_reply 0 0 0)) (7, 0, 1, 2) 0
    ∷ gives (line knowing (0, 0, entry nil nil 0 0 0b010 0) carrying (1, 2, a_request 0) carrying (2, 1, a_reply 0 0 0)) (7, 0, 0, 1) 0
    ∷ gives (hulls knowing (0, 0, entry nil nil 0 0 0b10 0) carrying (1, 0, a_request 2) carrying (0, 1, a_reply 2 1 0)) (7, 0, 0, 1) 0
    ∷ []

-- ---- 8. "Member (group, station, 0 or 1). Sets the flag; then the station leaves if it no longer joins"
abbrev of_member : List Row
of_member =
    -- of any station, the root too; again, too
    knows (line by (8, 0, 1, 1)) 0 1 (entry nil nil 1 0 0 0)
    ∷ knows (line by (8, 0, 0, 1)) 0 0 (entry nil nil 1 0 0 0)
    ∷ gives (line by (8, 0, 1, 1)) (8, 0, 1, 1) 0
    -- on: the parents stay. Off where it is off: it leaves all the same
    ∷ knows (middle (entry 0 2 0 3 0 0) by (8, 0, 1, 1)) 0 1 (entry 0 2 1 3 0 0)
    ∷ knows (middle (entry 0 2 0 3 0 0) by (8, 0, 1, 0)) 0 1 (entry nil nil 0 3 0 0)
    -- the parent of one that leaves still lists it
    ∷ knows (middle (entry 0 0 1 3 0 0) knowing (0, 0, entry nil nil 0 3 0b010 0) by (8, 0, 1, 0)) 0 0 (entry nil nil 0 3 0b010 0)
    ∷ []

-- ---- 9. "Route (station, destination, next or 255). Sets the route"
abbrev of_route : List Row
of_route =
    -- also one that leads away from the destination; not the way back
    leads (line by (9, 1, 0, 2)) 1 0 2
    ∷ leads (line by (9, 1, 0, 2)) 0 1 nil
    ∷ leads (line by (9, 1, 0, 2) by (9, 1, 0, 255)) 1 0 nil
    ∷ []

-- ---- "Outcome numbers". "Tests are made in rising number"
-- station 1 may ask in group 0, and seven requests of another group are on that way
abbrev seven : Start
seven = crowded 7 (hulls by (9, 1, 0, 0) by (8, 0, 1, 1)) (1, 0, a_request 2)

abbrev of_outcomes : List Row
of_outcomes =
    -- 2, before 3: "action number is 0 or above 9"
    give_each line ((0, 9, 9, 9) ∷ (10, 9, 9, 9) ∷ (255, 0, 0, 0) ∷ []) 2
    -- 3, before 4: a group, a station, a position, a flag out of range
    ∷ give_each line ((1, 1, 0, 0) ∷ (2, 1, 1, 0) ∷ (3, 1, 1, 0) ∷ (6, 1, 1, 0) ∷ (7, 1, 1, 0) ∷ (8, 1, 1, 1) ∷ []) 3
    ∷ give_each line ((3, 0, 3, 0) ∷ (4, 3, 2, 0) ∷ (4, 2, 3, 0) ∷ (5, 3, 2, 0) ∷ (5, 2, 3, 0) ∷ (6, 0, 3, 2) ∷ (6, 0, 2, 3) ∷ []) 3
    ∷ give_each line ((7, 0, 3, 2) ∷ (7, 0, 2, 3) ∷ (8, 0, 3, 1) ∷ (9, 3, 0, 255) ∷ (9, 0, 3, 255) ∷ (9, 0, 1, 254) ∷ []) 3
    ∷ give_each line ((5, 0, 1, 8) ∷ (8, 0, 1, 2) ∷ []) 3
    -- no neighbours; a route to its own station; an unused operand
    ∷ give_each line ((4, 0, 2, 0) ∷ (4, 1, 1, 0) ∷ (5, 0, 2, 0) ∷ (6, 0, 0, 2) ∷ (7, 0, 0, 2) ∷ (9, 0, 1, 2) ∷ []) 3
    ∷ give_each line ((9, 1, 1, 0) ∷ (9, 1, 1, 255) ∷ []) 3
    ∷ give_each line ((1, 0, 1, 0) ∷ (1, 0, 0, 1) ∷ (2, 0, 1, 1) ∷ (3, 0, 1, 1) ∷ (4, 0, 1, 1) ∷ []) 3
    -- 4: "an empty channel or a position with no message"
    ∷ give_each line ((4, 0, 1, 0) ∷ (5, 0, 1, 0) ∷ []) 4
    -- 6: "the channel to be sent on already holds 8", of whatever groups; 4 before 6
    ∷ gives seven (2, 0, 1, 0) 0
    ∷ gives (seven carrying (1, 0, a_request 2)) (2, 0, 1, 0) 6
    ∷ gives (seven carrying (1, 0, a_request 2) by (8, 0, 1, 0)) (2, 0, 1, 0) 4
    ∷ gives (crowded 8 (middle (entry 0 0 1 0 0 0)) (1, 0, a_request 0)) (3, 0, 1, 0) 6
    -- a request is not delivered if the reply has no room; a reply needs none, and the channel that is taken from may be full
    ∷ gives (crowded 8 (requested (entry nil nil 0 0 0 0)) (1, 2, a_request 0)) (4, 2, 1, 0) 6
    ∷ gives (crowded 8 (replied (entry nil 0 1 0 0 0b001) 1 1) (1, 0, a_request 0)) (4, 0, 1, 0) 0
    ∷ gives (crowded 8 line (2, 1, a_request 0)) (4, 2, 1, 0) 0
    ∷ []

-- ---- "Runs and the tally"
abbrev of_runs : List Row
of_runs =
    -- "a step refused is counted and passed over"
    counts pair ((4, 0, 1, 0) ∷ (1, 0, 0, 0) ∷ (10, 0, 0, 0) ∷ (1, 0, 0, 0) ∷ []) 2 2 0 0 0
    ∷ ends pair ((4, 0, 1, 0) ∷ (1, 0, 0, 0) ∷ (10, 0, 0, 0) ∷ (1, 0, 0, 0) ∷ []) 0 0 (entry nil nil 0 2 0 0)
    -- asked, and once more in vain; the request delivered and answered, the reply lost, the wait given up
    ∷ counts (pair by (9, 1, 0, 0) by (8, 0, 1, 1)) ((2, 0, 1, 0) ∷ (2, 0, 1, 0) ∷ (4, 1, 0, 0) ∷ (5, 0, 1, 0) ∷ (6, 0, 1, 0) ∷ []) 4 1 2 1 1
    -- what was on its way before is not counted as sent
    ∷ counts (replied (entry nil 0 1 0 0 0b001) 1 1) ((4, 0, 1, 0) ∷ []) 1 0 0 1 0
    -- 11 before 12
    ∷ script_gives pair 16384 0 ∷ script_gives pair 16387 11 ∷ script_gives pair 16388 12
    ∷ []

-- ---- "Reach of a call"
-- in the fork first 2 joins the tree, then 1, then 3
abbrev grown : Start
grown =
    fork having
    ((1, 0, 0, 0) ∷ (9, 1, 0, 0) ∷ (9, 2, 0, 0) ∷ (9, 3, 0, 1) ∷ (8, 0, 1, 1) ∷ (8, 0, 2, 1) ∷ (8, 0, 3, 1) ∷ (2, 0, 2, 0) ∷ (4, 2, 0, 0)
    ∷ (4, 0, 2, 0) ∷ (2, 0, 1, 0) ∷ (4, 1, 0, 0) ∷ (4, 0, 1, 0) ∷ (2, 0, 3, 0) ∷ (4, 3, 1, 0) ∷ (4, 1, 3, 0) ∷ [])

abbrev of_calls : List Row
of_calls =
    -- "from the root, lowest child first, a whole branch before the next"; as many are reached from any station on the tree
    has_reach grown 0 (reach_entry 0 nil 0 ∷ reach_entry 1 0 1 ∷ reach_entry 3 1 2 ∷ reach_entry 2 0 1 ∷ [])
    ∷ calls grown 0 0 true 0 4 3
    ∷ calls grown 0 3 true 0 4 3
    -- "children here are the agreed ones": 2 leaves, and 0 still lists it
    ∷ has_reach (grown by (8, 0, 2, 0)) 0 (reach_entry 0 nil 0 ∷ reach_entry 1 0 1 ∷ reach_entry 3 1 2 ∷ [])
    ∷ calls (grown by (8, 0, 2, 0)) 0 3 true 0 3 2
    ∷ calls (grown by (8, 0, 2, 0)) 0 2 true 8 0 0
    -- each group from its own root
    ∷ has_reach hulls 1 (reach_entry 1 nil 0 ∷ [])
    -- a parent that does not list the station; the same one hop up; two that are each other's parents
    ∷ calls (middle (entry 0 0 1 1 0 0)) 0 1 true 8 0 0
    ∷ calls (middle (entry 0 0 0 1 0b100 0) knowing (0, 2, entry 1 1 1 1 0 0)) 0 2 true 8 0 0
    ∷ calls (middle (entry 2 2 0 1 0b100 0) knowing (0, 2, entry 1 1 1 1 0b010 0)) 0 1 true 8 0 0
    -- "a call tests 1, 3, 10, 8"
    ∷ calls pair 0 2 false 3 0 0 ∷ calls pair 1 0 true 3 0 0 ∷ calls pair 0 1 false 10 0 0 ∷ calls pair 0 1 true 8 0 0
    ∷ []

-- ---- the listing of "The bench program"
abbrev pub listing_script : List Step
listing_script =
    (9, 2, 0, 1) ∷ (9, 1, 0, 0) ∷ (1, 0, 0, 0) ∷ (8, 0, 2, 1) ∷ (2, 0, 2, 0) ∷ (4, 2, 1, 0) ∷ (4, 1, 2, 0) ∷ (2, 0, 1, 0)
    ∷ (4, 1, 0, 0) ∷ (4, 0, 1, 0) ∷ (2, 0, 2, 0) ∷ (4, 2, 1, 0) ∷ (4, 1, 2, 0) ∷ []

abbrev pub listed : Start
listed = line having listing_script

abbrev of_listing : List Row
of_listing =
    counts line listing_script 13 0 6 6 0
    ∷ counts_replies line listing_script 2 0 1 0
    ∷ in_all_channels listed 0
    ∷ knows listed 0 0 (entry nil nil 0 1 0b010 0)
    ∷ knows listed 0 1 (entry 0 0 0 1 0b100 0)
    ∷ knows listed 0 2 (entry 1 1 1 1 0 0)
    ∷ calls listed 0 2 true 0 3 2
    ∷ []

-- ---- "Examples on each side", those with a star
-- the root has clock k; station 1 is a member, has a route to the root and asks, and its request arrives
abbrev root_at : ℕ → Start
root_at k = pair knowing (0, 0, entry nil nil 0 k 0 0)

abbrev asked : ℕ → Start
asked k = root_at k by (8, 0, 1, 1) by (9, 1, 0, 0) by (2, 0, 1, 0) by (4, 1, 0, 0)

abbrev starred : List Row
starred =
    -- "Root never ticked: its reply carries clock 0 and is not adopted by a station at 0"
    holds (asked 0) 0 1 (a_reply 0 1 0 ∷ [])
    ∷ knows (asked 0 by (4, 0, 1, 0)) 0 1 (entry nil 0 1 0 0 0)
    -- "Own clock 1, reply 1: not adopted. Reply 2: adopted. Reply 2 with flag 0: not adopted"
    ∷ knows (replied (entry nil 0 1 1 0 0b001) 1 1 by (4, 0, 1, 0)) 0 1 (entry nil 0 1 1 0 0)
    ∷ knows (replied (entry nil 0 1 1 0 0b001) 1 2 by (4, 0, 1, 0)) 0 1 (entry 0 0 1 2 0 0)
    ∷ knows (replied (entry nil 0 1 1 0 0b001) 0 2 by (4, 0, 1, 0)) 0 1 (entry nil 0 1 1 0 0)
    -- "Tick at 4,294,967,294 is accepted; the next gives 5"
    ∷ knows (root_at 4294967294 by (1, 0, 0, 0)) 0 0 (entry nil nil 0 4294967295 0 0)
    ∷ gives (root_at 4294967294 by (1, 0, 0, 0)) (1, 0, 0, 0) 5
    -- "Dropping a child with a reply on its way gives 4; once lost, 0 if the child's parent is elsewhere and no request of its own is
    -- under way"
    ∷ gives (asked 0) (7, 0, 0, 1) 4
    ∷ gives (asked 0 by (5, 0, 1, 0)) (7, 0, 0, 1) 0
    ∷ gives (middle (entry 2 2 1 0 0 0) knowing (0, 0, entry nil nil 0 0 0b010 0)) (7, 0, 0, 1) 0
    ∷ gives (asked 1 by (4, 0, 1, 0)) (7, 0, 0, 1) 4
    ∷ gives (asked 0 by (5, 0, 1, 0) by (6, 0, 1, 0) by (2, 0, 1, 0)) (7, 0, 0, 1) 4
    -- "Names H21 and H210: each finds itself; H2 gives 7." So do a longer name, one with a zero behind it, an empty one, and one of 17
    ∷ finds hulls H21 0 0 ∷ finds hulls H210 0 1 ∷ finds hulls (replicate 16 0x48) 0 2
    ∷ finds hulls H2 7 0 ∷ finds hulls (H210 ++ (0x30 ∷ [])) 7 0 ∷ finds hulls (H21 ++ (0 ∷ [])) 7 0
    ∷ finds hulls [] 7 0 ∷ finds hulls (replicate 17 0x48) 7 0
    -- "Empty script: accepted, all counts zero. Three bytes: 11"
    ∷ script_gives pair 0 0 ∷ counts pair [] 0 0 0 0 0 ∷ counts_replies pair [] 0 0 0 0 ∷ script_gives pair 3 11 ∷ script_gives pair 4 0
    -- "Ask at the root: 4. Station n: 3." This root joins and has a route
    ∷ gives (pair by (8, 0, 0, 1) by (9, 0, 1, 1)) (2, 0, 0, 0) 4 ∷ gives pair (2, 0, 2, 0) 3
    -- "A sole station calls: reached 1, copies 0"
    ∷ calls sole 0 0 true 0 1 0
    -- "Membership off with a child left: the parent stays. Without: nil." The clock and waiting stay
    ∷ knows (middle (entry 0 2 1 3 0b100 0) by (8, 0, 1, 0)) 0 1 (entry 0 2 0 3 0b100 0)
    ∷ knows (middle (entry 0 2 1 3 0 0b101) by (8, 0, 1, 0)) 0 1 (entry nil nil 0 3 0 0b101)
    ∷ []

-- ---- the table
unfoldable pub examples : List Row
examples =
    of_fresh ++ of_groups ++ of_tick ++ of_ask ++ of_refresh ++ of_deliver ++ of_cases ++ of_lose ++ of_give_up ++ of_drop_child ++ of_member ++ of_route
    ++ of_outcomes ++ of_runs ++ of_calls ++ of_listing ++ starred
