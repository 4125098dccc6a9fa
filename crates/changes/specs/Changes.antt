-- What a loss and a delivery may change of the bytes of a net, in each form: "Move only the messages present and clear the freed slot"
-- (document 02, No. 5), and of an entry only the fields of which the rule speaks.
use Rattle.std.specs.Prelude.{cond, List, [], ◌∷◌, ◌++◌, ℕ, ◌+◌, eqb, length}
use Rattle.bits.specs.Stretches.{Stretch, stretch, further}
use Rattle.protocol.specs.Net.{request}
use Rattle.protocol.specs.Cases.{adopts}
use Rattle.protocol.specs.Rules.{oldest}
use Rattle.changes.specs.Removal.{count_and_slots}
use Rattle.layout.specs.Layout.{channel_at, message_size}
use Rattle.layout.specs.declared.form.Mark.{Mark}
use Rattle.layout.specs.Marks.{entry_at}
use Rattle.net.specs.View.{view}

-- the message at position i from s to d, of k, is taken out: the count, and the slots from i to k - 1
unfoldable pub taking_out : List ℕ → ℕ → ℕ → ℕ → List Stretch
taking_out l s d i = further (channel_at s d) (count_and_slots message_size i (length ((view l).channel s d)))

-- one more goes out from s to d, where there are k: the count, and slot k
unfoldable pub going_out : List ℕ → ℕ → ℕ → List Stretch
going_out l s d = let k = length ((view l).channel s d) in further (channel_at s d) (count_and_slots message_size k (k + 1))

-- a delivery takes out the oldest message. "A request: the receiver adds the sender to its children and replies"; "a reply: the receiver
-- stops waiting on the sender"; if it is taken, "the sender becomes parent and the clock is taken"
unfoldable pub delivering : Mark → List ℕ → ℕ → ℕ → List Stretch
delivering m l s d =
    let x = oldest (view l).channel s d in
    let at = entry_at m x.group d in
    taking_out l s d 0 ++ cond (eqb x.kind request)
    -- the children
    (stretch (at + 8) 2 ∷ going_out l d s)
    -- the waiting; the parent and the clock
    (stretch (at + 10) 2 ∷ cond (adopts ((view l).entry x.group d) s x) (stretch at 1 ∷ stretch (at + 4) 4 ∷ []) [])
