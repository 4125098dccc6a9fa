-- What a step of one group leaves alone.
use Rattle.std.specs.Prelude.{◌≡◌, Bool, false, cond, ◌&&◌, ◌||◌, List, [], ◌∷◌, ℕ, eqb, get_or}
use Rattle.protocol.specs.declared.Message.{Message}
use Rattle.protocol.specs.Net.{Net, NetOf, request}
use Rattle.protocol.specs.Rules.{no_message, oldest}

-- the messages of group o, in their order
unfoldable pub only : {M : Type 0} → (M → ℕ) → ℕ → List M → List M
only group o [] = []
only group o (m ∷ l) = cond (eqb (group m) o) (m ∷ only group o l) (only group o l)

abbrev pub group_in : Message → ℕ
group_in m = m.group

-- from net N to net N' no entry and no message of group o has changed, and its messages stand in the same order in every channel
pub record Untouched {E M : Type 0} (group : M → ℕ) (o : ℕ) (N N' : NetOf E M) : Type 0 where
  pub entries : (p : ℕ) → N'.entry o p ≡ N.entry o p
  pub messages : (s d : ℕ) → only group o (N'.channel s d) ≡ only group o (N.channel s d)

-- the group of a step: its first operand, but "in 4 and 5 the message names it". (9 "names no group")
unfoldable pub group_of : Net → ℕ → ℕ → ℕ → ℕ → ℕ
group_of N k a b c =
    cond (eqb k 4) (oldest N.channel a b).group
    (cond (eqb k 5) (get_or (N.channel a b) c no_message).group a)

-- the channels that a step sends on or takes from, by its number and operands: whether the one from s to d is among them
unfoldable pub uses : Net → ℕ → ℕ → ℕ → ℕ → ℕ → ℕ → Bool
uses N k a b c s d =
    -- 2 and 3: "a request goes to" the route's neighbour, or "to the parent"
    cond (eqb k 2) (eqb s b && eqb d (N.route b (N.root a)))
    (cond (eqb k 3) (eqb s b && eqb d (N.entry a b).parent)
    -- 4: "takes the oldest message", and to a request "replies"
    (cond (eqb k 4) ((eqb s a && eqb d b) || (eqb (oldest N.channel a b).kind request && (eqb s b && eqb d a)))
    -- 5: "that message is removed"
    (cond (eqb k 5) (eqb s a && eqb d b) false)))
