-- The nets that the examples start from, as they are written down: what net each is, and a test that it is well shaped.
use Rattle.std.specs.Prelude.{Bool, true, cond, not, ◌&&◌, ◌||◌, List, [], ◌∷◌, ℕ, eqb, ltb, leb, length, get_or}
use Rattle.bits.specs.Masks.{has, with, below, within}
use Rattle.protocol.specs.declared.Entry.{Entry}
use Rattle.protocol.specs.declared.Message.{Message}
use Rattle.protocol.specs.Net.{Net, nil, most_stations, most_groups, longest_name, largest_clock, capacity, request, reply, set_entry, send}
use Rattle.protocol.specs.Fresh.{Plan, fresh}
use Rattle.protocol.specs.Runs.{run}
use Rattle.protocol.specs.Names.{same_name}

-- a step: the number of its action, and the operands a, b, c
abbrev pub Step : Type 0
Step = ℕ × ℕ × ℕ × ℕ

-- "A script is 4 bytes a step"
unfoldable pub script_of : List Step → List ℕ
script_of [] = []
script_of (t ∷ ts) = t.0 ∷ t.1 ∷ t.2 ∷ t.3 ∷ script_of ts

-- the two ends of a cable
abbrev pub Cable : Type 0
Cable = ℕ × ℕ

pub record Group : Type 0 where
  pub name : List ℕ
  pub root : ℕ

infixl 30 ◌knowing◌
infixl 30 ◌carrying◌
infixl 30 ◌having◌
infixl 30 ◌by◌
-- a net that an example starts from
pub data Start : Type 0 where
  -- a fresh net of these groups, with n stations and these cables
  new : List Group → ℕ → List Cable → Start
  -- (g, p, e): group g is e to station p
  ◌knowing◌ : Start → ℕ × ℕ × Entry → Start
  -- (s, d, m): the message m is on its way from s to d, behind those that are
  ◌carrying◌ : Start → ℕ × ℕ × Message → Start
  -- these steps have been taken
  ◌having◌ : Start → List Step → Start

-- one step has been taken
abbrev pub ◌by◌ : Start → Step → Start
S by t = S having (t ∷ [])

-- ---- the net
-- the neighbours of station p, as a mask
unfoldable pub neighbours_by : List Cable → ℕ → ℕ
neighbours_by [] p = 0
neighbours_by (c ∷ cs) p = let m = neighbours_by cs p in cond (eqb p c.0) (with m c.1) (cond (eqb p c.1) (with m c.0) m)

-- what stands where there is no group
abbrev pub no_group : Group
no_group = record { name = []; root = 0 }

unfoldable pub plan_by : List Group → ℕ → List Cable → Plan
plan_by gs n cs = record {
  stations = n;
  groups = length gs;
  name = λ g. (get_or gs g no_group).name;
  root = λ g. (get_or gs g no_group).root;
  neighbours = neighbours_by cs;
}

unfoldable pub net : Start → Net
net (new gs n cs) = fresh (plan_by gs n cs)
net (S knowing k) = set_entry (net S) k.0 k.1 k.2
net (S carrying c) = send (net S) c.0 c.1 c.2
net (S having ts) = (run (net S) (script_of ts)).net

-- ---- the test
unfoldable pub every : {A : Type 0} → (A → Bool) → List A → Bool
every P [] = true
every P (x ∷ l) = P x && every P l

-- "name length 1 to 16, .. (any byte values); each root below n"
unfoldable pub group_fits : ℕ → Group → Bool
group_fits n G =
    leb 1 (length G.name) && leb (length G.name) longest_name && every (λ b. ltb b 256) G.name && ltb G.root n

-- "names distinct"
unfoldable pub differ : List Group → Bool
differ [] = true
differ (G ∷ gs) = every (λ H. not (same_name H.name G.name)) gs && differ gs

-- "masks name stations below n; .. no station neighbours itself"
unfoldable pub cable_fits : ℕ → Cable → Bool
cable_fits n c = ltb c.0 n && ltb c.1 n && not (eqb c.0 c.1)

unfoldable pub plan_fits : List Group → ℕ → List Cable → Bool
plan_fits gs n cs =
    leb 1 n && leb n most_stations && leb 1 (length gs) && leb (length gs) most_groups
    && every (group_fits n) gs && differ gs && every (cable_fits n) cs

-- "parent and tentative parent are nil or neighbours, both nil at the root; member is 0 or 1; children and waiting lie within
-- the neighbours": the entry of station p, whose neighbours are nb, in a group with root r
unfoldable pub entry_fits : ℕ → ℕ → ℕ → Entry → Bool
entry_fits nb r p e =
    (eqb e.parent nil || has nb e.parent) && (eqb e.tentative nil || has nb e.tentative)
    && (not (eqb p r) || (eqb e.parent nil && eqb e.tentative nil)) && leb e.member 1
    && below most_stations e.children && within most_stations e.children nb
    && below most_stations e.waiting && within most_stations e.waiting nb && leb e.clock largest_clock

-- "kind is 1 (request) or 2 (reply), group below g, connected 0 or 1, and both connected and clock zero in a request"
unfoldable pub message_fits : ℕ → Message → Bool
message_fits n m =
    (eqb m.kind request || eqb m.kind reply) && ltb m.group n && leb m.connected 1
    && (not (eqb m.kind request) || (eqb m.connected 0 && eqb m.clock 0)) && leb m.clock largest_clock

-- the net is well shaped, and every step that it has taken was accepted
unfoldable pub proper : Start → Bool
proper (new gs n cs) = plan_fits gs n cs
proper (S knowing k) =
    proper S && ltb k.0 (net S).groups && ltb k.1 (net S).stations
    && entry_fits ((net S).neighbours k.1) ((net S).root k.0) k.1 k.2
proper (S carrying c) =
    proper S && has ((net S).neighbours c.0) c.1 && ltb (length ((net S).channel c.0 c.1)) capacity
    && message_fits (net S).groups c.2
proper (S having ts) = proper S && eqb (run (net S) (script_of ts)).tally.accepted (length ts)
