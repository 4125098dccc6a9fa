-- What a row of the table of examples can say. A row starts from a net, and says something of it that is computed.
use Rattle.std.specs.Prelude.{Bool, ◌&&◌, List, [], ◌∷◌, ◌++◌, ℕ, ◌-◌, ◌*◌, eqb, length, replicate}
use Rattle.tree.specs.declared.Reach.{Reach}
use Rattle.protocol.specs.declared.Case.TheVariants.{Adopted, NotTentative, Unconnected, NotGreater}
use Rattle.protocol.specs.declared.Entry.{Entry}
use Rattle.protocol.specs.declared.Message.{Message}
use Rattle.protocol.specs.Net.{in_channels}
use Rattle.protocol.specs.Steps.{outcome, case_heard}
use Rattle.protocol.specs.Runs.{case_count, length_outcome, run}
use Rattle.protocol.specs.Names.{same_name as same_numbers, find}
use Rattle.protocol.specs.Calls.{called, reach_list}
use Rattle.protocol.specs.ExampleNets.{Step, script_of, Start, net, every, proper}

pub record Row : Type 0 where
  pub start : Start
  pub says : Bool

-- every row starts from a proper net, and what it says is so
unfoldable pub right : List Row → Bool
right = every (λ r. proper r.start && r.says)

-- ---- steps: this one gives the outcome o; each of these does
abbrev pub gives : Start → Step → ℕ → Row
gives S t o = record { start = S; says = eqb (outcome (net S) t.0 t.1 t.2 t.3) o }

abbrev pub give_each : Start → List Step → ℕ → Row
give_each S ts o = record { start = S; says = every (λ t. eqb (outcome (net S) t.0 t.1 t.2 t.3) o) ts }

-- it gives the outcome o, and the reply that is heard is of case k: 0 where none is heard
abbrev pub tells : Start → Step → ℕ → ℕ → Row
tells S t o k =
    let N = net S in
    record { start = S; says = eqb (outcome N t.0 t.1 t.2 t.3) o && eqb (case_heard N t.0 t.1 t.2 t.3) k }

-- ---- entries: "parent, tentative parent, member, .. clock (4), children mask (2), waiting mask (2)"
abbrev pub entry : ℕ → ℕ → ℕ → ℕ → ℕ → ℕ → Entry
entry q t v k c w = record { parent = q; tentative = t; member = v; clock = k; children = c; waiting = w }

abbrev pub entry_numbers : Entry → List ℕ
entry_numbers e = e.parent ∷ e.tentative ∷ e.member ∷ e.clock ∷ e.children ∷ e.waiting ∷ []

-- group g is e to station p
abbrev pub knows : Start → ℕ → ℕ → Entry → Row
knows S g p e = record { start = S; says = same_numbers (entry_numbers ((net S).entry g p)) (entry_numbers e) }

-- ---- messages: "kind, group, connected, clock (4)", where "kind is 1 (request) or 2 (reply)"
abbrev pub a_request : ℕ → Message
a_request g = record { kind = 1; group = g; connected = 0; clock = 0 }

abbrev pub a_reply : ℕ → ℕ → ℕ → Message
a_reply g flag k = record { kind = 2; group = g; connected = flag; clock = k }

unfoldable pub message_numbers : List Message → List ℕ
message_numbers [] = []
message_numbers (m ∷ l) = m.kind ∷ m.group ∷ m.connected ∷ m.clock ∷ message_numbers l

-- the channel from s to d holds these
abbrev pub holds : Start → ℕ → ℕ → List Message → Row
holds S s d l = record { start = S; says = same_numbers (message_numbers ((net S).channel s d)) (message_numbers l) }

-- all channels together hold k
abbrev pub in_all_channels : Start → ℕ → Row
in_all_channels S k = record { start = S; says = eqb (in_channels (net S)) k }

-- ---- routes: the next station from p towards d is q
abbrev pub leads : Start → ℕ → ℕ → ℕ → Row
leads S p d q = record { start = S; says = eqb ((net S).route p d) q }

-- ---- runs: "accepted, refused, sent, delivered, lost"
abbrev pub counts : Start → List Step → ℕ → ℕ → ℕ → ℕ → ℕ → Row
counts S ts a r s d l =
    let t = (run (net S) (script_of ts)).tally in
    record { start = S; says = same_numbers (t.accepted ∷ t.refused ∷ t.sent ∷ t.delivered ∷ t.lost ∷ []) (a ∷ r ∷ s ∷ d ∷ l ∷ []) }

-- the replies that it hears, by their case
abbrev pub counts_replies : Start → List Step → ℕ → ℕ → ℕ → ℕ → Row
counts_replies S ts a n u g =
    let r = (run (net S) (script_of ts)).tally.replies in
    record {
      start = S;
      says = same_numbers (case_count r Adopted ∷ case_count r NotTentative ∷ case_count r Unconnected ∷ case_count r NotGreater ∷ []) (a ∷ n ∷ u ∷ g ∷ []);
    }

-- after it group g is e to station p
abbrev pub ends : Start → List Step → ℕ → ℕ → Entry → Row
ends S ts g p e = record { start = S; says = same_numbers (entry_numbers ((run (net S) (script_of ts)).net.entry g p)) (entry_numbers e) }

-- a script of n bytes gives the outcome o
abbrev pub script_gives : Start → ℕ → ℕ → Row
script_gives S n o = record { start = S; says = eqb (length_outcome n) o }

-- ---- names: the outcome, and the group
abbrev pub finds : Start → List ℕ → ℕ → ℕ → Row
finds S w o g = let f = find (net S) w in record { start = S; says = eqb f.outcome o && eqb f.group g }

-- ---- calls by station c, with a list of the stated size or not: the outcome, the number reached, the copies
abbrev pub calls : Start → ℕ → ℕ → Bool → ℕ → ℕ → ℕ → Row
calls S g c fits o r k =
    let a = called (net S) g c fits in
    record { start = S; says = eqb a.outcome o && eqb a.reached r && eqb a.copies k }

-- the reach list: "station, parent (255 for the root), depth"; "later entries hold 255 three times"
abbrev pub reach_entry : ℕ → ℕ → ℕ → Reach
reach_entry p q k = record { station = p; parent = q; depth = k }

unfoldable pub list_numbers : List Reach → List ℕ
list_numbers [] = []
list_numbers (r ∷ l) = r.station ∷ r.parent ∷ r.depth ∷ list_numbers l

abbrev pub has_reach : Start → ℕ → List Reach → Row
has_reach S g l = record { start = S; says = same_numbers (list_numbers (reach_list (net S) g)) (list_numbers l ++ replicate (3 * (16 - length l)) 255) }
