-- What comes of a reply: "which case holds: adopted, sender is not the tentative parent, sender unconnected, clock not greater, tested in
-- that order".
use Rattle.std.specs.Prelude.{◌≡◌, ◌≢◌, Bool, cond, not, ◌&&◌, ℕ, ◌≤◌, ◌<◌, eqb, ltb}
use Rattle.protocol.specs.declared.Case.{Case}
use Rattle.protocol.specs.declared.Case.TheVariants.{Adopted, NotTentative, Unconnected, NotGreater}
use Rattle.protocol.specs.declared.Entry.{Entry}
use Rattle.protocol.specs.declared.Message.{Message}

-- its number; and 0 is "no reply was heard"
unfoldable pub case_number : Case → ℕ
case_number Adopted = 1
case_number NotTentative = 2
case_number Unconnected = 3
case_number NotGreater = 4

abbrev pub no_case : ℕ
no_case = 0

-- what it says of the reply m from s, to a station that has the entry e. A reply is taken "if the sender is its tentative parent, the
-- flag is 1 and the clock is strictly greater than its own"
unfoldable pub case_says : Case → Entry → ℕ → Message → Bool
case_says Adopted e s m = eqb e.tentative s && eqb m.connected 1 && ltb e.clock m.clock
case_says NotTentative e s m = not (eqb e.tentative s)
case_says Unconnected e s m = not (eqb m.connected 1)
case_says NotGreater e s m = not (ltb e.clock m.clock)

-- "tested in that order": the first that says what is so. Where the first three do not, the fourth does (`told-says`)
unfoldable pub case_of : Entry → ℕ → Message → Case
case_of e s m =
    cond (case_says Adopted e s m) Adopted
    (cond (case_says NotTentative e s m) NotTentative
    (cond (case_says Unconnected e s m) Unconnected NotGreater))

-- the reply is taken: the case is adopted
unfoldable pub adopts : Entry → ℕ → Message → Bool
adopts e s m = eqb (case_number (case_of e s m)) (case_number Adopted)

-- ---- each case by itself, without the order
unfoldable pub CaseHolds : Case → Entry → ℕ → Message → Type 0
CaseHolds Adopted e s m = (e.tentative ≡ s) × (m.connected ≡ 1) × (e.clock < m.clock)
CaseHolds NotTentative e s m = e.tentative ≢ s
CaseHolds Unconnected e s m = (e.tentative ≡ s) × (m.connected ≢ 1)
CaseHolds NotGreater e s m = (e.tentative ≡ s) × (m.connected ≡ 1) × (m.clock ≤ e.clock)
