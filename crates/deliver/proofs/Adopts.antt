-- A case is compared with the one in which a reply is taken.
use Rattle.std.proofs.Common.{◌≡◌, refl, ◌∙◌, Bool, ap, ℕ}
use denote.Enum.Bare.{sameb}
use Rattle.protocol.specs.declared.Case.{Case}
use Rattle.protocol.specs.declared.Case.TheVariants.{Adopted, NotTentative, Unconnected, NotGreater}
use Rattle.protocol.specs.contracts.Case.{the_type}
use Rattle.protocol.specs.declared.Entry.{Entry}
use Rattle.protocol.specs.declared.Message.{Message}
use Rattle.protocol.specs.Cases.{case_of, case_number, adopts}
use lib.Dec.{eqb}

-- it is that one exactly if its number is that one's
pub by_number : (x : Case) → sameb the_type x Adopted ≡ eqb (case_number x) (case_number Adopted)
unfolding case_number
by_number Adopted = refl
by_number NotTentative = refl
by_number Unconnected = refl
by_number NotGreater = refl

-- what the comparison says of the reply m from s, to a station that has the entry e
pub takes : (e : Entry) (s : ℕ) (m : Message) {b : Bool} {x : Case} → b ≡ sameb the_type x Adopted → x ≡ case_of e s m → b ≡ adopts e s m
unfolding adopts
takes e s m {b} {x} i j = i ∙ by_number x ∙ ap (λ (k : Case). eqb (case_number k) (case_number Adopted)) j
