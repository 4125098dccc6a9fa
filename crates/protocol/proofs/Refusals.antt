-- A refusal is known by its number, and an answer without a value by its outcome.
use Rattle.std.proofs.Common.{◌≡◌, refl, ℕ, ◌<◌, ◌-◌, List, [], ◌∷◌, get_or, arith}
use Rattle.protocol.specs.declared.Refusal.{Refusal}
use Rattle.protocol.specs.declared.Refusal.TheVariants.{NotANet, NotAnAction, BadOperand, NotEnabled, LastClock, FullChannel, NoSuchName, NotOnTree, NotAPlan, WrongSize, CutScript, LongScript}
use Rattle.protocol.specs.Refusals.{number}

abbrev refusals : List Refusal
refusals = NotANet ∷ NotAnAction ∷ BadOperand ∷ NotEnabled ∷ LastClock ∷ FullChannel ∷ NoSuchName ∷ NotOnTree ∷ NotAPlan ∷ WrongSize
    ∷ CutScript ∷ LongScript ∷ []

abbrev pub by_number : ℕ → Refusal
by_number k = get_or refusals (k - 1) LongScript

by_number-number : (r : Refusal) → by_number (number r) ≡ r
by_number-number NotANet = refl
by_number-number NotAnAction = refl
by_number-number BadOperand = refl
by_number-number NotEnabled = refl
by_number-number LastClock = refl
by_number-number FullChannel = refl
by_number-number NoSuchName = refl
by_number-number NotOnTree = refl
by_number-number NotAPlan = refl
by_number-number WrongSize = refl
by_number-number CutScript = refl
by_number-number LongScript = refl

pub number-same : (r s : Refusal) → number r ≡ number s → r ≡ s
number-same r s e = rw (← by_number-number r, ← by_number-number s, e) refl

-- no refusal has the number 0
pub number-positive : (r : Refusal) → 0 < number r
number-positive NotANet = omega arith
number-positive NotAnAction = omega arith
number-positive BadOperand = omega arith
number-positive NotEnabled = omega arith
number-positive LastClock = omega arith
number-positive FullChannel = omega arith
number-positive NoSuchName = omega arith
number-positive NotOnTree = omega arith
number-positive NotAPlan = omega arith
number-positive WrongSize = omega arith
number-positive CutScript = omega arith
number-positive LongScript = omega arith
