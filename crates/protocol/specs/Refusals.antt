-- The refusals of document 01's table, and their numbers.
use Rattle.std.specs.Prelude.{ℕ, Result, Ok, Err}
use Rattle.protocol.specs.declared.Refusal.{Refusal}
use Rattle.protocol.specs.declared.Refusal.TheVariants.{NotANet, NotAnAction, BadOperand, NotEnabled, LastClock, FullChannel, NoSuchName, NotOnTree, NotAPlan, WrongSize, CutScript, LongScript}

abbrev pub number : Refusal → ℕ
number NotANet = 1
number NotAnAction = 2
number BadOperand = 3
number NotEnabled = 4
number LastClock = 5
number FullChannel = 6
number NoSuchName = 7
number NotOnTree = 8
number NotAPlan = 9
number WrongSize = 10
number CutScript = 11
number LongScript = 12

-- the outcome of an answer: 0 is "accepted"
abbrev pub outcome_of : {A : Type 0} → Result A Refusal → ℕ
outcome_of (Ok a) = 0
outcome_of (Err r) = number r
