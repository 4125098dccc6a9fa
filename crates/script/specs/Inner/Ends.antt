-- A step of bytes that are a net's: what its action answers, and the bytes that it leaves.
use Rattle.std.specs.Prelude.{List, ℕ}
use Rattle.protocol.specs.Steps.{rule, outcome}
use Rattle.net.specs.View.{view}
use Rattle.action.specs.declared.Answer.{Answer}
use Rattle.action.specs.Inner.Ends.{Ended}

abbrev pub StepEnd : List ℕ → (k a b c : ℕ) → Answer → List ℕ → Type 0
StepEnd l k a b c = Ended (outcome (view l) k a b c) (rule (view l) k a b c) l
