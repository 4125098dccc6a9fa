-- The words in which C gets the answers of a step, of a find and of a call, read back: % 256, / 256 % 256, / 65536 % 256.
use Rattle.std.specs.Prelude.{◌≡◌, ◌/◌, ◌%◌, ◌<◌}
use Rattle.protocol.specs.Names.{Found}
use Rattle.protocol.specs.Calls.{Called}
use Rattle.step.specs.Steps.{Answer}
use Rattle.rig.specs.Face.{step_word, found_word, called_word}

-- the word of an answer has its values, each in its byte
pub record StepRead (s : Answer) : Type 0 where
  pub outcome : step_word s % 256 ≡ s.outcome
  pub case : step_word s / 256 % 256 ≡ s.case

pub record FoundRead (f : Found) : Type 0 where
  pub outcome : found_word f % 256 ≡ f.outcome
  pub group : found_word f / 256 % 256 ≡ f.group

pub record CalledRead (a : Called) : Type 0 where
  pub outcome : called_word a % 256 ≡ a.outcome
  pub reached : called_word a / 256 % 256 ≡ a.reached
  pub copies : called_word a / 65536 % 256 ≡ a.copies

-- values that fit a byte
abbrev pub SmallStep : Answer → Type 0
SmallStep s = (s.outcome < 256) × (s.case < 256)

abbrev pub SmallFound : Found → Type 0
SmallFound f = (f.outcome < 256) × (f.group < 256)

abbrev pub SmallCalled : Called → Type 0
SmallCalled a = (a.outcome < 256) × (a.reached < 256) × (a.copies < 256)
