-- The C face: a result as one number, the outcome in its lowest byte.
use Rattle.std.specs.Prelude.{ℕ, ◌+◌, ◌*◌}
use Rattle.protocol.specs.Names.{Found}
use Rattle.protocol.specs.Calls.{Called}
use Rattle.step.specs.Steps.{Answer}

-- the outcome, and the number of the case of a reply in the next byte
unfoldable pub step_word : Answer → ℕ
step_word s = s.outcome + 256 * s.case

-- the outcome, and the group in the next byte
unfoldable pub found_word : Found → ℕ
found_word f = f.outcome + 256 * f.group

-- the outcome, the number reached in the next byte, the copies in the one after it
unfoldable pub called_word : Called → ℕ
called_word c = c.outcome + 256 * c.reached + 65536 * c.copies
