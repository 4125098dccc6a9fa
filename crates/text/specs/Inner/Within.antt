-- What a function leaves that puts bytes into a lent buffer.
use Rattle.std.specs.Prelude.{◌≡◌, List, ℕ, ◌+◌, ◌≤◌, length}
use Rattle.bits.specs.Parts.{Wrote}

-- `bs` stands there from index `i` on, and the answer is the place after it: `room` bytes are enough. That the buffer is as long as before
-- follows, and is here for the callers' arithmetic
pub record WroteWithin (room : ℕ) (out out' : List ℕ) (i r : ℕ) (bs : List ℕ) : Type 0 where
  pub wrote : Wrote out out' i r bs
  pub within : r ≤ i + room
  pub long : length out' ≡ length out
