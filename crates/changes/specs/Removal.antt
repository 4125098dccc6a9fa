-- What taking one thing out of a channel does to its bytes: "Move only the messages present and clear the freed slot" (document 02, No. 5).
-- Over any capacity and width.
use Rattle.std.specs.Prelude.{◌≡◌, List, [], ◌∷◌, ℕ, ◌+◌, ◌*◌, ◌-◌, get_or, replicate}
use Rattle.bits.specs.Parts.{part}
use Rattle.bits.specs.Stretches.{Stretch, stretch, ChangedIn}

-- the count, and the slots of w bytes from i to k - 1
unfoldable pub count_and_slots : (w i k : ℕ) → List Stretch
count_and_slots w i k = stretch 0 1 ∷ stretch (1 + i * w) ((k - i) * w) ∷ []

-- b' is b, which holds k things, without the i-th
pub record Removed (w k i : ℕ) (b b' : List ℕ) : Type 0 where
  -- nothing changed but the count and the slots from i to k - 1
  pub only : ChangedIn (count_and_slots w i k) b b'
  -- the count is one less
  pub count : get_or b' 0 0 ≡ k - 1
  -- the slots behind the i-th, (k - 1 - i) * w bytes, moved up by one slot
  pub moved : part ((k - 1 - i) * w) b' (1 + i * w) ≡ part ((k - 1 - i) * w) b (1 + (i + 1) * w)
  -- the last slot that was in use, w bytes, is cleared
  pub cleared : part w b' (1 + (k - 1) * w) ≡ replicate w 0
