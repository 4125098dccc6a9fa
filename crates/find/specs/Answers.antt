-- Finding a group in bytes: what is told.
use Rattle.std.specs.Prelude.{cond, List, ℕ, Result, Ok, Err}
use Rattle.protocol.specs.declared.Refusal.{Refusal}
use Rattle.protocol.specs.Refusals.{number}
use Rattle.protocol.specs.Names.{Found, find}
use Rattle.shape.specs.Shape.{shaped}
use Rattle.net.specs.View.{view}

-- the outcome's number and the group of each answer: "a refusal returns its number with zeros for every other result"
abbrev pub found_of : Result ℕ Refusal → Found
found_of (Ok g) = record { outcome = 0; group = g }
found_of (Err r) = record { outcome = number r; group = 0 }

-- 1: "the net is not 15,728 bytes or not well shaped"; then 7, or the group
unfoldable pub found_in : List ℕ → List ℕ → Found
found_in l w = cond (shaped l) (find (view l) w) (record { outcome = 1; group = 0 })
