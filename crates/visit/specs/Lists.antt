-- The reach list in bytes: "station, parent (255 for the root), depth", three bytes an entry.
use Rattle.std.specs.Prelude.{Bool, List, [], ◌∷◌, ℕ, eqb, length}
use Rattle.tree.specs.declared.Reach.{Reach}

unfoldable pub reach_bytes : List Reach → List ℕ
reach_bytes [] = []
reach_bytes (x ∷ xs) = x.station ∷ x.parent ∷ x.depth ∷ reach_bytes xs

-- "There the reach list is 48 bytes"
abbrev pub list_length : ℕ
list_length = 48

-- a list of bytes that is "of the stated size"
abbrev pub list_fits : List ℕ → Bool
list_fits out = eqb (length out) list_length
