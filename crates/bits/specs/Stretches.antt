-- Stretches of a list, and changes that keep to them.
use Rattle.std.specs.Prelude.{◌≡◌, ◌⊎◌, List, [], ◌∷◌, ℕ, ◌+◌, ◌≤◌, ◌<◌, length, get_or}

-- so many elements from an index on
pub record Stretch : Type 0 where
  pub at : ℕ
  pub size : ℕ

abbrev pub stretch : (at size : ℕ) → Stretch
stretch i n = record { at = i; size = n }

-- stretches that stand a further on
unfoldable pub further : ℕ → List Stretch → List Stretch
further a [] = []
further a (t ∷ ts) = stretch (a + t.at) t.size ∷ further a ts

-- how many elements they have, all together
unfoldable pub sizes : List Stretch → ℕ
sizes [] = 0
sizes (t ∷ ts) = t.size + sizes ts

-- index x is in none of them
unfoldable pub Outside : List Stretch → ℕ → Type 0
Outside [] x = Unit {0}
Outside (t ∷ ts) x = ((x < t.at) ⊎ (t.at + t.size ≤ x)) × Outside ts x

-- from l to l' nothing changed outside these stretches
pub record ChangedIn (ts : List Stretch) (l l' : List ℕ) : Type 0 where
  pub long : length l' ≡ length l
  pub rest : (x : ℕ) → Outside ts x → get_or l' x 0 ≡ get_or l x 0
