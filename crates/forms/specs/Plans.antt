-- The plan at the front of a plan's or a net's bytes, from both sides.
use Rattle.std.specs.Prelude.{cond, List, [], ◌∷◌, ◌++◌, ℕ, ltb, length, get_or, take, drop}
use Rattle.bits.specs.Numbers.{bytes}
use Rattle.bits.specs.Parts.{part}
use Rattle.protocol.specs.Net.{most_stations, most_groups}
use Rattle.protocol.specs.Fresh.{Plan}
use Rattle.layout.specs.Layout.{stations, groups, name_size, group_size, group_at, root, mask_size, neighbours}
use Rattle.plan.specs.Planned.{Header}
use Rattle.forms.specs.Cells.{cells, if_used}

-- ---- the plan that bytes show
-- a name from its length byte and sixteen bytes
unfoldable pub name_of : List ℕ → List ℕ
name_of b = take (get_or b 0 0) (drop 1 b)

-- a group or a station past the last shows nothing: no name, no cable
unfoldable pub plan_in : List ℕ → Plan
plan_in l =
    record {
      stations = stations l;
      groups = groups l;
      name = λ g. cond (ltb g (groups l)) (name_of (part name_size l (group_at g))) [];
      root = λ g. cond (ltb g (groups l)) (root l g) 0;
      neighbours = λ p. cond (ltb p (stations l)) (neighbours l p) 0;
    }

-- ---- the bytes of a plan
-- a name: its length, and its bytes in a field of sixteen
unfoldable pub name_bytes : List ℕ → List ℕ
name_bytes n = part name_size (length n ∷ n) 0

module _ (P : Plan) where
  -- "length, 4 bytes", version, stations, groups, byte 7
  unfoldable pub header_bytes : Header → List ℕ
  header_bytes h = bytes 4 h.size ++ (h.version ∷ P.stations ∷ P.groups ∷ h.byte7 ∷ [])

  unfoldable pub group_cell : ℕ → List ℕ
  group_cell g = if_used (ltb g P.groups) (name_bytes (P.name g) ++ (P.root g ∷ []))

  unfoldable pub mask_cell : ℕ → List ℕ
  mask_cell p = if_used (ltb p P.stations) (bytes mask_size (P.neighbours p))

  -- the first 112 bytes, of a plan or a net with this header
  unfoldable pub plan_bytes : Header → List ℕ
  plan_bytes h = header_bytes h ++ (cells group_size most_groups group_cell ++ cells mask_size most_stations mask_cell)
