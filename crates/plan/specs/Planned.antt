-- "Well shaped", sentence by sentence of document 01: what a plan and a net have in common.
use Rattle.std.specs.Prelude.{Bool, ◌&&◌, not, List, ℕ, ◌+◌, ltb, leb, eqb, length}
use Rattle.bits.specs.Masks.{has, below}
use Rattle.bits.specs.Parts.{number_at}
use Rattle.protocol.specs.Net.{most_stations, most_groups, longest_name}
use Rattle.layout.specs.declared.form.Mark.{Mark}
use Rattle.layout.specs.Marks.{mark_byte}
use Rattle.layout.specs.Layout.{byte, net_length, plan_length, stations, groups, groups_at, name_size, group_size, group_at, name_length, root, masks_at, mask_size, neighbours}
use Rattle.bits.specs.Below.{all_below, ◌implies◌}
use Rattle.layout.specs.Bounded.{all_bytes, zeros, same, table}

abbrev pub between : ℕ → ℕ → ℕ → Bool
between low high x = leb low x && leb x high

-- what the header fixes: how many bytes there are in all, the version, and byte 7
pub record Header : Type 0 where
  pub size : ℕ
  pub version : ℕ
  pub byte7 : ℕ

-- "version 1"
abbrev pub of_version1 : ℕ → ℕ → Header
of_version1 size byte7 = record { size = size; version = 1; byte7 = byte7 }

-- "7: zero"
abbrev pub plan_header : Header
plan_header = of_version1 plan_length 0

-- of a net, in each of its forms
abbrev pub net_header : Mark → Header
net_header m = of_version1 net_length (mark_byte m)

-- "length, version and zero bytes as in the table; n and g in range". The length is that of the whole
unfoldable pub header_shaped : List ℕ → Header → Bool
header_shaped l h =
    eqb (number_at 4 l 0) h.size && eqb (byte l 4) h.version && between 1 most_stations (stations l) && between 1 most_groups (groups l)
    && eqb (byte l 7) h.byte7

-- "name length 1 to 16, padding zero", "each root below n"
unfoldable pub group_shaped : List ℕ → ℕ → ℕ → Bool
group_shaped l n g =
    leb (name_length l g) longest_name && leb 1 (name_length l g)
    && zeros l (group_at g + 1 + name_length l g) (group_at g + name_size) && ltb (root l g) n

-- the names of two groups are the same: their length, and their 16 bytes, of which the padding is zero
unfoldable pub same_names : List ℕ → ℕ → ℕ → Bool
same_names l a b = same l (group_at a) (group_at b) name_size

-- group a has the name of no group before it
unfoldable pub new_name : List ℕ → ℕ → Bool
new_name l a = all_below a (λ b. not (same_names l a b))

-- "names distinct (any byte values)"
unfoldable pub names_distinct : List ℕ → ℕ → Bool
names_distinct l g = all_below g (new_name l)

-- if station p has q for a neighbour, q has p
unfoldable pub both_ways : List ℕ → ℕ → ℕ → Bool
both_ways l p q = has (neighbours l p) q implies has (neighbours l q) p

-- "masks name stations below n; the neighbour relation is symmetric and no station neighbours itself"
unfoldable pub station_cabled : List ℕ → ℕ → ℕ → Bool
station_cabled l n p = below n (neighbours l p) && not (has (neighbours l p) p) && all_below n (both_ways l p)

-- the header, the groups and the cables, of a plan or a net with this header
unfoldable pub planned : List ℕ → Header → Bool
planned l h =
    header_shaped l h && table l groups_at group_size most_groups (groups l) (group_shaped l (stations l)) && names_distinct l (groups l)
    && table l masks_at mask_size most_stations (stations l) (station_cabled l (stations l))

unfoldable pub plan_shaped : List ℕ → Bool
plan_shaped l = eqb (length l) plan_length && all_bytes l && planned l plan_header
