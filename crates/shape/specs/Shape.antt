-- "Well shaped", sentence by sentence of document 01: what a net has besides what a plan has.
use Rattle.std.specs.Prelude.{Bool, ◌&&◌, ◌||◌, List, ℕ, ◌+◌, ◌*◌, ltb, leb, eqb, length}
use Rattle.bits.specs.Masks.{has, within}
use Rattle.bits.specs.Parts.{number_at}
use Rattle.protocol.specs.Net.{nil, most_stations, most_groups, capacity, request, reply}
use Rattle.layout.specs.Layout.{byte, net_length, stations, groups, root, neighbours, routes_at, route_at, entry_size, channels_at, channel_row_size, channel_size, channel_at, message_size, message_at}
use Rattle.bits.specs.Below.{◌implies◌}
use Rattle.layout.specs.declared.form.Mark.{Mark}
use Rattle.layout.specs.declared.form.Mark.TheVariants.{Saved}
use Rattle.layout.specs.Marks.{entry_at}
use Rattle.layout.specs.Bounded.{all_bytes, zeros, table, cell_pass, grid_pass}
use Rattle.plan.specs.Planned.{between, net_header, planned}

-- nil, or one of the neighbours m
unfoldable pub nil_or : ℕ → ℕ → Bool
nil_or m r = eqb r nil || has m r

-- ---- one thing whose bytes begin at `at`: nb are the neighbours of its station
-- "a route is nil or a neighbour of its station, and nil to itself": from p towards d
unfoldable pub route_shaped : (nb p d : ℕ) → List ℕ → ℕ → Bool
route_shaped nb p d l at = nil_or nb (byte l at) && (eqb p d implies eqb (byte l at) nil)

-- "parent and tentative parent are nil or neighbours, both nil at the root": of station p, where r is the root
unfoldable pub parents_shaped : (nb r p : ℕ) → List ℕ → ℕ → Bool
parents_shaped nb r p l at =
    nil_or nb (byte l at) && nil_or nb (byte l (at + 1)) && (eqb r p implies (eqb (byte l at) nil && eqb (byte l (at + 1)) nil))

-- "member is 0 or 1; children and waiting lie within the neighbours"; the fourth byte is zero
unfoldable pub member_and_masks_shaped : (nb : ℕ) → List ℕ → ℕ → Bool
member_and_masks_shaped nb l at =
    leb (byte l (at + 2)) 1 && eqb (byte l (at + 3)) 0 && within most_stations (number_at 2 l (at + 8)) nb && within most_stations (number_at 2 l (at + 10)) nb

unfoldable pub entry_shaped : (nb r p : ℕ) → List ℕ → ℕ → Bool
entry_shaped nb r p l at = parents_shaped nb r p l at && member_and_masks_shaped nb l at

-- "kind is 1 (request) or 2 (reply), group below g, connected 0 or 1, and both connected and clock zero in a request"
unfoldable pub message_shaped : (g : ℕ) → List ℕ → ℕ → Bool
message_shaped g l at =
    between request reply (byte l at) && ltb (byte l (at + 1)) g && leb (byte l (at + 2)) 1
    && (eqb (byte l at) request implies zeros l (at + 2) (at + message_size))

-- "a channel holds at most 8, and none unless its ends are neighbours": to station d
unfoldable pub count_shaped : (nb d : ℕ) → List ℕ → ℕ → Bool
count_shaped nb d l at = leb (byte l at) capacity && (eqb (byte l at) 0 || has nb d)

unfoldable pub channel_shaped : (nb g d : ℕ) → List ℕ → ℕ → Bool
channel_shaped nb g d l at = count_shaped nb d l at && table l (at + 1) message_size capacity (byte l at) (λ i. message_shaped g l (message_at at i))

-- ---- the three tables of a net of n stations and g groups: "every byte of an unused .. station, route (either end not below n), channel or
-- message is zero, its nil places included". Routes and channels row by row; an entry wherever it stands
module _ (l : List ℕ) (n : ℕ) where
  abbrev pub route_row_shaped : ℕ → Bool
  route_row_shaped p = table l (routes_at + most_stations * p) 1 most_stations n (λ d. route_shaped (neighbours l p) p d l (route_at p d))

  unfoldable pub routes_shaped : Bool
  routes_shaped = table l routes_at most_stations most_stations n route_row_shaped

  -- the entry of group k and station p, where it stands
  abbrev pub entry_shaped_at : (m : Mark) (k p : ℕ) → Bool
  entry_shaped_at m k p = entry_shaped (neighbours l p) (root l k) p l (entry_at m k p)

  abbrev pub entry_cell_shaped : (m : Mark) (g k p : ℕ) → Bool
  entry_cell_shaped m g = cell_pass l (entry_at m) entry_size g n (entry_shaped_at m)

  unfoldable pub entries_shaped : (m : Mark) (g : ℕ) → Bool
  entries_shaped m g = grid_pass l (entry_at m) entry_size most_groups most_stations g n (entry_shaped_at m)

  abbrev pub channel_row_shaped : (g s : ℕ) → Bool
  channel_row_shaped g s = table l (channels_at + channel_row_size * s) channel_size most_stations n (λ d. channel_shaped (neighbours l s) g d l (channel_at s d))

  unfoldable pub channels_shaped : (g : ℕ) → Bool
  channels_shaped g = table l channels_at channel_row_size most_stations n (channel_row_shaped g)

-- ---- a net in each form
unfoldable pub laid_out : Mark → List ℕ → Bool
laid_out m l =
    planned l (net_header m) && routes_shaped l (stations l) && entries_shaped l (stations l) m (groups l) && channels_shaped l (stations l) (groups l)

unfoldable pub shaped_as : Mark → List ℕ → Bool
shaped_as m l = eqb (length l) net_length && all_bytes l && laid_out m l

-- the net of document 01 is the saved form
abbrev pub shaped : List ℕ → Bool
shaped l = shaped_as Saved l
