-- A net in bytes, in any form: three tables behind the plan. The net that bytes show, the test of bytes, and the bytes of a net.
use Rattle.std.specs.Prelude.{◌≡◌, ◌≢◌, Bool, true, ◌&&◌, List, [], ◌++◌, ℕ, ◌^◌, ◌<◌, eqb, length}
use Rattle.bits.specs.Masks.{has}
use Rattle.protocol.specs.Net.{NetOf, nil, most_stations, most_groups}
use Rattle.protocol.specs.Fresh.{plan_of}
use Rattle.protocol.specs.Shaped.{Version, ShapedChannelOf}
use Rattle.layout.specs.Layout.{plan_length, stations, groups, root, neighbours}
use Rattle.layout.specs.Bounded.{all_bytes}
use Rattle.plan.specs.Planned.{Header, planned}
use Rattle.forms.specs.Plans.{plan_in, plan_bytes}
use Rattle.forms.specs.Places.{Place, station_place, entry_place}
use Rattle.forms.specs.Tables.{Table, shown, tested, cell}

-- "a route is nil or a neighbour of its station, and nil to itself"
abbrev pub ShapedRoute : Place → ℕ → Type 0
ShapedRoute c r = r ≢ nil → (has c.near r ≡ true) × (c.row ≢ c.col)

-- a form of the nets of a version
pub record Form {E M : Type 0} (v : Version E M) : Type 1 where
  pub header : Header
  pub routes : Table most_stations most_stations ℕ ShapedRoute
  pub entries : Table most_groups most_stations E (λ c. v.EntryShaped c.stations c.near c.root c.col)
  pub channels : Table most_stations most_stations (List M) (λ c. ShapedChannelOf v c.stations c.groups c.near c.col)
  pub blank_shaped : (n nb r p : ℕ) → v.EntryShaped n nb r p v.blank
  -- the header has room for what it says
  pub size_fits : header.size < 256 ^ 4
  pub version_fits : header.version < 256
  pub byte7_fits : header.byte7 < 256
  -- the tables stand one after the other behind the plan
  pub first : routes.grid.from ≡ plan_length
  pub second : entries.grid.from ≡ routes.grid.to
  pub third : channels.grid.from ≡ entries.grid.to
  pub last : header.size ≡ channels.grid.to

module _ {E M : Type 0} {v : Version E M} (φ : Form v) where
  -- ---- the net that bytes show
  unfoldable pub view_in : List ℕ → NetOf E M
  view_in l = record {
    stations = (plan_in l).stations;
    groups = (plan_in l).groups;
    name = (plan_in l).name;
    root = (plan_in l).root;
    neighbours = (plan_in l).neighbours;
    route = shown φ.routes (stations l) (stations l) nil l;
    entry = shown φ.entries (groups l) (stations l) v.blank l;
    channel = shown φ.channels (stations l) (stations l) [] l;
  }

  -- ---- the test of bytes, with n stations and g groups
  unfoldable pub laid_out_in : List ℕ → (n g : ℕ) → Bool
  laid_out_in l n g =
      planned l φ.header && tested φ.routes n n (station_place (neighbours l) n g) l
      && tested φ.entries g n (entry_place (neighbours l) (root l) n g) l && tested φ.channels n n (station_place (neighbours l) n g) l

  unfoldable pub shaped_in : List ℕ → Bool
  shaped_in l = eqb (length l) φ.header.size && all_bytes l && laid_out_in l (stations l) (groups l)

  -- ---- the bytes of a net
  module _ (N : NetOf E M) where
    abbrev pub routes_of : List ℕ
    routes_of = φ.routes.grid.lay (cell φ.routes N.stations N.stations N.route)

    abbrev pub entries_of : List ℕ
    entries_of = φ.entries.grid.lay (cell φ.entries N.groups N.stations N.entry)

    abbrev pub channels_of : List ℕ
    channels_of = φ.channels.grid.lay (cell φ.channels N.stations N.stations N.channel)

    unfoldable pub bytes_in : List ℕ
    bytes_in = plan_bytes (plan_of N) φ.header ++ (routes_of ++ (entries_of ++ channels_of))
