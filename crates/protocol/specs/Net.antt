-- The net: stations joined by cables, groups, routes, what each station knows of each group, and the channels.
use Rattle.std.specs.Prelude.{Bool, cond, ◌&&◌, List, [], ◌∷◌, ◌++◌, ℕ, zero, suc, eqb, ltb, length}
use Rattle.bits.specs.Masks.{has}
use Rattle.bits.specs.Sums.{sum_below}
use Rattle.tree.specs.Tree as tree
use Rattle.protocol.specs.declared.Entry.{Entry}
use Rattle.protocol.specs.declared.Message.{Message}

-- ---- the numbers of document 01, each named once
-- 255 is "nil" wherever a station may be missing
abbrev pub nil : ℕ
nil = tree.nil

abbrev pub most_stations : ℕ
most_stations = 16

abbrev pub most_groups : ℕ
most_groups = 4

abbrev pub longest_name : ℕ
longest_name = 16

abbrev pub largest_clock : ℕ
largest_clock = 4294967295

-- a script's bytes
abbrev pub longest_script : ℕ
longest_script = 16384

-- how many messages a channel of version 1 holds at most
abbrev pub capacity : ℕ
capacity = 8

-- the two kinds of message
abbrev pub request : ℕ
request = 1

abbrev pub reply : ℕ
reply = 2

-- ---- a net, over what a station knows of a group (E) and what a message says (M)
pub record NetOf (E M : Type 0) : Type 0 where
  pub stations : ℕ
  pub groups : ℕ
  pub name : ℕ → List ℕ  -- of a group
  pub root : ℕ → ℕ  -- of a group
  pub neighbours : ℕ → ℕ  -- of a station, as a mask
  pub route : ℕ → ℕ → ℕ  -- the next station from p towards d
  pub entry : ℕ → ℕ → E  -- what group g is to station p
  pub channel : ℕ → ℕ → List M  -- the messages from s to d, oldest first

abbrev pub Net : Type 0
Net = NetOf Entry Message

-- ---- changes of one thing
-- a function with another value at i, and one of two arguments with another value at i and j
unfoldable pub upd : {A : Type 0} → (ℕ → A) → ℕ → A → ℕ → A
upd f i v x = cond (eqb x i) v (f x)

unfoldable pub upd2 : {A : Type 0} → (ℕ → ℕ → A) → ℕ → ℕ → A → ℕ → ℕ → A
upd2 f i j v = upd f i (upd (f i) j v)

-- a list without its i-th element: the later ones move up
unfoldable pub remove_at : {A : Type 0} → ℕ → List A → List A
remove_at i [] = []
remove_at zero (x ∷ l) = l
remove_at (suc i) (x ∷ l) = x ∷ remove_at i l

module _ {E M : Type 0} (N : NetOf E M) where
  -- another entry of group g at station p
  unfoldable pub set_entry : ℕ → ℕ → E → NetOf E M
  set_entry g p e = record {
    stations = N.stations;
    groups = N.groups;
    name = N.name;
    root = N.root;
    neighbours = N.neighbours;
    route = N.route;
    entry = upd2 N.entry g p e;
    channel = N.channel;
  }

  -- other messages from s to d
  unfoldable pub set_channel : ℕ → ℕ → List M → NetOf E M
  set_channel s d l = record {
    stations = N.stations;
    groups = N.groups;
    name = N.name;
    root = N.root;
    neighbours = N.neighbours;
    route = N.route;
    entry = N.entry;
    channel = upd2 N.channel s d l;
  }

  -- another route from p towards d
  unfoldable pub set_route : ℕ → ℕ → ℕ → NetOf E M
  set_route p d q = record {
    stations = N.stations;
    groups = N.groups;
    name = N.name;
    root = N.root;
    neighbours = N.neighbours;
    route = upd2 N.route p d q;
    entry = N.entry;
    channel = N.channel;
  }

  -- a message goes out from s to d: it comes last. "Channels are first in, first out"
  unfoldable pub send : ℕ → ℕ → M → NetOf E M
  send s d m = set_channel s d (N.channel s d ++ (m ∷ []))

  -- the message at position i from s to d is taken out: "later ones, other groups' too, move up in their order"
  unfoldable pub take_at : ℕ → ℕ → ℕ → NetOf E M
  take_at s d i = set_channel s d (remove_at i (N.channel s d))

  -- ---- what an operand may be
  unfoldable pub group? : ℕ → Bool
  group? g = ltb g N.groups

  unfoldable pub station? : ℕ → Bool
  station? p = ltb p N.stations

  -- two stations that are neighbours
  unfoldable pub near? : ℕ → ℕ → Bool
  near? p q = station? p && station? q && has (N.neighbours p) q

  -- room for one message more from s to d, in channels of this capacity
  abbrev pub room_in : (capacity s d : ℕ) → Bool
  room_in capacity s d = ltb (length (N.channel s d)) capacity

  -- how many messages are in the channels, all together
  unfoldable pub in_channels : ℕ
  in_channels = sum_below N.stations (λ s. sum_below N.stations (λ d. length (N.channel s d)))
