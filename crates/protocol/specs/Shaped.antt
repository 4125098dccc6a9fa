-- Well shaped, of a net. Outside its stations and groups a net is blank, so that no bound is named there.
use Rattle.std.specs.Prelude.{◌≡◌, ◌≢◌, ◌⊎◌, true, List, [], ◌∷◌, ℕ, ◌≤◌, ◌<◌, length, get_or}
use Rattle.bits.specs.Masks.{has}
use Rattle.protocol.specs.declared.Entry.{Entry}
use Rattle.protocol.specs.declared.Message.{Message}
use Rattle.protocol.specs.Net.{NetOf, Net, nil, most_stations, most_groups, longest_name, largest_clock, capacity, request, reply}
use Rattle.protocol.specs.Fresh.{Plan, blank, plan_of}

-- a statement at each element of a list
pub data All {A : Type 0} (P : A → Type 0) : List A → Type 0 where
  none : All P []
  both : {x : A} {l : List A} → P x → All P l → All P (x ∷ l)

pub record ShapedPlan (P : Plan) : Type 0 where
  -- "n and g in range"
  pub stations_least : 1 ≤ P.stations
  pub stations_most : P.stations ≤ most_stations
  pub groups_least : 1 ≤ P.groups
  pub groups_most : P.groups ≤ most_groups
  -- "name length 1 to 16, .. names distinct (any byte values); each root below n"
  pub named : (g : ℕ) → g < P.groups → (1 ≤ length (P.name g)) × (length (P.name g) ≤ longest_name)
  pub name_is_bytes : (g i : ℕ) → get_or (P.name g) i 0 < 256
  pub distinct : (g h : ℕ) → g < P.groups → h < g → P.name g ≢ P.name h
  pub roots : (g : ℕ) → g < P.groups → P.root g < P.stations
  -- "masks name stations below n; the neighbour relation is symmetric and no station neighbours itself"
  pub cables : (p q : ℕ) → has (P.neighbours p) q ≡ true → (p < P.stations) × (q < P.stations) × (p ≢ q) × (has (P.neighbours q) p ≡ true)
  -- what is unused
  pub no_name : (g : ℕ) → P.groups ≤ g → P.name g ≡ []
  pub no_root : (g : ℕ) → P.groups ≤ g → P.root g ≡ 0

-- the entry of station p, whose neighbours are nb, in a group with root r
pub record ShapedEntry (nb r p : ℕ) (e : Entry) : Type 0 where
  -- "parent and tentative parent are nil or neighbours, both nil at the root"
  pub parent_near : e.parent ≢ nil → has nb e.parent ≡ true
  pub tentative_near : e.tentative ≢ nil → has nb e.tentative ≡ true
  pub nil_at_root : p ≡ r → (e.parent ≡ nil) × (e.tentative ≡ nil)
  -- "member is 0 or 1; children and waiting lie within the neighbours"
  pub flag : e.member ≤ 1
  pub children_near : (x : ℕ) → has e.children x ≡ true → has nb x ≡ true
  pub waiting_near : (x : ℕ) → has e.waiting x ≡ true → has nb x ≡ true
  -- a clock is a number of 4 bytes
  pub clock_fits : e.clock ≤ largest_clock

-- a message in a net of g groups
pub record ShapedMessage (g : ℕ) (m : Message) : Type 0 where
  -- "kind is 1 (request) or 2 (reply), group below g, connected 0 or 1, and both connected and clock zero in a request"
  pub kinds : (m.kind ≡ request) ⊎ (m.kind ≡ reply)
  pub grouped : m.group < g
  pub flag : m.connected ≤ 1
  pub bare : m.kind ≡ request → (m.connected ≡ 0) × (m.clock ≡ 0)
  pub clock_fits : m.clock ≤ largest_clock

-- ---- nets of any version
-- what a version fixes: how many messages a channel holds at most, the entry of a station that has heard nothing, and what a well-shaped
-- entry is (of station p with the neighbours nb, in a group with root r, among n stations) and a well-shaped message (among n stations
-- and g groups)
pub record Version (E M : Type 0) : Type 1 where
  pub capacity : ℕ
  pub blank : E
  pub EntryShaped : (n nb r p : ℕ) → E → Type 0
  pub MessageShaped : (n g : ℕ) → M → Type 0

-- the messages to d from a station whose neighbours are nb
pub record ShapedChannelOf {E M : Type 0} (v : Version E M) (n g nb d : ℕ) (l : List M) : Type 0 where
  -- "a channel holds at most 8, and none unless its ends are neighbours"
  pub at_most : length l ≤ v.capacity
  pub near : 0 < length l → has nb d ≡ true
  pub each : All (v.MessageShaped n g) l

pub record ShapedOf {E M : Type 0} (v : Version E M) (N : NetOf E M) : Type 0 where
  pub plan : ShapedPlan (plan_of N)
  -- "a route is nil or a neighbour of its station, and nil to itself"
  pub routes : (p d : ℕ) → N.route p d ≢ nil → (has (N.neighbours p) (N.route p d) ≡ true) × (d < N.stations) × (p ≢ d)
  pub entries : (g p : ℕ) → v.EntryShaped N.stations (N.neighbours p) (N.root g) p (N.entry g p)
  pub channels : (s d : ℕ) → ShapedChannelOf v N.stations N.groups (N.neighbours s) d (N.channel s d)
  -- "every byte of an unused group, station .. is zero": it shows nothing
  pub no_station : (g p : ℕ) → N.stations ≤ p → N.entry g p ≡ v.blank
  pub no_group : (g p : ℕ) → N.groups ≤ g → N.entry g p ≡ v.blank

-- ---- version 1
abbrev pub version1 : Version Entry Message
version1 = record { capacity = capacity; blank = blank; EntryShaped = λ n. ShapedEntry; MessageShaped = λ n. ShapedMessage }

abbrev pub Shaped : Net → Type 0
Shaped = ShapedOf version1
