-- "The bytes of a net": the table of document 01. Offsets and widths of its tables, each named once. (A plan is the first 112 bytes.)
use Rattle.std.specs.Prelude.{List, ℕ, ◌+◌, ◌*◌, get_or}
use Rattle.bits.specs.Parts.{number_at}
use Rattle.protocol.specs.Net.{most_stations, longest_name, capacity}

-- the byte at i
abbrev pub byte : List ℕ → ℕ → ℕ
byte l i = get_or l i 0

-- ---- 0: "length, 4 bytes"; 4: "version 1; 5: stations n; 6: groups g; 7: zero"
abbrev pub net_length : ℕ
net_length = 15728

abbrev pub plan_length : ℕ
plan_length = 112

abbrev pub stations : List ℕ → ℕ
stations l = byte l 5

abbrev pub groups : List ℕ → ℕ
groups l = byte l 6

-- ---- 8: "4 groups of 18: name length, 16 name bytes, root"
abbrev pub name_size : ℕ
name_size = 1 + longest_name

abbrev pub group_size : ℕ
group_size = name_size + 1

abbrev pub groups_at : ℕ
groups_at = 8

abbrev pub group_at : ℕ → ℕ
group_at g = groups_at + group_size * g

abbrev pub name_length : List ℕ → ℕ → ℕ
name_length l g = byte l (group_at g)

abbrev pub root : List ℕ → ℕ → ℕ
root l g = byte l (group_at g + name_size)

-- ---- 80: "16 neighbour masks of 2 bytes; bit j is station j"
abbrev pub masks_at : ℕ
masks_at = 80

abbrev pub mask_size : ℕ
mask_size = 2

abbrev pub mask_at : ℕ → ℕ
mask_at p = masks_at + mask_size * p

abbrev pub neighbours : List ℕ → ℕ → ℕ
neighbours l p = number_at mask_size l (mask_at p)

-- ---- 112: "16 x 16 routes: the next station from p towards d"
abbrev pub routes_at : ℕ
routes_at = 112

abbrev pub route_row_size : ℕ
route_row_size = most_stations

abbrev pub route_at : ℕ → ℕ → ℕ
route_at p d = routes_at + route_row_size * p + d

abbrev pub route : List ℕ → ℕ → ℕ → ℕ
route l p d = byte l (route_at p d)

-- ---- 368: "4 x 16 station entries of 12, by group, then station: parent, tentative parent, member, zero, clock (4), children
-- mask (2), waiting mask (2)"; where each stands, in this form and in others, is in Marks.antt
abbrev pub entries_at : ℕ
entries_at = 368

abbrev pub entry_size : ℕ
entry_size = 12

-- ---- 1136: "16 x 16 channels of 57, by sender, then receiver: count, then 8 messages of 7"
abbrev pub message_size : ℕ
message_size = 7

abbrev pub channel_size : ℕ
channel_size = 1 + capacity * message_size

abbrev pub channels_at : ℕ
channels_at = 1136

abbrev pub channel_row_size : ℕ
channel_row_size = most_stations * channel_size

abbrev pub channel_at : ℕ → ℕ → ℕ
channel_at s d = channels_at + channel_row_size * s + channel_size * d

-- message i of the channel at `at`
abbrev pub message_at : ℕ → ℕ → ℕ
message_at at i = at + 1 + message_size * i
