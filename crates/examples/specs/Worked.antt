-- A plan and a net worked out byte by byte.
use Rattle.std.specs.Prelude.{◌≡◌, List, [], ◌∷◌, ◌++◌, ℕ, ◌+◌, ◌*◌, replicate}
use Rattle.bits.specs.Parts.{part}
use Rattle.protocol.specs.Net.{nil}
use Rattle.protocol.specs.ExampleNets.{Start, ◌knowing◌, ◌carrying◌, ◌by◌}
use Rattle.protocol.specs.ExampleRows.{entry, a_request, a_reply}
use Rattle.protocol.specs.Examples.{hulls}

-- ---- the plan of "The bench program": stations 0-1-2 in a line, one group "A" (hex 41) with root 0
unfoldable pub worked_plan : List ℕ
worked_plan =
    -- 0: "length 00 00 00 70", "version 1", "stations n", "groups g", "zero"
    0x00 ∷ 0x00 ∷ 0x00 ∷ 0x70 ∷ 1 ∷ 3 ∷ 1 ∷ 0
    -- 8: "4 groups of 18: name length, 16 name bytes, root"; three are unused
    ∷ 1 ∷ 0x41 ∷ 0 ∷ 0 ∷ 0 ∷ 0 ∷ 0 ∷ 0 ∷ 0 ∷ 0 ∷ 0 ∷ 0 ∷ 0 ∷ 0 ∷ 0 ∷ 0 ∷ 0 ∷ 0
    ∷ 0 ∷ 0 ∷ 0 ∷ 0 ∷ 0 ∷ 0 ∷ 0 ∷ 0 ∷ 0 ∷ 0 ∷ 0 ∷ 0 ∷ 0 ∷ 0 ∷ 0 ∷ 0 ∷ 0 ∷ 0
    ∷ 0 ∷ 0 ∷ 0 ∷ 0 ∷ 0 ∷ 0 ∷ 0 ∷ 0 ∷ 0 ∷ 0 ∷ 0 ∷ 0 ∷ 0 ∷ 0 ∷ 0 ∷ 0 ∷ 0 ∷ 0
    ∷ 0 ∷ 0 ∷ 0 ∷ 0 ∷ 0 ∷ 0 ∷ 0 ∷ 0 ∷ 0 ∷ 0 ∷ 0 ∷ 0 ∷ 0 ∷ 0 ∷ 0 ∷ 0 ∷ 0 ∷ 0
    -- 80: "16 neighbour masks of 2 bytes; bit j is station j"; thirteen are unused
    ∷ 0 ∷ 0b010 ∷ 0 ∷ 0b101 ∷ 0 ∷ 0b010 ∷ 0 ∷ 0 ∷ 0 ∷ 0 ∷ 0 ∷ 0 ∷ 0 ∷ 0 ∷ 0 ∷ 0
    ∷ 0 ∷ 0 ∷ 0 ∷ 0 ∷ 0 ∷ 0 ∷ 0 ∷ 0 ∷ 0 ∷ 0 ∷ 0 ∷ 0 ∷ 0 ∷ 0 ∷ 0 ∷ 0
    ∷ []

-- after the steps of the listing: the tally, nine "counts of 4 bytes", and the reach list, "48 bytes"
abbrev pub worked_tally : List ℕ
worked_tally =
    0 ∷ 0 ∷ 0 ∷ 13 ∷ 0 ∷ 0 ∷ 0 ∷ 0 ∷ 0 ∷ 0 ∷ 0 ∷ 6 ∷ 0 ∷ 0 ∷ 0 ∷ 6 ∷ 0 ∷ 0 ∷ 0 ∷ 0
    ∷ 0 ∷ 0 ∷ 0 ∷ 2 ∷ 0 ∷ 0 ∷ 0 ∷ 0 ∷ 0 ∷ 0 ∷ 0 ∷ 1 ∷ 0 ∷ 0 ∷ 0 ∷ 0
    ∷ []

abbrev pub worked_list : List ℕ
worked_list = (0 ∷ 255 ∷ 0 ∷ 1 ∷ 0 ∷ 1 ∷ 2 ∷ 1 ∷ 2 ∷ []) ++ replicate 39 255

-- ---- a net with stations 0-1 and the groups H21 (root 0), H210 (root 1) and HHHHHHHHHHHHHHHH (root 0): two routes are set, in group 1
-- there is an entry at station 0 and in group 2 one at station 1, and two messages are on their way from 0 to 1
abbrev pub worked_net : Start
worked_net =
    hulls by (9, 0, 1, 1) by (9, 1, 0, 0)
    knowing (1, 0, entry 1 nil 1 0x01020304 0b10 0) knowing (2, 1, entry nil 0 0 0x05060708 0 0b01)
    carrying (0, 1, a_request 2) carrying (0, 1, a_reply 1 1 0x090A0B0C)

-- of its bytes l: the front, the routes, these two entries and this channel
pub record WorkedNet (l : List ℕ) : Type 0 where
  -- 0: "length, 4 bytes: 00 00 3D 70", "version 1", stations, groups, zero
  pub header : part 8 l 0 ≡ 0x00 ∷ 0x00 ∷ 0x3D ∷ 0x70 ∷ 1 ∷ 2 ∷ 3 ∷ 0 ∷ []
  -- 8: "4 groups of 18: name length, 16 name bytes, root"
  pub groups : part 72 l 8
      ≡ (3 ∷ 0x48 ∷ 0x32 ∷ 0x31 ∷ []) ++ replicate 13 0 ++ (0 ∷ [])
      ++ (4 ∷ 0x48 ∷ 0x32 ∷ 0x31 ∷ 0x30 ∷ []) ++ replicate 12 0 ++ (1 ∷ [])
      ++ (16 ∷ []) ++ replicate 16 0x48 ++ (0 ∷ [])
      ++ replicate 18 0
  -- 80: "16 neighbour masks of 2 bytes"
  pub masks : part 32 l 80 ≡ (0 ∷ 0b10 ∷ 0 ∷ 0b01 ∷ []) ++ replicate 28 0
  -- 112: "16 x 16 routes: the next station from p towards d"
  pub routes : part 32 l 112 ≡ (255 ∷ 1 ∷ []) ++ replicate 14 0 ++ (0 ∷ 255 ∷ []) ++ replicate 14 0
  -- 368: "by group, then station: parent, tentative parent, member, zero, clock (4), children mask (2), waiting mask (2)"
  pub entry10 : part 12 l (368 + 192 * 1 + 12 * 0) ≡ 1 ∷ 255 ∷ 1 ∷ 0 ∷ 0x01 ∷ 0x02 ∷ 0x03 ∷ 0x04 ∷ 0 ∷ 0b10 ∷ 0 ∷ 0 ∷ []
  pub entry21 : part 12 l (368 + 192 * 2 + 12 * 1) ≡ 255 ∷ 0 ∷ 0 ∷ 0 ∷ 0x05 ∷ 0x06 ∷ 0x07 ∷ 0x08 ∷ 0 ∷ 0 ∷ 0 ∷ 0b01 ∷ []
  -- 1136: "by sender, then receiver: count, then 8 messages of 7, oldest first: kind, group, connected, clock (4)"
  pub channel01 : part 57 l (1136 + 912 * 0 + 57 * 1)
      ≡ (2 ∷ 1 ∷ 2 ∷ 0 ∷ 0 ∷ 0 ∷ 0 ∷ 0 ∷ 2 ∷ 1 ∷ 1 ∷ 0x09 ∷ 0x0A ∷ 0x0B ∷ 0x0C ∷ []) ++ replicate 42 0

-- ---- the same net in the working form, of its bytes l: the mark, the entries of both stations, and what stands where it stood. An entry of
-- a group past the last is all zero, here between the stations
pub record WorkedWorking (l : List ℕ) : Type 0 where
  -- 7: one
  pub header : part 8 l 0 ≡ 0x00 ∷ 0x00 ∷ 0x3D ∷ 0x70 ∷ 1 ∷ 2 ∷ 3 ∷ 1 ∷ []
  pub routes : part 32 l 112 ≡ (255 ∷ 1 ∷ []) ++ replicate 14 0 ++ (0 ∷ 255 ∷ []) ++ replicate 14 0
  -- 368: by station, then group; a station's entries for all groups in 48 bytes
  pub station0 : part 48 l (368 + 48 * 0)
      ≡ (255 ∷ 255 ∷ []) ++ replicate 10 0
      ++ (1 ∷ 255 ∷ 1 ∷ 0 ∷ 0x01 ∷ 0x02 ∷ 0x03 ∷ 0x04 ∷ 0 ∷ 0b10 ∷ 0 ∷ 0 ∷ [])
      ++ (255 ∷ 255 ∷ []) ++ replicate 10 0
      ++ replicate 12 0
  pub station1 : part 48 l (368 + 48 * 1)
      ≡ (255 ∷ 255 ∷ []) ++ replicate 10 0
      ++ (255 ∷ 255 ∷ []) ++ replicate 10 0
      ++ (255 ∷ 0 ∷ 0 ∷ 0 ∷ 0x05 ∷ 0x06 ∷ 0x07 ∷ 0x08 ∷ 0 ∷ 0 ∷ 0 ∷ 0b01 ∷ [])
      ++ replicate 12 0
  pub station2 : part 48 l (368 + 48 * 2) ≡ replicate 48 0
  pub channel01 : part 57 l (1136 + 912 * 0 + 57 * 1)
      ≡ (2 ∷ 1 ∷ 2 ∷ 0 ∷ 0 ∷ 0 ∷ 0 ∷ 0 ∷ 2 ∷ 1 ∷ 1 ∷ 0x09 ∷ 0x0A ∷ 0x0B ∷ 0x0C ∷ []) ++ replicate 42 0
