-- Well shaped, of a net of version 2 in bytes, and where its things stand.
use Rattle.std.specs.Prelude.{Bool, ◌&&◌, ◌||◌, List, ℕ, ◌+◌, ◌*◌, ltb, leb, eqb, length}
use Rattle.bits.specs.Masks.{has}
use Rattle.protocol.specs.Net.{nil, most_stations, most_groups, request, reply}
use Rattle.layout.specs.Layout.{byte, stations, groups, neighbours, entries_at}
use Rattle.bits.specs.Below.{◌implies◌}
use Rattle.layout.specs.Bounded.{all_bytes, zeros, table}
use Rattle.plan.specs.Planned.{between, Header, planned}
use Rattle.shape.specs.Shape.{nil_or, entry_shaped, routes_shaped}
use Rattle.version2.specs.Records.{root_message, capacity2, entry_size2, message_size2}

abbrev pub net_length2 : ℕ
net_length2 = 26096

abbrev pub header2 : Header
header2 = record { size = net_length2; version = 2; byte7 = 0 }

-- ---- where things stand behind the routes
abbrev pub entry_row_size2 : ℕ
entry_row_size2 = most_stations * entry_size2

abbrev pub entry_at2 : ℕ → ℕ → ℕ
entry_at2 g p = entries_at + entry_row_size2 * g + entry_size2 * p

abbrev pub channels_at2 : ℕ
channels_at2 = 1264

abbrev pub channel_size2 : ℕ
channel_size2 = 1 + capacity2 * message_size2

abbrev pub channel_row_size2 : ℕ
channel_row_size2 = most_stations * channel_size2

abbrev pub channel_at2 : ℕ → ℕ → ℕ
channel_at2 s d = channels_at2 + channel_row_size2 * s + channel_size2 * d

-- ---- one thing whose bytes begin at `at`
-- nil, or a station below n
unfoldable pub nil_or_below : ℕ → ℕ → Bool
nil_or_below n r = eqb r nil || ltb r n

unfoldable pub entry_shaped2 : (n nb p : ℕ) → List ℕ → ℕ → Bool
entry_shaped2 n nb p l at = entry_shaped nb nil p l at && nil_or_below n (byte l (at + 12)) && nil_or nb (byte l (at + 13))

unfoldable pub message_shaped2 : (n g : ℕ) → List ℕ → ℕ → Bool
message_shaped2 n g l at =
    between request root_message (byte l at) && ltb (byte l (at + 1)) g && leb (byte l (at + 2)) 1
    && (eqb (byte l at) request implies zeros l (at + 2) (at + message_size2))
    && (eqb (byte l at) root_message implies (eqb (byte l (at + 2)) 0 && eqb (byte l (at + 7)) 0))
    && (eqb (byte l at) reply implies nil_or_below n (byte l (at + 7)))

unfoldable pub channel_shaped2 : (n nb g d : ℕ) → List ℕ → ℕ → Bool
channel_shaped2 n nb g d l at =
    (leb (byte l at) capacity2 && (eqb (byte l at) 0 || has nb d))
    && table l (at + 1) message_size2 capacity2 (byte l at) (λ i. message_shaped2 n g l (at + 1 + message_size2 * i))

-- ---- the whole
unfoldable pub shaped2 : List ℕ → Bool
shaped2 l =
    let n = stations l in
    let g = groups l in
    eqb (length l) net_length2 && all_bytes l
    && (planned l header2 && routes_shaped l n
    && table l entries_at entry_row_size2 most_groups g (λ k. table l (entries_at + entry_row_size2 * k) entry_size2 most_stations n (λ p.
    entry_shaped2 n (neighbours l p) p l (entry_at2 k p)))
    && table l channels_at2 channel_row_size2 most_stations n (λ s. table l (channels_at2 + channel_row_size2 * s) channel_size2 most_stations n (λ d.
    channel_shaped2 n (neighbours l s) g d l (channel_at2 s d))))
