-- What a net of version 2 holds (document 02, No. 12): "station entries gain believed root and next root", "messages carry a root".
use Rattle.std.specs.Prelude.{◌≡◌, ◌≢◌, ◌⊎◌, true, List, [], ◌∷◌, ◌++◌, ℕ, ◌≤◌, ◌<◌, get_or}
use Rattle.bits.specs.Masks.{has}
use Rattle.bits.specs.Parts.{part}
use Rattle.protocol.specs.declared.Entry.{Entry}
use Rattle.protocol.specs.declared.Message.{Message}
use Rattle.protocol.specs.Net.{nil, largest_clock, request, reply}
use Rattle.protocol.specs.Fresh.{blank}
use Rattle.protocol.specs.Shaped.{ShapedEntry, Version}
use Rattle.layout.specs.Layout.{entry_size, message_size}
use Rattle.channel.specs.Messages.{message_of, message_bytes}
use Rattle.net.specs.View.{entry_of}
use Rattle.net.specs.Encode.{entry_bytes}

-- an entry of version 1, and two fields more
pub record Entry2 : Type 0 where
  pub base : Entry
  pub believed : ℕ
  pub next : ℕ

pub record Message2 : Type 0 where
  pub base : Message
  pub root : ℕ

-- the third kind of message
abbrev pub root_message : ℕ
root_message = 3

-- of station p among n, with the neighbours nb. No station is the root for good, so that any may have a parent
pub record ShapedEntry2 (n nb p : ℕ) (e : Entry2) : Type 0 where
  pub base : ShapedEntry nb nil p e.base
  pub believed_station : e.believed ≢ nil → e.believed < n
  pub next_near : e.next ≢ nil → has nb e.next ≡ true

-- among n stations and g groups
pub record ShapedMessage2 (n g : ℕ) (m : Message2) : Type 0 where
  pub kinds : (m.base.kind ≡ request) ⊎ ((m.base.kind ≡ reply) ⊎ (m.base.kind ≡ root_message))
  pub grouped : m.base.group < g
  pub flag : m.base.connected ≤ 1
  pub clock_fits : m.base.clock ≤ largest_clock
  -- a request says nothing, a root message only a clock; a reply says whom its sender believes in
  pub bare_request : m.base.kind ≡ request → (m.base.connected ≡ 0) × (m.base.clock ≡ 0) × (m.root ≡ 0)
  pub bare_root : m.base.kind ≡ root_message → (m.base.connected ≡ 0) × (m.root ≡ 0)
  pub belief : m.base.kind ≡ reply → m.root ≢ nil → m.root < n

abbrev pub blank2 : Entry2
blank2 = record { base = blank; believed = nil; next = nil }

-- "12 to a channel"
abbrev pub capacity2 : ℕ
capacity2 = 12

abbrev pub version2 : Version Entry2 Message2
version2 = record { capacity = capacity2; blank = blank2; EntryShaped = λ n nb r p. ShapedEntry2 n nb p; MessageShaped = ShapedMessage2 }

-- ---- in bytes: "14 bytes", and "8 bytes"
abbrev pub entry_size2 : ℕ
entry_size2 = 14

abbrev pub message_size2 : ℕ
message_size2 = 8

abbrev pub entry_bytes2 : Entry2 → List ℕ
entry_bytes2 e = entry_bytes e.base ++ (e.believed ∷ e.next ∷ [])

abbrev pub entry_of2 : List ℕ → Entry2
entry_of2 b = record { base = entry_of (part entry_size b 0); believed = get_or b 12 0; next = get_or b 13 0 }

abbrev pub message_bytes2 : Message2 → List ℕ
message_bytes2 m = message_bytes m.base ++ (m.root ∷ [])

abbrev pub message_of2 : List ℕ → Message2
message_of2 b = record { base = message_of (part message_size b 0); root = get_or b 7 0 }
