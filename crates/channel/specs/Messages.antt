-- A message in its bytes, and a channel's bytes as the list of its messages.
use Rattle.std.specs.Prelude.{List, ◌∷◌, ℕ, get_or}
use Rattle.bits.specs.Numbers.{bytes}
use Rattle.bits.specs.Parts.{number_at}
use Rattle.protocol.specs.declared.Message.{Message}
use Rattle.protocol.specs.Net.{capacity}
use Rattle.layout.specs.Layout.{message_size}
use Rattle.channel.specs.Slots.{read_all, write_all}

-- "8 messages of 7, oldest first: kind, group, connected, clock (4)": a message from its seven bytes
abbrev pub message_of : List ℕ → Message
message_of s = record { kind = get_or s 0 0; group = get_or s 1 0; connected = get_or s 2 0; clock = number_at 4 s 3 }

abbrev pub message_bytes : Message → List ℕ
message_bytes m = m.kind ∷ m.group ∷ m.connected ∷ bytes 4 m.clock

-- the messages of a channel's bytes, oldest first, and the bytes of a channel that holds these messages
abbrev pub messages_of : List ℕ → List Message
messages_of b = read_all message_size message_of b

abbrev pub channel_bytes : List Message → List ℕ
channel_bytes ms = write_all capacity message_size message_bytes ms
