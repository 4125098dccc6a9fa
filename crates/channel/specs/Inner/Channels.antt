-- Bytes that are a channel's, for the functions that read and change them.
use Rattle.std.specs.Prelude.{◌≡◌, List, [], ◌∷◌, ◌++◌, ℕ, ◌+◌, ◌*◌, ◌-◌, ◌≤◌, length, drop, get_or, replicate}
use Rattle.protocol.specs.Net.{capacity}
use Rattle.layout.specs.Layout.{channel_size}
use Rattle.channel.specs.Messages.{messages_of, channel_bytes}

-- bytes that are a channel's, in its one form. (The last two fields follow from the first two; they serve callers' arithmetic)
pub record IsChannel (b : List ℕ) : Type 0 where
  pub form : b ≡ channel_bytes (messages_of b)
  pub at_most : length (messages_of b) ≤ capacity
  pub long : length b ≡ channel_size
  pub said : get_or b 0 0 ≡ length (messages_of b)

-- d moved w to the left, with zeros at the end
unfoldable pub moved_up : ℕ → List ℕ → List ℕ
moved_up w d = drop w d ++ replicate w 0

-- ---- over any capacity and width
-- a channel's bytes have this form: their length, a count within the capacity, and zero past the slots in use
pub record Queue (most w : ℕ) (b : List ℕ) : Type 0 where
  pub len : length b ≡ 1 + most * w
  pub at_most : get_or b 0 0 ≤ most
  pub clear : drop (1 + get_or b 0 0 * w) b ≡ replicate ((most - get_or b 0 0) * w) 0

-- each is w long
abbrev pub Sized : ℕ → List (List ℕ) → Type 0
Sized w [] = Unit {0}
Sized w (m ∷ ms) = (length m ≡ w) × Sized w ms
