use Rattle.std.proofs.Common.{◌≡◌, ℕ, ◌+◌, ◌*◌, List, ap₂, ◌∙◌, arith}
use borrow.Author.Tests.{lt-leb, le-leb, ne_eqb}
use Rattle.bits.specs.Below.{all_below}
use Rattle.layout.specs.Layout.{byte, channel_size, message_size}
use Rattle.layout.specs.Bounded.{zeros, table}
use Rattle.protocol.specs.Net.{capacity}
use Rattle.shape.specs.Shape.{count_shaped, channel_shaped}
use Rattle.shape.proofs.channels.channel_shaped.Goals as goal

-- of a channel that holds nothing every other byte is zero, and that is all
empty : (nb g d at : ℕ) (l : List ℕ) → byte l at ≡ 0 → zeros l (at + 1) (at + channel_size) ≡ channel_shaped nb g d l at
unfolding channel_shaped count_shaped table all_below
empty nb g d at l none =
    let start : at + 1 ≡ at + 1 + message_size * 0 = omega arith in
    let end : at + channel_size ≡ at + 1 + message_size * capacity = omega arith in
    rw none (ap₂ (zeros l) start end)

pub returns-then-count-gt-CAPACITY : goal.returns-then-count-gt-CAPACITY
unfolding channel_shaped count_shaped
returns-then-count-gt-CAPACITY c = simp (lt-leb _ _ c.if-count-gt-CAPACITY.true)

pub returns-then-count-eq0 : goal.returns-then-count-eq0
returns-then-count-eq0 c = let a = c.args in c.zeros.ensures ∙ empty a.m a.g a.d a.at a.s.now c.if-count-eq0.true

pub returns : goal.returns
unfolding channel_shaped count_shaped
returns c = simp (← c.from.ensures, le-leb _ _ c.if-count-gt-CAPACITY.false, ne_eqb _ _ c.if-count-eq0.false) (cc)
