use Rattle.std.proofs.Common.{◌≡◌, take, length}
use Rattle.layout.specs.Layout.{net_length}
use Rattle.convert.proofs.copy.Given as goal

-- the first i bytes are those of the net
abbrev pub invariant-loop-i : goal.invariant-loop-i
invariant-loop-i l = (take l.i l.out ≡ take l.i l.net) × (length l.out ≡ net_length)
