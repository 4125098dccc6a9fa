use Rattle.std.proofs.Common.{◌≡◌, ◌*◌, take}
use Rattle.visit.specs.Lists.{reach_bytes}
use Rattle.lent.proofs.list.fill.Given as goal

-- the first `i` records have the first bytes, three each
abbrev pub invariant-loop-i : goal.invariant-loop-i
invariant-loop-i l = reach_bytes (take l.i l.list) ≡ take (3 * l.i) l.bytes
