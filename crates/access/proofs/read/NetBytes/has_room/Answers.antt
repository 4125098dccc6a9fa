use Rattle.std.proofs.Common.{ℕ, ap, ltb}
use Rattle.protocol.specs.Rules.{room?}
use Rattle.access.proofs.read.NetBytes.has_room.Goals as goal

pub returns : goal.returns
unfolding room?
returns c = ap (λ (n : ℕ). ltb n 8) c.in_channel.ensures
