use Rattle.std.proofs.Common.{refl}
use Rattle.bits.specs.Masks as mask
use Rattle.bits.proofs.mask.has_at.Goals as goal

pub returns : goal.returns
unfolding mask.has
returns c = refl
