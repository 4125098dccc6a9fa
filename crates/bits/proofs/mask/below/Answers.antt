use Rattle.std.proofs.Common.{refl}
use Rattle.bits.specs.Masks as mask
use Rattle.bits.proofs.mask.below.Goals as goal

pub returns : goal.returns
unfolding mask.below
returns c = refl
