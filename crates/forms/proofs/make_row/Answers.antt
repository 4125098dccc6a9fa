use Rattle.std.proofs.Common.{refl, add-one}
use Rattle.forms.specs.Folds.{in_row}
use Rattle.forms.proofs.make_row.Goals as goal

pub loop-j-init : goal.loop-j-init
unfolding in_row
loop-j-init g c = refl

pub loop-j-preserved : goal.loop-j-preserved
unfolding in_row
loop-j-preserved g c = rw (add-one, c.make.ensures, c.loop-j.invariant) refl
