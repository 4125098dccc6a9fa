use Rattle.std.proofs.Common.{refl, add-one}
use Rattle.forms.specs.Folds.{in_rows}
use Rattle.forms.proofs.make_rows.Goals as goal

pub loop-i-init : goal.loop-i-init
unfolding in_rows
loop-i-init g c = refl

pub loop-i-preserved : goal.loop-i-preserved
unfolding in_rows
loop-i-preserved g c = rw (add-one, c.make_row.ensures, c.loop-i.invariant) refl
