use Rattle.std.proofs.Common.{◌≡◌}
use Rattle.forms.specs.Folds.{in_row}
use Rattle.forms.proofs.make_row.Given as goal

abbrev pub invariant-loop-j : goal.invariant-loop-j
invariant-loop-j g l = l.net ≡ in_row (g.C.Cell.made l.cell) l.initial.net l.i l.j
