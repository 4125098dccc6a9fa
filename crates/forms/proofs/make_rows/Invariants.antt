use Rattle.std.proofs.Common.{◌≡◌}
use Rattle.forms.specs.Folds.{in_rows}
use Rattle.forms.proofs.make_rows.Given as goal

abbrev pub invariant-loop-i : goal.invariant-loop-i
invariant-loop-i g l = l.net ≡ in_rows (g.C.Cell.made l.cell) l.initial.net l.i l.m
