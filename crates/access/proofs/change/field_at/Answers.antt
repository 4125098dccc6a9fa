use Rattle.std.proofs.Common.{ℕ, ◌+◌, ap, ◌∙◌, arith}
use Rattle.layout.specs.Marks.{stretch_at, in_stretch}
use Rattle.access.proofs.change.field_at.Goals as goal

pub returns : goal.returns
returns c =
    let a = c.args in
    record {
      starts = c.stretch_at-start.ensures.0 ∙ ap (stretch_at a.m) c.from.ensures;
      stands = ap (λ (i : ℕ). i + a.o) (c.in_stretch.ensures.0 ∙ ap (in_stretch a.m) c.from-2.ensures);
      fits = omega (arith, c.stretch_size.ensures, c.in_stretch.ensures.1);
      inside = omega (arith, c.stretch_size.ensures, c.stretch_at-start.ensures.1);
    }
