use Rattle.std.proofs.Common.{◌-◌, ap, ◌∙◌, arith}
use Rattle.bits.specs.Numbers.{bytes}
use Rattle.bits.proofs.Numbers.{length-bytes}
use Rattle.bits.proofs.Parts.{back}
use Rattle.access.proofs.Laws.{field_back}
use Rattle.access.proofs.change.set_field.Goals as goal

pub returns : goal.returns
returns g c =
    let a = c.args in
    let f = c.field_at-start.result in
    let w = g.N.Number.width in
    let v = g.N.Number.value a.v in
    ap (back f.start (f.end - f.start) a.net.now) c.put.ensures
    ∙ field_back a.m a.g a.p a.o f a.net.now (bytes w v) c.field_at-start.ensures (omega (arith, length-bytes w v))
