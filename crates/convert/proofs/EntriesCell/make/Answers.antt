use Rattle.std.proofs.Common.{◌≡◌, ◌+◌, ◌-◌, ap, ◌∙◌, arith}
use Rattle.bits.specs.Parts.{part, splice}
use Rattle.bits.proofs.Parts.{part-lent, put_whole}
use Rattle.layout.specs.Marks.{entry_at}
use Rattle.convert.specs.Inner.Carried.{entry_carried}
use Rattle.convert.proofs.EntriesCell.make.Goals as goal

pub returns : goal.returns
unfolding entry_carried
returns c =
    let e = c.args.self.now in
    let x = c.args.out.now in
    let a = c.entry_at-a in
    let b = c.entry_at-b in
    let twelve : a.result + 12 - a.result ≡ 12 = omega arith in
    let taken : c.copy_from_slice.new.self ≡ part 12 e.net.now (entry_at e.from c.args.g c.args.p) =
    c.copy_from_slice.ensures.after ∙ rw twelve (part-lent 12 e.net.now a.result (omega (arith, a.ensures, e.long))) ∙ ap (part 12 e.net.now) a.ensures.0 in
    put_whole b.result _ x _ (omega (arith, c.copy_from_slice.ensures.len)) (omega (arith, b.ensures)) ∙ (λ i. splice x (b.ensures.0 i) (taken i))
