use Rattle.std.proofs.Common.{◌+◌, ◌-◌, ap, ◌∙◌, arith}
use Rattle.bits.specs.Parts.{splice}
use Rattle.bits.proofs.Parts.{back, lent_back}
use Rattle.net.specs.Encode.{entry_bytes}
use Rattle.net.proofs.Records.{length-entry_bytes}
use Rattle.fresh.specs.Inner.Laying.{entry_blank}
use Rattle.fresh.proofs.BlankEntryCell.make.Goals as goal

pub returns : goal.returns
unfolding entry_blank
returns c =
    let l = c.args.net.now in
    let a = c.stretch_at-a in
    let n = c.stretch_size-n in
    let at = c.in_stretch in
    ap (back a.result (a.result + n.result - a.result) l) c.write_entry.ensures
    ∙ lent_back a.result _ l at.result _ (omega (arith, length-entry_bytes c.blank.result, n.ensures, at.ensures.1))
    ∙ (λ i. splice l (a.ensures.0 i + at.ensures.0 i) (entry_bytes (c.blank.ensures i)))
