use Rattle.std.proofs.Common.{◌∙◌, length, ap, sym, arith, take_all}
use Rattle.std.proofs.lemmas.List.{take_more}
use Rattle.bits.proofs.Parts.{wrote_none, wrote_then}
use Rattle.text.proofs.Puts.{within_of}
use Rattle.text.proofs.Digits.{decimal_written}
use Rattle.text.proofs.put_number.Goals as goal

pub loop-b-init : goal.loop-b-init
loop-b-init c = wrote_none _ _

pub loop-b-preserved : goal.loop-b-preserved
loop-b-preserved c = rw (take_more _ _ 0 c.loop-b-test.true) (wrote_then c.loop-b.invariant c.put_byte-next.ensures.wrote)

pub returns : goal.returns
returns c =
    let e = c.as_bytes-b-items.ensures.value ∙ c.format.ensures.text ∙ sym (decimal_written c.args.n (omega arith)) in
    let W = rw (take_all c.loop-b.b-index _ c.loop-b-test.false, e) at c.loop-b.invariant in
    within_of W (omega (arith, W.next, ap length e, ap length c.as_bytes-b-items.ensures.value, c.format.ensures.fits))
