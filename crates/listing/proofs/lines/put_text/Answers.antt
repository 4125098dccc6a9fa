use Rattle.std.proofs.Common.{◌∙◌, ap, ◌+◌, arith}
use Rattle.bits.proofs.Parts.{put_whole}
use Rattle.listing.proofs.lines.put_text.Goals as goal

pub returns : goal.returns
returns g c =
    let n = c.len.ensures in
    let copied = c.copy_from_slice.ensures.after ∙ c.as_slice.ensures in
    record { next = ap (λ k. c.args.at + k) n; bytes = rw copied (put_whole _ _ _ _ (omega (arith, n)) (omega (arith, n))) }
