use Rattle.std.proofs.Common.{◌∙◌, arith}
use Rattle.bits.proofs.Numbers.{bytes-high_first}
use Rattle.bits.proofs.Parts.{put_number}
use Rattle.bits.proofs.number.U32Number.write.Goals as goal

pub returns : goal.returns
returns c = put_number _ _ _ _ (c.copy_from_slice.ensures.after ∙ c.to_be_bytes.ensures ∙ bytes-high_first 4 c.args.self) (omega arith)
