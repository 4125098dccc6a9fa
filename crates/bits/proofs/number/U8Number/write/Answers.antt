use Rattle.std.proofs.Common.{ap, sym}
use Rattle.bits.specs.Parts.{splice}
use Rattle.bits.proofs.Numbers.{bytes-one}
use Rattle.bits.proofs.number.U8Number.write.Goals as goal

pub returns : goal.returns
unfolding splice
returns c = ap (splice c.args.s.now c.args.at) (sym (bytes-one c.args.self c.ranges.self.fits))
