use Rattle.std.proofs.Common.{ℕ, ap, slice_set}
use Rattle.bits.specs.Parts.{splice}
use Rattle.fresh.specs.Inner.Laying.{route_nil}
use Rattle.fresh.proofs.NoRouteCell.make.Goals as goal

pub returns : goal.returns
unfolding route_nil splice
returns c = ap (λ (k : ℕ). slice_set c.args.net.now k 255) c.route_at.ensures.0
