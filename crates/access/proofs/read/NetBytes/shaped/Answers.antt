use Rattle.std.proofs.Common.{sym, ◌∙◌}
use Rattle.shape.proofs.Nets.{marked}
use Rattle.access.proofs.Laws.{is-net}
use Rattle.access.proofs.read.NetBytes.shaped.Goals as goal

pub invariant_of-result : goal.invariant_of-result
invariant_of-result c =
    let t = sym c.passes.ensures ∙ c.if-not-passes.false in
    record { is_net = is-net c.args.mark c.args.bytes.now t; is_marked = sym (marked c.args.mark c.args.bytes.now t) }
