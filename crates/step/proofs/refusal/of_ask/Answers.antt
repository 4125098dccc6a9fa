use Rattle.access.specs.Inner.Seen.{net_of}
use Rattle.net.proofs.Forms.{seen}
use Rattle.action.proofs.InRange.{route-small}
use Rattle.step.proofs.refusal.of_ask.Goals as goal

-- the neighbour that would be asked is the route's
pub may_ask-requires : goal.may_ask-requires
may_ask-requires c =
    let N = net_of c.args.net.now in
    rw c.route_of-q.ensures (route-small N (seen _ _ c.args.net.now.is_net.shape) c.args.p c.root_of-root.result)
