use Rattle.access.specs.Inner.Seen.{net_of}
use Rattle.net.proofs.Forms.{seen}
use Rattle.action.proofs.InRange.{parent-small}
use Rattle.step.proofs.refusal.of_refresh.Goals as goal

-- the neighbour that would be asked is the parent
pub may_refresh-requires : goal.may_refresh-requires
may_refresh-requires c = rw c.entry.ensures (parent-small (net_of c.args.net.now) (seen _ _ c.args.net.now.is_net.shape) c.args.g c.args.p)
