use Rattle.access.specs.Inner.Seen.{net_of}
use Rattle.action.proofs.InRange.{pair-in}
use Rattle.net.proofs.Forms.{seen}
use Rattle.action.proofs.operands.of_pair.Goals as goal

pub returns-clause-g_bound : goal.returns-clause-g_bound
returns-clause-g_bound c = λ t. pair-in (net_of c.args.net.now) (seen _ _ c.args.net.now.is_net.shape) c.args.g c.args.p c.args.q (rw (← c.is_group.ensures, ← c.near.ensures) t)
