use Rattle.access.specs.Inner.Seen.{net_of}
use Rattle.action.proofs.InRange.{group-in}
use Rattle.action.proofs.operands.of_group.Goals as goal

pub returns-clause-g_bound : goal.returns-clause-g_bound
returns-clause-g_bound c = λ t. group-in (net_of c.args.net.now) c.args.g c.args.b c.args.c (rw (← c.is_group.ensures) t)
