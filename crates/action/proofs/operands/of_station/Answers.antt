use Rattle.std.proofs.Common.{eqb}
use Rattle.access.specs.Inner.Seen.{net_of}
use Rattle.action.proofs.InRange.{station-in}
use Rattle.action.proofs.operands.of_station.Goals as goal

pub returns-clause-g_bound : goal.returns-clause-g_bound
returns-clause-g_bound c = λ t. station-in (net_of c.args.net.now) c.args.g c.args.p (eqb c.args.c 0) (rw (← c.is_group.ensures, ← c.is_station.ensures) t)
