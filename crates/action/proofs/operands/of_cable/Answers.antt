use Rattle.std.proofs.Common.{eqb}
use Rattle.access.specs.Inner.Seen.{net_of}
use Rattle.action.proofs.InRange.{cable-in}
use Rattle.net.proofs.Forms.{seen}
use Rattle.action.proofs.operands.of_cable.Goals as goal

pub returns-clause-s_bound : goal.returns-clause-s_bound
returns-clause-s_bound c = λ t. cable-in (net_of c.args.net.now) (seen _ _ c.args.net.now.is_net.shape) c.args.s c.args.d (eqb c.args.c 0) (rw (← c.near.ensures) t)
