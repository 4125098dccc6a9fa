use Rattle.access.specs.Inner.Seen.{net_of}
use Rattle.find.proofs.Names.{Still}
use Rattle.find.proofs.find_in.Given as goal

abbrev pub invariant-loop-g : goal.invariant-loop-g
invariant-loop-g l = Still (net_of l.net) l.name l.g
