use Rattle.std.proofs.Common.{eqb, not}
use Rattle.access.specs.Inner.Seen.{net_of}
use Rattle.action.proofs.InRange.{stations-in}
use Rattle.action.proofs.operands.of_route.Goals as goal

pub returns-then-q-eq-NIL-clause-p_bound : goal.returns-then-q-eq-NIL-clause-p_bound
returns-then-q-eq-NIL-clause-p_bound c =
    let a = c.args in
    λ _. stations-in (net_of a.net.now) a.p a.d (not (eqb a.p a.d)) (rw (← c.is_station.ensures, ← c.is_station-2.ensures) c.if-is_station-p.true)

pub returns-else-q-eq-NIL-clause-p_bound : goal.returns-else-q-eq-NIL-clause-p_bound
returns-else-q-eq-NIL-clause-p_bound c =
    let a = c.args in
    λ _. stations-in (net_of a.net.now) a.p a.d (not (eqb a.p a.d)) (rw (← c.is_station.ensures, ← c.is_station-2.ensures) c.if-is_station-p.true)
