use Rattle.std.proofs.Common.{sym, ◌∙◌, arith}
use Rattle.access.specs.Inner.Seen.{net_of}
use Rattle.find.proofs.Names.{still-next, still-hit, still-miss}
use Rattle.find.proofs.find_in.Goals as goal

pub loop-g-preserved : goal.loop-g-preserved
loop-g-preserved c = let a = c.args in
    still-next (net_of a.net.now) a.name.now c.loop-g.g (omega (arith, c.groups-g-end.ensures)) c.loop-g.invariant (sym c.has_name.ensures ∙ c.if-has_name.false)

pub returns-then-has_name : goal.returns-then-has_name
returns-then-has_name c = let a = c.args in
    still-hit (net_of a.net.now) a.name.now c.loop-g.g (omega (arith, c.groups-g-end.ensures)) c.loop-g.invariant (sym c.has_name.ensures ∙ c.if-has_name.true)

pub returns : goal.returns
returns c = let a = c.args in
    still-miss (net_of a.net.now) a.name.now c.loop-g.g (omega (arith, c.groups-g-end.ensures)) c.loop-g.invariant
