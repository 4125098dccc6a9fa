use Rattle.std.proofs.Common.{◌≡◌, arith}
use Rattle.bits.specs.Parts.{splice}
use Rattle.layout.specs.Layout.{route_at}
use Rattle.access.proofs.Laws.{route-back}
use Rattle.access.proofs.change.set_route.Goals as goal

pub returns : goal.returns
unfolding splice
returns c =
    let a = c.args in
    let at : c.route_at-at.result ≡ route_at a.p a.d = omega arith in
    route-back a.net.now c.requires.net a.p a.d _ a.q at c.requires.p_bound.0 c.requires.p_bound.1
