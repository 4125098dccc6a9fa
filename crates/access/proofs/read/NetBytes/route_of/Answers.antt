use Rattle.std.proofs.Common.{◌≡◌, sym, ap, ◌∙◌, arith}
use Rattle.layout.specs.Layout.{byte, route_at}
use Rattle.net.proofs.Forms.{view-route}
use Rattle.access.proofs.read.NetBytes.route_of.Goals as goal

pub returns : goal.returns
returns c =
    let a = c.args in
    let l = a.self.now.bytes.now in
    let i : c.route_at.result ≡ route_at a.p a.d = omega arith in
    ap (byte l) i ∙ sym (view-route l a.p a.d (omega arith) (omega arith))
