use Rattle.std.proofs.Common.{◌≡◌, arith}
use Rattle.layout.specs.Layout.{channel_at}
use Rattle.access.proofs.Laws.{channel-lent}
use Rattle.access.proofs.read.NetBytes.channel_of.Goals as goal

pub returns : goal.returns
returns c =
    let a = c.args in
    let n = a.self.now in
    let at : c.channel_at-at.result ≡ channel_at a.s a.d = omega arith in
    channel-lent n.bytes.now n.is_net a.s a.d _ c.requires.0 c.requires.1 at
