use Rattle.std.proofs.Common.{arith}
use Rattle.protocol.specs.declared.Entry.{Entry}
use Rattle.protocol.specs.Entries.{with_parents}
use Rattle.net.proofs.Records.{parent-put}
use Rattle.access.proofs.Laws.{byte-made}
use Rattle.access.proofs.change.set_parent.Goals as goal

pub returns : goal.returns
returns c =
    let a = c.args in
    byte-made a.m a.g a.p a.net.now _ 0 a.q (λ (e : Entry). with_parents e a.q e.tentative) (λ e. parent-put e a.q) (omega arith) (omega arith) c.set_field.ensures
