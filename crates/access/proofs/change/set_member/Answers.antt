use Rattle.std.proofs.Common.{arith}
use Rattle.protocol.specs.declared.Entry.{Entry}
use Rattle.protocol.specs.Entries.{with_member}
use Rattle.net.proofs.Records.{member-put}
use Rattle.access.proofs.Laws.{byte-made}
use Rattle.access.proofs.change.set_member.Goals as goal

pub returns : goal.returns
returns c =
    let a = c.args in
    byte-made a.m a.g a.p a.net.now _ 2 a.v (λ (e : Entry). with_member e a.v) (λ e. member-put e a.v) (omega arith) (omega arith) c.set_field.ensures
