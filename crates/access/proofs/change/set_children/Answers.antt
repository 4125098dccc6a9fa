use Rattle.std.proofs.Common.{arith}
use Rattle.protocol.specs.declared.Entry.{Entry}
use Rattle.protocol.specs.Entries.{with_children}
use Rattle.net.proofs.Records.{children-put}
use Rattle.access.proofs.Laws.{number-made}
use Rattle.access.proofs.change.set_children.Goals as goal

pub returns : goal.returns
returns c =
    let a = c.args in
    number-made a.m a.g a.p a.net.now _ 8 2 a.children (λ (e : Entry). with_children e a.children) (λ e. children-put e a.children) (omega arith) c.set_field.ensures
