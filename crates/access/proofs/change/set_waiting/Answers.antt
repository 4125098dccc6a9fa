use Rattle.std.proofs.Common.{arith}
use Rattle.protocol.specs.declared.Entry.{Entry}
use Rattle.protocol.specs.Entries.{with_waiting}
use Rattle.net.proofs.Records.{waiting-put}
use Rattle.access.proofs.Laws.{number-made}
use Rattle.access.proofs.change.set_waiting.Goals as goal

pub returns : goal.returns
returns c =
    let a = c.args in
    number-made a.m a.g a.p a.net.now _ 10 2 a.waiting (λ (e : Entry). with_waiting e a.waiting) (λ e. waiting-put e a.waiting) (omega arith) c.set_field.ensures
