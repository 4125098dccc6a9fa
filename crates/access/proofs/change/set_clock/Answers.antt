use Rattle.std.proofs.Common.{arith}
use Rattle.protocol.specs.declared.Entry.{Entry}
use Rattle.protocol.specs.Entries.{with_clock}
use Rattle.net.proofs.Records.{clock-put}
use Rattle.access.proofs.Laws.{number-made}
use Rattle.access.proofs.change.set_clock.Goals as goal

pub returns : goal.returns
returns c =
    let a = c.args in
    number-made a.m a.g a.p a.net.now _ 4 4 a.clock (λ (e : Entry). with_clock e a.clock) (λ e. clock-put e a.clock) (omega arith) c.set_field.ensures
