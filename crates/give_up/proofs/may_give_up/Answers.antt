use Rattle.std.proofs.Common.{◌≡◌, sym, ◌∙◌, true, false}
use Rattle.bits.specs.Masks.{has}
use Rattle.protocol.specs.Rules as rule
use Rattle.access.specs.Inner.Seen.{net_of}
use Rattle.give_up.proofs.may_give_up.Goals as goal

pub returns-then-has_at : goal.returns-then-has_at
unfolding rule.give_up
returns-then-has_at c =
    let a = c.args in
    let waits : has ((net_of a.net.now).entry a.g a.p).waiting a.q ≡ true =
    rw (← c.entry.ensures, ← c.from.ensures) (sym c.has_at.ensures ∙ c.if-has_at.true) in
    rw waits c.quiet.ensures

pub returns-else-has_at : goal.returns-else-has_at
unfolding rule.give_up
returns-else-has_at c =
    let a = c.args in
    let waits : has ((net_of a.net.now).entry a.g a.p).waiting a.q ≡ false =
    rw (← c.entry.ensures, ← c.from.ensures) (sym c.has_at.ensures ∙ c.if-has_at.false) in
    rw waits c.if-has_at.false
