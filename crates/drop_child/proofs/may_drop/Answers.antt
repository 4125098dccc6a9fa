use Rattle.std.proofs.Common.{◌≡◌, eqb, not, ◌&&◌, true, false}
use Rattle.bits.specs.Masks.{has}
use Rattle.protocol.specs.Rules as rule
use Rattle.access.specs.Inner.Seen.{net_of}
use Rattle.drop_child.proofs.may_drop.Goals as goal

pub returns-then-has_at-child : goal.returns-then-has_at-child
unfolding rule.drop_child
returns-then-has_at-child c =
    let a = c.args in
    let N = net_of a.net.now in
    let elsewhere : (has (N.entry a.g a.p).children a.x && not (eqb (N.entry a.g a.x).parent a.p)) ≡ true =
    rw (← c.entry-e.ensures, ← c.entry-child.ensures, ← c.from.ensures, ← c.has_at.ensures) c.if-has_at-child.true in
    rw elsewhere c.quiet.ensures

pub returns-else-has_at-child : goal.returns-else-has_at-child
unfolding rule.drop_child
returns-else-has_at-child c =
    let a = c.args in
    let N = net_of a.net.now in
    let elsewhere : (has (N.entry a.g a.p).children a.x && not (eqb (N.entry a.g a.x).parent a.p)) ≡ false =
    rw (← c.entry-e.ensures, ← c.entry-child.ensures, ← c.from.ensures, ← c.has_at.ensures) c.if-has_at-child.false in
    rw elsewhere c.if-has_at-child.false
