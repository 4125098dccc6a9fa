use Rattle.std.proofs.Common.{◌≡◌, ℕ, ◌+◌, ◌-◌, ◌*◌, ap, ◌∙◌, arith}
use Rattle.layout.specs.Layout.{message_size}
use Rattle.channel.specs.Inner.Channels.{moved_up}
use Rattle.channel.proofs.Moved.{upto, moved-turn, moved-cleared}
use Rattle.channel.proofs.move_up.Goals as goal

pub loop-j-preserved : goal.loop-j-preserved
loop-j-preserved c =
    let l = c.loop-j in
    let d = c.args.s.now in
    let n : l.j * message_size + message_size ≡ (l.j + 1) * message_size = omega arith in
    c.move_one.ensures ∙ moved-turn message_size (l.j * message_size) d l.s l.invariant (omega arith) ∙ ap (λ (i : ℕ). upto i (moved_up message_size d) d) n

pub returns : goal.returns
returns c =
    let l = c.loop-j in
    let d = c.args.s.now in
    let k = (c.args.n - 1) * message_size in
    let e : l.j ≡ c.args.n - 1 = omega arith in
    let moved : l.s ≡ upto k (moved_up message_size d) d = rw e at l.invariant in
    moved-cleared message_size k (k + message_size - k) d l.s c.fill.new.self moved (omega arith) (omega arith) (c.fill.ensures.after (λ y e. e))
