use Rattle.std.proofs.Common.{arith, rules}
use Rattle.channel.proofs.Messages.{moved-one}
use Rattle.channel.proofs.move_one.Goals as goal

pub returns : goal.returns
returns c =
    let a = c.args in
    moved-one a.at a.s.now c.get_message-m.result c.put_message.new.s (λ i. search rules) (omega arith)
    c.get_message-m.ensures c.put_message.ensures
