use Rattle.std.proofs.Common.{◌∙◌, arith}
use Rattle.protocol.specs.Net.{capacity}
use Rattle.layout.specs.Layout.{message_size}
use Rattle.channel.proofs.Slots.{removed}
use Rattle.channel.proofs.Messages.{queue, removed-list}
use Rattle.channel.proofs.remove_at.Goals as goal

pub returns : goal.returns
returns c =
    let b = c.args.ch.now in
    let h = c.requires.channel in
    rw (c.from-k.ensures) (removed capacity message_size c.args.i b c.move_up.new.s (queue b h) (omega arith) (rw c.from-k.ensures at c.move_up.ensures)
    ∙ removed-list b h c.args.i)
