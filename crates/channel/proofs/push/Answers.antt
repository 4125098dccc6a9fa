use Rattle.std.proofs.Common.{◌∙◌, arith}
use native.Mathlib.Nat.{add-sub_cancel_left}
use Rattle.protocol.specs.Net.{capacity}
use Rattle.layout.specs.Layout.{message_size}
use Rattle.channel.specs.Messages.{message_bytes}
use Rattle.channel.proofs.Slots.{sent}
use Rattle.channel.proofs.Messages.{queue, sent-list, length-message_bytes}
use Rattle.channel.proofs.push.Goals as goal

pub returns : goal.returns
returns c =
    let b = c.args.ch.now in
    let h = c.requires.channel in
    rw (c.put_message.ensures, c.from.ensures, add-sub_cancel_left)
    (sent capacity message_size b (message_bytes c.args.m) (queue b h) (omega arith) (length-message_bytes c.args.m) ∙ sent-list b h c.args.m)
