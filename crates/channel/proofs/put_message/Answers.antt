use Rattle.std.proofs.Common.{◌∙◌, sym}
use Rattle.bits.specs.Parts.{splice}
use Rattle.channel.specs.Messages.{message_bytes}
use Rattle.channel.proofs.Moved.{sets-whole}
use Rattle.channel.proofs.Messages.{length-message_bytes}
use Rattle.channel.proofs.put_message.Goals as goal

pub returns : goal.returns
unfolding splice
returns c = c.put.ensures ∙ sets-whole (message_bytes c.args.m) c.args.s.now (c.requires ∙ sym (length-message_bytes c.args.m))
