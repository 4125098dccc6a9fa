use Rattle.std.proofs.Common.{◌∙◌, arith}
use native.Mathlib.Nat.{add-sub_cancel_left}
use Rattle.channel.proofs.Messages.{nth-message}
use Rattle.channel.proofs.message_at.Goals as goal

pub returns : goal.returns
returns c = c.get_message.ensures ∙ rw add-sub_cancel_left (nth-message c.args.ch.now c.requires.channel c.args.i (omega arith))
