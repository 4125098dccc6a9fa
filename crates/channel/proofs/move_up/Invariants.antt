use Rattle.std.proofs.Common.{◌≡◌, ◌*◌}
use Rattle.layout.specs.Layout.{message_size}
use Rattle.channel.specs.Inner.Channels.{moved_up}
use Rattle.channel.proofs.Moved.{upto}
use Rattle.channel.proofs.move_up.Given as goal

abbrev pub invariant-loop-j : goal.invariant-loop-j
invariant-loop-j l = l.s ≡ upto (l.j * message_size) (moved_up message_size l.fn.s) l.fn.s
