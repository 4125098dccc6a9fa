-- The net that bytes show to whoever reads them.
use Rattle.protocol.specs.Net.{Net}
use Rattle.net.specs.View.{view}
use Rattle.access.specs.declared.read.NetBytes.{NetBytes}

abbrev pub net_of : NetBytes → Net
net_of n = view n.bytes.now
