-- The net that bytes show, in the form that they are in. A station or a group past the last shows nothing: no name, no cable, no route, a blank entry, an empty
-- channel.
use Rattle.std.specs.Prelude.{cond, List, [], ℕ, get_or}
use Rattle.bits.specs.Parts.{number_at, part}
use Rattle.protocol.specs.declared.Entry.{Entry}
use Rattle.protocol.specs.Net.{Net, nil}
use Rattle.protocol.specs.Fresh.{blank}
use Rattle.layout.specs.Layout.{stations, groups, route, entry_size, channel_size, channel_at}
use Rattle.layout.specs.Marks.{mark_of, entry_at}
use Rattle.layout.specs.Bounded.{used}
use Rattle.channel.specs.Messages.{messages_of}
use Rattle.forms.specs.Plans.{plan_in}

-- an entry from its bytes: "parent, tentative parent, member, zero, clock (4), children mask (2), waiting mask (2)"
unfoldable pub entry_of : List ℕ → Entry
entry_of b =
    record {
      parent = get_or b 0 0;
      tentative = get_or b 1 0;
      member = get_or b 2 0;
      clock = number_at 4 b 4;
      children = number_at 2 b 8;
      waiting = number_at 2 b 10;
    }

unfoldable pub view : List ℕ → Net
view l =
    record {
      stations = (plan_in l).stations;
      groups = (plan_in l).groups;
      name = (plan_in l).name;
      root = (plan_in l).root;
      neighbours = (plan_in l).neighbours;
      route = λ p d. cond (used p (stations l) d (stations l)) (route l p d) nil;
      entry = λ g p. cond (used g (groups l) p (stations l)) (entry_of (part entry_size l (entry_at (mark_of l) g p))) blank;
      channel = λ s d. cond (used s (stations l) d (stations l)) (messages_of (part channel_size l (channel_at s d))) [];
    }
