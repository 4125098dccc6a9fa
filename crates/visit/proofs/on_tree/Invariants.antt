use Rattle.std.proofs.Common.{◌≡◌, ◌<◌, ◌-◌}
use Rattle.tree.specs.Tree.{climbs, on_tree}
use Rattle.protocol.specs.Calls.{tree_of}
use Rattle.access.specs.Inner.Seen.{net_of}
use Rattle.visit.proofs.on_tree.Given as goal

-- the chain from c goes on from x, with so many hops left
abbrev pub invariant-loop : goal.invariant-loop
invariant-loop l = let t = tree_of (net_of l.net) l.g in
    (l.x < (net_of l.net).stations) × (on_tree t l.c ≡ climbs t ((net_of l.net).stations - l.counter) l.x)
