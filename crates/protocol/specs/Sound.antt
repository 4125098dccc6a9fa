-- Sound, word for word as document 02, No. 4, defines it: of one group of a net, and of a net.
use Rattle.std.specs.Prelude.{◌≡◌, ◌≢◌, true, ℕ, ◌≤◌, ◌<◌}
use Rattle.bits.specs.Masks.{has}
use Rattle.tree.specs.Tree.{OnTree}
use Rattle.protocol.specs.declared.Entry.{Entry}
use Rattle.protocol.specs.Net.{Net, nil, reply}
use Rattle.protocol.specs.Entries.{joins, connected, under_way}
use Rattle.protocol.specs.Calls.{tree_of}
use Rattle.protocol.specs.Shaped.{All, Shaped}

-- station q, whose entry is e, in a group with root r: it is "a connected station that lists the receiver and whose clock
-- is at least the reply's", where the receiver is p and the clock k
pub record Vouches (r q : ℕ) (e : Entry) (p k : ℕ) : Type 0 where
  pub holds : connected r q e ≡ true
  pub lists : has e.children p ≡ true
  pub ahead : k ≤ e.clock

pub record Sound (N : Net) (g : ℕ) : Type 0 where
  -- "a station waits on a neighbour wherever a request or its reply is in the channels,
  pub waits : (p q : ℕ) → 0 < under_way N.channel g p q → has (N.entry g p).waiting q ≡ true
  -- and there is at most one message of the two kinds together;
  pub single : (p q : ℕ) → under_way N.channel g p q ≤ 1
  -- a station with a parent or tentative parent joins;
  pub parent_joins : (p : ℕ) → (N.entry g p).parent ≢ nil → joins (N.entry g p) ≡ true
  pub tentative_joins : (p : ℕ) → (N.entry g p).tentative ≢ nil → joins (N.entry g p) ≡ true
  -- every parent chain is agreed, reaches the root,
  pub chains : (p : ℕ) → (N.entry g p).parent ≢ nil → OnTree (tree_of N g) p
  -- and clocks never fall along it;
  pub rising : (p : ℕ) → (N.entry g p).parent ≢ nil → (N.entry g p).clock ≤ (N.entry g (N.entry g p).parent).clock
  -- a reply with flag 1 comes from a connected station that lists the receiver and whose clock is at least the reply's;
  pub replies : (q p : ℕ) → All (λ m. m.kind ≡ reply → m.group ≡ g → m.connected ≡ 1 → Vouches (N.root g) q (N.entry g q) p m.clock) (N.channel q p)
  -- no clock exceeds the root's."
  pub ceiling : (p : ℕ) → (N.entry g p).clock ≤ (N.entry g (N.root g)).clock

-- "A net is sound when all its groups are"
abbrev pub SoundNet : Net → Type 0
SoundNet N = (g : ℕ) → g < N.groups → Sound N g

-- well shaped and sound
pub record ShapedSound (N : Net) : Type 0 where
  pub shaped : Shaped N
  pub sound : SoundNet N
