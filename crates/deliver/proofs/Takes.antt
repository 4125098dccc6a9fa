-- The oldest message from s to d, and the net once it is taken out.
use mathlib.Core.Path.{◌≡◌, sym, subst}
use mathlib.Core.Bool.{true}
use mathlib.Core.List.{List}
use Prim.Native.Nat.{ℕ, ◌<◌}
use native.Mathlib.Omega.{arith}
use borrow.Author.Tests.{lt-ltb}
use Rattle.protocol.specs.declared.Message.{Message}
use Rattle.protocol.specs.Net.{Net, set_entry, set_channel, take_at}
use Rattle.protocol.specs.Entries.{with_child, stops_waiting}
use Rattle.protocol.specs.Rules.{oldest, room?, heard}
use Rattle.protocol.specs.Shaped.{ShapedMessage, Shaped}
use Rattle.protocol.proofs.Shape.Actions.{near-cable, oldest-shaped, answer-entry, taken-room}
use Rattle.protocol.proofs.Shape.Changes.{entry-shaped, take-shaped}
use Rattle.protocol.proofs.Shape.Entries.{shaped-stops, shaped-hearing}
use Rattle.layout.specs.Marks.{mark_of}
use Rattle.net.specs.View.{view}
use Rattle.net.specs.Encode.{bytes_like}
use Rattle.access.specs.Inner.Nets.{IsNet}
use Rattle.access.proofs.Laws.{is-net-after}
use Rattle.deliver.specs.Inner.MayDeliver.{MayDeliver}

module _ (N : Net) (H : Shaped N) (s d : ℕ) (O : MayDeliver N s d) where
  pub sender : s < N.stations
  sender = (near-cable N H s d O.between).0

  pub receiver : d < N.stations
  receiver = (near-cable N H s d O.between).1

  pub grouped : (g : ℕ) → g ≡ (oldest N.channel s d).group → g < N.groups
  grouped g i = rw i (oldest-shaped N H s d O.some).grouped

  pub taken : (l l' : List ℕ) → l' ≡ bytes_like l (take_at N s d 0) → (IsNet l') × (view l' ≡ take_at N s d 0) × ((M : Net) → bytes_like l' M ≡ bytes_like l M) × (mark_of l ≡ mark_of l')
  taken l l' = is-net-after l (take_at N s d 0) l' (take-shaped N H s d 0)

  -- the group and the receiver of the oldest message are those of the net that is left, too
  pub within : (g : ℕ) → g ≡ (oldest N.channel s d).group → (l l' : List ℕ) → l' ≡ bytes_like l (take_at N s d 0) → (g < (view l').groups) × (d < (view l').stations)
  unfolding take_at set_channel
  within g i l l' e = subst (λ (M : Net). (g < M.groups) × (d < M.stations)) (sym (taken l l' e).1) (grouped g i, receiver)

  -- the receiver of a request lists the sender
  pub listed : (g : ℕ) → g ≡ (oldest N.channel s d).group → Shaped (set_entry (take_at N s d 0) g d (with_child (N.entry g d) s))
  listed g i = answer-entry N H s d O.between O.some g i

  -- that of a reply waits on it no longer, and may adopt it
  pub waited : (g : ℕ) → g ≡ (oldest N.channel s d).group → Shaped (set_entry N g d (stops_waiting (N.entry g d) s))
  waited g i = entry-shaped N H g d _ (grouped g i) receiver (shaped-stops (H.entries g d) s)

  pub hears : (m : Message) → m ≡ oldest N.channel s d → Shaped (heard N s d m)
  unfolding heard
  hears m i =
      let k : ShapedMessage N.groups m = rw i (oldest-shaped N H s d O.some) in
      entry-shaped N H m.group d _ k.grouped receiver
      (shaped-hearing (H.entries m.group d) s m (near-cable N H s d O.between).3 (λ e. omega (arith, e, sender, H.plan.stations_most)) k.clock_fits)

  -- a message taken out leaves the room there was
  pub room-kept : room? N d s ≡ true → room? (take_at N s d 0) d s ≡ true
  unfolding room?
  room-kept t = lt-ltb _ _ (taken-room N H s d 0 d s t)
