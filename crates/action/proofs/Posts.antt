-- A request that goes out once the entry of its station is made into another.
use mathlib.Core.Path.{◌≡◌, sym, subst, ◌∙◌}
use mathlib.Core.Bool.{true}
use mathlib.Core.List.{List}
use Prim.Native.Nat.{ℕ, ◌<◌}
use lib.ListN.{length}
use borrow.Author.Tests.{ltb-true}
use Rattle.protocol.specs.declared.Entry.{Entry}
use Rattle.protocol.specs.declared.Message.{Message}
use Rattle.protocol.specs.Net.{Net, capacity, set_entry, send}
use Rattle.protocol.specs.Rules.{room?}
use Rattle.protocol.specs.Shaped.{Shaped}
use Rattle.net.specs.View.{view}
use Rattle.net.specs.Encode.{bytes_like}
use Rattle.access.specs.Inner.Nets.{IsNet}
use Rattle.access.proofs.Laws.{is-net-after}

-- l' is l once station p has the entry e in group g; the net is well shaped then
module _ (l : List ℕ) (g p : ℕ) (e : Entry) (H : Shaped (set_entry (view l) g p e)) (l' : List ℕ) (made : l' ≡ bytes_like l (set_entry (view l) g p e)) (q : ℕ) where
  -- it may send to q, where there was room
  pub may-send : p < (view l).stations → q < (view l).stations → room? (view l) p q ≡ true
      → (IsNet l') × ((p < (view l').stations) × (q < (view l').stations) × (length ((view l').channel p q) < capacity))
  unfolding set_entry room?
  may-send hp hq room =
      let w = is-net-after l _ l' H made in
      (w.0, subst (λ (M : Net). (p < M.stations) × (q < M.stations) × (length (M.channel p q) < capacity)) (sym w.1) (hp, hq, ltb-true _ _ room))

  pub sent : (l'' : List ℕ) (m : Message) → l'' ≡ bytes_like l' (send (view l') p q m) → l'' ≡ bytes_like l (send (set_entry (view l) g p e) p q m)
  sent l'' m s = let w = is-net-after l _ l' H made in s ∙ w.2 _ ∙ (λ i. bytes_like l (send (w.1 i) p q m))
