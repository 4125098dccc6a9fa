-- What bytes say that passed a test of a net.
use mathlib.Core.Path.{◌≡◌, refl}
use mathlib.Core.Logic.{◌≢◌}
use mathlib.Core.List.{List}
use mathlib.Core.Bool.{Bool, true, cond}
use Prim.Native.Nat.{ℕ, ◌+◌, ◌≤◌, ◌<◌}
use native.Mathlib.Omega.{arith}
use lib.Dec.{eqb}
use lib.ListN.{length}
use borrow.Author.Tests.{eqb-true, eq-eqb}
use Rattle.bits.specs.Masks.{has, within}
use Rattle.bits.specs.Parts.{number_at}
use Rattle.bits.proofs.Cases.{by-or, and_l, and_r}
use Rattle.protocol.specs.Net.{nil, request, reply, most_stations}
use Rattle.layout.specs.Layout.{byte, net_length, stations, groups, message_size}
use Rattle.layout.specs.declared.form.Mark.{Mark}
use Rattle.layout.specs.declared.form.Mark.TheVariants.{Saved, Working}
use Rattle.layout.specs.Marks.{mark_byte, mark_of}
use Rattle.layout.proofs.Bounded.{bytes_of, zeros-at}
use Rattle.layout.proofs.Facts.{facts}
use Rattle.plan.specs.Planned.{Header, net_header, planned}
use Rattle.plan.proofs.Plans.{counts, header_is}
use Rattle.shape.specs.Shape.{nil_or, route_shaped, parents_shaped, member_and_masks_shaped, entry_shaped, message_shaped, laid_out, shaped_as}

pub nil-or : (m r : ℕ) → nil_or m r ≡ true → r ≢ nil → has m r ≡ true
unfolding nil_or
nil-or m r e n = by-or (eqb r nil) (has m r) e (λ a. absurd (n (eqb-true _ _ a))) (λ b. b)

-- ---- what the bytes of one thing say that passed
module _ (nb p d : ℕ) (l : List ℕ) (at : ℕ) (e : route_shaped nb p d l at ≡ true) where
  pub route-near : byte l at ≢ nil → has nb (byte l at) ≡ true
  unfolding route_shaped
  route-near = nil-or _ _ (simp facts at e).0

  pub route-self : p ≡ d → byte l at ≡ nil
  unfolding route_shaped
  route-self = (simp facts at e).1

module _ (nb r p : ℕ) (l : List ℕ) (at : ℕ) (e : entry_shaped nb r p l at ≡ true) where
  upright : parents_shaped nb r p l at ≡ true
  unfolding entry_shaped
  upright = and_l (parents_shaped nb r p l at) (member_and_masks_shaped nb l at) e

  attached : member_and_masks_shaped nb l at ≡ true
  unfolding entry_shaped
  attached = and_r (parents_shaped nb r p l at) (member_and_masks_shaped nb l at) e

  pub parent-near : byte l at ≢ nil → has nb (byte l at) ≡ true
  unfolding parents_shaped
  parent-near = nil-or _ _ (simp facts at upright).0.0

  pub tentative-near : byte l (at + 1) ≢ nil → has nb (byte l (at + 1)) ≡ true
  unfolding parents_shaped
  tentative-near = nil-or _ _ (simp facts at upright).0.1

  pub at-root : r ≡ p → (byte l at ≡ nil) × (byte l (at + 1) ≡ nil)
  unfolding parents_shaped
  at-root = (simp facts at upright).1

  pub member-at : (byte l (at + 2) ≤ 1) × (byte l (at + 3) ≡ 0)
  unfolding member_and_masks_shaped
  member-at = let f = simp facts at attached in omega arith

  pub children-near : within most_stations (number_at 2 l (at + 8)) nb ≡ true
  unfolding member_and_masks_shaped
  children-near = (simp facts at attached).0.1

  pub waiting-near : within most_stations (number_at 2 l (at + 10)) nb ≡ true
  unfolding member_and_masks_shaped
  waiting-near = (simp facts at attached).1

module _ (g : ℕ) (l : List ℕ) (at : ℕ) (e : message_shaped g l at ≡ true) where
  pub message-numbers : (request ≤ byte l at) × (byte l at ≤ reply) × (byte l (at + 1) < g) × (byte l (at + 2) ≤ 1)
  unfolding message_shaped
  message-numbers = let f = simp facts at e in omega arith

  pub message-bare : byte l at ≡ request → (i : ℕ) → at + 2 ≤ i → i < at + message_size → byte l i ≡ 0
  unfolding message_shaped
  message-bare r = let f = simp facts at e in zeros-at l _ _ (f.1 r)

-- ---- a net that passed
module _ (m : Mark) (l : List ℕ) (e : shaped_as m l ≡ true) where
  pub long : length l ≡ net_length
  unfolding shaped_as
  long = (simp facts at e).0.0

  pub plan-pass : planned l (net_header m) ≡ true
  unfolding shaped_as laid_out
  plan-pass = (simp facts at e).1.0.0.0

  -- byte 7 says its form
  pub marked : mark_of l ≡ m
  unfolding mark_of
  marked = mark-is m (byte l 7) (header_is l (net_header m) plan-pass).2
    where
      mark-is : (m : Mark) (b : ℕ) → b ≡ mark_byte m → cond (eqb b 1) Working Saved ≡ m
      mark-is Saved b e = rw e refl
      mark-is Working b e = rw e refl

-- bytes of the right length whose layout passes are well shaped
pub net-is : (m : Mark) (l : List ℕ) (r : Bool) → length l ≡ net_length → ((i : ℕ) → byte l i < 256) → r ≡ laid_out m l → r ≡ shaped_as m l
unfolding shaped_as
net-is m l r n h e = rw (eq-eqb _ _ n, bytes_of l h) e

-- a plan that passed has few stations and groups
pub planned-few : (l : List ℕ) (H : Header) → planned l H ≡ true → (stations l ≤ 16) × (groups l ≤ 4)
planned-few l H e = let c = counts l H e in (c.1, c.3)
