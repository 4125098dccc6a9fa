-- What follows from a well-shaped plan, read off its bytes. (A net of any header has these too.)
use mathlib.Core.Path.{◌≡◌}
use mathlib.Core.Bool.{Bool, true, false}
use mathlib.Core.List.{List}
use Prim.Native.Nat.{ℕ, ◌+◌, ◌≤◌, ◌<◌}
use native.Mathlib.Omega.{arith}
use lib.ListN.{length}
use borrow.Author.Tests.{not-true, eq-eqb}
use Rattle.bits.specs.Masks.{has}
use Rattle.bits.specs.Parts.{number_at}
use Rattle.bits.proofs.Masks.{below-has}
use Rattle.protocol.specs.Net.{most_stations, most_groups}
use Rattle.layout.specs.Layout.{byte, plan_length, stations, groups, group_size, group_at, name_length, root, mask_at, neighbours}
use Rattle.layout.proofs.Bounded.{bytes-at, bytes_of, table_at, table-rest, zeros-at}
use Rattle.layout.proofs.Facts.{facts}
use Rattle.plan.specs.Planned.{Header, plan_header, header_shaped, group_shaped, same_names, new_name, names_distinct, both_ways, station_cabled, planned, plan_shaped}

pub header-few : (l : List ℕ) (H : Header) → header_shaped l H ≡ true → (stations l ≤ 16) × (groups l ≤ 4)
unfolding header_shaped
header-few l H e = let h = simp facts at e in omega arith

module _ (l : List ℕ) (H : Header) (e : planned l H ≡ true) where
  heads : header_shaped l H ≡ true
  unfolding planned
  heads = (simp facts at e).0.0.0

  pub header_is : (number_at 4 l 0 ≡ H.size) × (byte l 4 ≡ H.version) × (byte l 7 ≡ H.byte7)
  unfolding header_shaped
  header_is = let f = simp facts at heads in (f.0.0.0.0, f.0.0.0.1, f.1)

  pub counts : (1 ≤ stations l) × (stations l ≤ 16) × (1 ≤ groups l) × (groups l ≤ 4)
  unfolding header_shaped
  counts = let f = simp facts at heads in omega arith

  group-at : (g : ℕ) → g < groups l → group_shaped l (stations l) g ≡ true
  unfolding planned
  group-at g h = table_at l _ _ _ _ _ (simp facts at e).0.0.1 g h

  pub groups-rest : (i : ℕ) → group_at (groups l) ≤ i → i < 80 → byte l i ≡ 0
  unfolding planned
  groups-rest = table-rest l 8 group_size most_groups (groups l) _ (simp facts at e).0.0.1

  pub masks-rest : (i : ℕ) → mask_at (stations l) ≤ i → i < 112 → byte l i ≡ 0
  unfolding planned
  masks-rest = table-rest l 80 2 most_stations (stations l) _ (simp facts at e).1

  pub name-at : (g : ℕ) → g < groups l → (1 ≤ name_length l g) × (name_length l g ≤ 16)
  unfolding group_shaped
  name-at g h = let f = simp facts at (group-at g h) in omega arith

  pub padding-at : (g : ℕ) → g < groups l → (i : ℕ) → group_at g + 1 + name_length l g ≤ i → i < group_at g + 17 → byte l i ≡ 0
  unfolding group_shaped
  padding-at g h = let f = simp facts at (group-at g h) in zeros-at l _ _ f.0.1

  pub root-at : (g : ℕ) → g < groups l → root l g < stations l
  unfolding group_shaped
  root-at g h = let f = simp facts at (group-at g h) in omega arith

  pub new-at : (a b : ℕ) → a < groups l → b < a → same_names l a b ≡ false
  unfolding planned names_distinct new_name
  new-at a b h k = not-true _ ((simp facts at e).0.1 a h b k)

  cabled-at : (p : ℕ) → p < stations l → station_cabled l (stations l) p ≡ true
  unfolding planned
  cabled-at p h = table_at l _ _ _ _ _ (simp facts at e).1 p h

  pub neighbour-below : (p j : ℕ) → p < stations l → has (neighbours l p) j ≡ true → j < stations l
  unfolding station_cabled
  neighbour-below p j h t = below-has (stations l) (neighbours l p) j (simp facts at (cabled-at p h)).0.0 t

  pub no_loop : (p : ℕ) → p < stations l → has (neighbours l p) p ≡ false
  unfolding station_cabled
  no_loop p h = not-true _ (simp facts at (cabled-at p h)).0.1

  pub answer_at : (p q : ℕ) → p < stations l → q < stations l → has (neighbours l p) q ≡ true → has (neighbours l q) p ≡ true
  unfolding station_cabled both_ways
  answer_at p q h k = (simp facts at (cabled-at p h)).1 q k

-- bytes of the right length whose header, groups and cables pass are a well-shaped plan
pub plan-is : (l : List ℕ) (r : Bool) → length l ≡ plan_length → ((i : ℕ) → byte l i < 256) → r ≡ planned l plan_header → r ≡ plan_shaped l
unfolding plan_shaped
plan-is l r n h e = rw (eq-eqb _ _ n, bytes_of l h) e

module _ (l : List ℕ) (e : plan_shaped l ≡ true) where
  pub plan-long : length l ≡ plan_length
  unfolding plan_shaped
  plan-long = (simp facts at e).0.0

  pub plan-small : (i : ℕ) → byte l i < 256
  unfolding plan_shaped
  plan-small = bytes-at l (simp facts at e).0.1

  pub plan-passes : planned l plan_header ≡ true
  unfolding plan_shaped
  plan-passes = (simp facts at e).1
