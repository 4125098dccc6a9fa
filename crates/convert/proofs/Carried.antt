-- The bytes that are carried are those of the same net in the form that is written.
use mathlib.Core.Path.{◌≡◌, refl, sym, ap, ap₂, subst, ◌∙◌}
use mathlib.Core.Logic.{◌⊎◌, inl, inr, ⊎_elim, ◌≢◌}
use mathlib.Core.Bool.{true}
use mathlib.Core.List.{List, [], ◌∷◌, ◌++◌}
use Prim.Native.Nat.{ℕ, ◌+◌, ◌≤◌, ◌<◌}
use native.Mathlib.Omega.{arith}
use lib.ListN.{length}
use Rattle.bits.specs.Numbers.{bytes}
use Rattle.bits.specs.Parts.{part}
use Rattle.bits.proofs.Cases.{by-eq}
use Rattle.bits.proofs.Parts.{length_part, length-splice, part-splice, part-splice-out, part-part, part-add}
use Rattle.protocol.specs.Net.{most_groups, most_stations}
use Rattle.protocol.specs.Fresh.{plan_of}
use Rattle.layout.specs.Layout.{net_length, group_at, mask_at, route_at, entries_at, entry_size, channels_at, channel_at}
use Rattle.layout.specs.declared.form.Mark.{Mark}
use Rattle.layout.specs.Marks.{mark_byte, entry_at}
use Rattle.plan.specs.Planned.{net_header}
use Rattle.shape.specs.Shape.{shaped_as}
use Rattle.shape.proofs.Nets.{long}
use Rattle.forms.specs.Plans.{header_bytes}
use Rattle.forms.proofs.Folds.{rows-hold, rows-read}
use Rattle.net.specs.View.{view}
use Rattle.net.specs.Encode.{bytes_as}
use Rattle.net.proofs.Forms.{entries-laid, Holds, bytes-hold, hold-bytes, view-bytes}
use Rattle.convert.specs.Inner.Carried.{entry_carried, remarked, carried}

-- w bytes at `at` that stand before the entries, or behind them
abbrev Beside : ℕ → ℕ → Type 0
Beside w at = (at + w ≤ entries_at) ⊎ (channels_at ≤ at)

module _ (l : List ℕ) (m n : Mark) (h : length l ≡ net_length) where
  abbrev put : List ℕ → ℕ → ℕ → List ℕ
  put = entry_carried l m n

  -- what each put keeps: the length, and every part beside the entries
  pub record Kept (x : List ℕ) : Type 0 where
    pub long : length x ≡ net_length
    pub beside : (w at : ℕ) → Beside w at → part w x at ≡ part w (remarked l m n) at

  keeps : (x : List ℕ) (g p : ℕ) → g < most_groups → p < most_stations → Kept x → Kept (put x g p)
  unfolding entry_carried
  keeps x g p hg hp K =
      let i = (entries-laid n).inside g p hg hp in
      record {
        long = length-splice x _ _ ∙ K.long;
        beside = λ w at b. part-splice-out w x (entry_at n g p) _ at
            (⊎_elim (λ a. inl (omega arith)) (λ a. inr (omega (arith, length_part entry_size l (entry_at m g p)))) b) ∙ K.beside w at b;
      }

  first : Kept (remarked l m n)
  unfolding remarked
  first = record { long = length-splice l 7 (mark_byte n ∷ []) ∙ h; beside = λ w at b. refl }

  pub all-kept : Kept (carried l m n)
  unfolding carried
  all-kept = rows-hold put Kept most_groups most_stations keeps (remarked l m n) most_groups most_stations first (omega arith) (omega arith)

  -- the entry that is put stands, and no other is touched
  puts : (x : List ℕ) (g p : ℕ) → Kept x → g < most_groups → p < most_stations → part entry_size (put x g p) (entry_at n g p) ≡ part entry_size l (entry_at m g p)
  unfolding entry_carried
  puts x g p K hg hp =
      let i = (entries-laid n).inside g p hg hp in
      let e = length_part entry_size l (entry_at m g p) in
      ap (λ (k : ℕ). part k (put x g p) (entry_at n g p)) (sym e) ∙ part-splice x (entry_at n g p) _ (omega (arith, K.long, e))

  misses : (x : List ℕ) (g p i j : ℕ) → g < most_groups → p < most_stations → i < most_groups → j < most_stations → (i ≢ g) ⊎ (j ≢ p)
      → part entry_size (put x g p) (entry_at n i j) ≡ part entry_size x (entry_at n i j)
  unfolding entry_carried
  misses x g p i j hg hp hi hj o = part-splice-out entry_size x (entry_at n g p) _ (entry_at n i j)
      (⊎_elim (λ a. inl a) (λ a. inr (omega (arith, length_part entry_size l (entry_at m g p)))) ((entries-laid n).apart g p i j hg hp hi hj o))

  stays : (x : List ℕ) (g p i j : ℕ) → Kept x → g < most_groups → p < most_stations → i < most_groups → j < most_stations
      → part entry_size x (entry_at n i j) ≡ part entry_size l (entry_at m i j) → part entry_size (put x g p) (entry_at n i j) ≡ part entry_size l (entry_at m i j)
  stays x g p i j K hg hp hi hj was =
      by-eq i g (λ a. by-eq j p (λ b. rw (a, b) (puts x g p K hg hp))
      (λ b. misses x g p i j hg hp hi hj (inr b) ∙ was)) (λ a. misses x g p i j hg hp hi hj (inl a) ∙ was)

  pub all-carried : (g p : ℕ) → g < most_groups → p < most_stations → part entry_size (carried l m n) (entry_at n g p) ≡ part entry_size l (entry_at m g p)
  unfolding carried
  all-carried g p hg hp =
      rows-read put Kept most_groups most_stations keeps (λ x i j. part entry_size x (entry_at n i j)) (λ i j. part entry_size l (entry_at m i j))
      puts stays (remarked l m n) most_groups most_stations g p first (omega arith) (omega arith) hg hp

-- ---- of a net
module _ (l : List ℕ) (m n : Mark) (s : shaped_as m l ≡ true) where
  h : length l ≡ net_length
  h = long m l s

  held : Holds m (view l) l
  held = subst (Holds m (view l)) (view-bytes m l s) (bytes-hold m (view l))

  K : Kept l m n h (carried l m n)
  K = all-kept l m n h

  -- a part that neither the mark nor the entries meet
  plain : (w at : ℕ) → 8 ≤ at → Beside w at → part w (carried l m n) at ≡ part w l at
  unfolding remarked
  plain w at a b = K.beside w at b ∙ part-splice-out w l 7 (mark_byte n ∷ []) at (inr a)

  head : part 8 (carried l m n) 0 ≡ header_bytes (plan_of (view l)) (net_header n)
  unfolding remarked header_bytes bytes part
  head =
      K.beside 8 0 (inl (omega arith)) ∙ part-add 7 1 (remarked l m n) 0
      ∙ ap₂ ◌++◌
      (part-splice-out 7 l 7 (mark_byte n ∷ []) 0 (inl (omega arith)) ∙ sym (part-part 7 8 l 0 0 (omega arith)) ∙ ap (λ (x : List ℕ). part 7 x 0) held.plan.head)
      (part-splice l 7 (mark_byte n ∷ []) (omega (arith, h)))

  pub carried-is : carried l m n ≡ bytes_as n (view l)
  carried-is = hold-bytes n (view l) (carried l m n) (record {
    long = K.long;
    plan = record {
      head = head;
      groups = λ g hg. plain 18 (group_at g) (omega arith) (inl (omega arith)) ∙ held.plan.groups g hg;
      masks = λ p hp. plain 2 (mask_at p) (omega arith) (inl (omega arith)) ∙ held.plan.masks p hp;
    };
    routes = λ p d hp hd. plain 1 (route_at p d) (omega arith) (inl (omega arith)) ∙ held.routes p d hp hd;
    entries = λ g p hg hp. all-carried l m n h g p hg hp ∙ held.entries g p hg hp;
    channels = λ x y hx hy. plain 57 (channel_at x y) (omega arith) (inr (omega arith)) ∙ held.channels x y hx hy;
  })
