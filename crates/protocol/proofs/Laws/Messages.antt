-- How many messages of a kind and a group are in a channel, when one comes and when one goes.
use mathlib.Core.Path.{◌≡◌, refl, ap}
use mathlib.Core.Logic.{◌≢◌}
use mathlib.Core.Bool.{Bool, true, false}
use mathlib.Core.List.{List, [], ◌∷◌, ◌++◌}
use Prim.Native.Nat.{ℕ, zero, suc, ◌+◌, ◌≤◌, ◌<◌}
use native.Mathlib.Nat.{le_refl}
use native.Mathlib.Omega.{arith}
use lib.Dec.{eqb}
use lib.ListN.{length, get_or}
use borrow.Author.Tests.{eq-eqb, ne_eqb}
use Rattle.bits.specs.Sums.{bit}
use Rattle.bits.proofs.Cases.{by_bool}
use Rattle.protocol.specs.declared.Message.{Message}
use Rattle.protocol.specs.Net.{reply, upd2, remove_at}
use Rattle.protocol.specs.Entries.{is_of, count_of}
use Rattle.protocol.specs.Shaped.{All, none, both}
use Rattle.protocol.proofs.Laws.Maps.{upd2-all}

pub bit_le : (b : Bool) → bit b ≤ 1
bit_le true = omega arith
bit_le false = omega arith

pub bit-one : (b : Bool) → bit b ≡ 1 → b ≡ true
bit-one true e = refl
bit-one false e = absurd (omega arith)

-- ---- one message
pub is_of-true : (k g : ℕ) (m : Message) → m.kind ≡ k → m.group ≡ g → is_of k g m ≡ true
unfolding is_of
is_of-true k g m a b = rw (eq-eqb m.kind k a, eq-eqb m.group g b)

pub is_of-kind : (k g : ℕ) (m : Message) → m.kind ≢ k → is_of k g m ≡ false
unfolding is_of
is_of-kind k g m n = rw (ne_eqb m.kind k n)

pub is_of-group : (k g : ℕ) (m : Message) → m.group ≢ g → is_of k g m ≡ false
unfolding is_of
is_of-group k g m n = by_bool (eqb m.kind k) (λ t. rw (t, ne_eqb m.group g n)) (λ f. rw f)

-- ---- one channel
pub count-snoc : (k g : ℕ) (l : List Message) (m : Message) → count_of k g (l ++ (m ∷ [])) ≡ count_of k g l + bit (is_of k g m)
unfolding count_of
count-snoc k g [] m = omega arith
count-snoc k g (x ∷ l) m = omega (arith, count-snoc k g l m)

pub count-remove : (k g i : ℕ) (l : List Message) (d : Message) → i < length l → count_of k g (remove_at i l) + bit (is_of k g (get_or l i d)) ≡ count_of k g l
unfolding count_of remove_at
count-remove k g i [] d h = absurd (omega arith)
count-remove k g zero (x ∷ l) d h = omega arith
count-remove k g (suc i) (x ∷ l) d h = omega (arith, count-remove k g i l d (omega arith))

count-remove-le : (k g i : ℕ) (l : List Message) → count_of k g (remove_at i l) ≤ count_of k g l
unfolding count_of remove_at
count-remove-le k g i [] = omega arith
count-remove-le k g zero (x ∷ l) = omega arith
count-remove-le k g (suc i) (x ∷ l) = omega (arith, count-remove-le k g i l)

-- where no reply of the group is in a list, whatever is said of such replies holds
pub no-replies : {g : ℕ} {P : Message → Type 0} (l : List Message) → count_of reply g l ≡ 0 → All (λ m. m.kind ≡ reply → m.group ≡ g → P m) l
unfolding count_of
no-replies [] z = none
no-replies {g} {P} (m ∷ l) z =
    both (λ a b. absurd (let w : bit (is_of reply g m) ≡ 1 = ap bit (is_of-true reply g m a b) in omega arith)) (no-replies l (omega arith))

-- ---- all channels, after one message is taken out or goes out
module _ (C : ℕ → ℕ → List Message) (s d : ℕ) where
  abbrev pub taken : ℕ → ℕ → ℕ → List Message
  taken i = upd2 C s d (remove_at i (C s d))

  abbrev pub sent : Message → ℕ → ℕ → List Message
  sent m = upd2 C s d (C s d ++ (m ∷ []))

  pub taken-le : (k g i x y : ℕ) → count_of k g (taken i x y) ≤ count_of k g (C x y)
  taken-le k g i = upd2-all (λ x y (l : List Message). count_of k g l ≤ count_of k g (C x y)) (count-remove-le k g i (C s d)) (λ x y _. le_refl _)

  pub sent-same : (k g : ℕ) (m : Message) → is_of k g m ≡ false → (x y : ℕ) → count_of k g (sent m x y) ≡ count_of k g (C x y)
  sent-same k g m f = upd2-all (λ x y (l : List Message). count_of k g l ≡ count_of k g (C x y))
      (let z : bit (is_of k g m) ≡ 0 = ap bit f in omega (arith, count-snoc k g (C s d) m)) (λ x y _. refl)
