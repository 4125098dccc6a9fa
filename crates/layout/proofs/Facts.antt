-- What a passed test says, as facts: `simp facts at e` takes a test that passed apart into the facts that it is made of.
use mathlib.Core.Path.{◌≡◌}
use mathlib.Core.Logic.{◌↔◌}
use mathlib.Core.Bool.{Bool, true, ◌&&◌}
use Prim.Native.Nat.{ℕ, ◌≤◌, ◌<◌}
use lib.Dec.{leb, ltb, eqb}
use borrow.Author.Tests.{leb-true, le-leb, ltb-true, lt-ltb, eqb-true, eq-eqb}
use Rattle.bits.proofs.Cases.{and_l, and_r, and_both, suppose, supposed}
use Rattle.bits.specs.Below.{all_below, ◌implies◌}
use Rattle.bits.proofs.Below.{all-at, all_of}

pub and-iff : (a b : Bool) → ((a && b) ≡ true) ↔ ((a ≡ true) × (b ≡ true))
and-iff a b = (λ e. (and_l a b e, and_r a b e), λ h. and_both a b h.0 h.1)

pub implies-iff : (a b : Bool) → ((a implies b) ≡ true) ↔ (a ≡ true → b ≡ true)
implies-iff a b = (supposed a b, suppose a b)

pub leb-iff : (a b : ℕ) → (leb a b ≡ true) ↔ (a ≤ b)
leb-iff a b = (leb-true a b, le-leb a b)

pub ltb_iff : (a b : ℕ) → (ltb a b ≡ true) ↔ (a < b)
ltb_iff a b = (ltb-true a b, lt-ltb a b)

pub eqb-iff : (a b : ℕ) → (eqb a b ≡ true) ↔ (a ≡ b)
eqb-iff a b = (eqb-true a b, eq-eqb a b)

pub all-iff : (n : ℕ) (P : ℕ → Bool) → (all_below n P ≡ true) ↔ ((k : ℕ) → k < n → P k ≡ true)
all-iff n P = (all-at P n, all_of P n)

pub ruleset facts = (and-iff, implies-iff, leb-iff, ltb_iff, eqb-iff, all-iff)
