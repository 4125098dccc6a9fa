-- Where the parents of a station lead, and what becomes of that where one station's parent or root flag changes.
-- R says which stations are roots: in a net of version 1 that is one station for good.
use mathlib.Core.Path.{◌≡◌, sym, ap, subst, ◌∙◌}
use mathlib.Core.Logic.{◌≢◌}
use mathlib.Core.Bool.{Bool, true}
use Prim.Native.Nat.{ℕ, ◌≤◌, ◌<◌}
use native.Mathlib.Omega.{arith}
use Rattle.bits.proofs.Cases.{by-eq}
use Rattle.protocol.specs.Net.{nil}

-- the parents of p lead to a root
pub data Leads (R : ℕ → Bool) (P : ℕ → ℕ) : ℕ → Type 0 where
  here : {p : ℕ} → R p ≡ true → Leads R P p
  up : {p : ℕ} → P p ≢ nil → Leads R P (P p) → Leads R P p

-- one hop more, where the new parent is known by an equation
hop : {R : ℕ → Bool} {P : ℕ → ℕ} (p q : ℕ) → P p ≡ q → q ≢ nil → Leads R P q → Leads R P p
hop {R} {P} p q e h c = up (λ n. h (sym e ∙ n)) (subst (Leads R P) (sym e) c)

-- a station that is its own parent is led to a root only by being one
pub self-root : {R : ℕ → Bool} {P : ℕ → ℕ} {x : ℕ} → Leads R P x → P x ≡ x → R x ≡ true
self-root (here e) i = e
self-root {R} {P} (up h c) i = ap R (sym i) ∙ self-root c (ap P i)

module _ {R R' : ℕ → Bool} {P P' : ℕ → ℕ} (p : ℕ) (f : (x : ℕ) → x ≢ p → P' x ≡ P x) (g : (x : ℕ) → x ≢ p → R' x ≡ R x) where
  -- p keeps its parent and its flag
  pub same : P' p ≡ P p → R' p ≡ R p → {x : ℕ} → Leads R P x → Leads R' P' x
  same i j (here {p = x} e) = here (by-eq x p (λ h. ap R' h ∙ j ∙ ap R (sym h) ∙ e) (λ n. g x n ∙ e))
  same i j (up {p = x} h c) = hop x _ (by-eq x p (λ k. ap P' k ∙ i ∙ ap P (sym k)) (f x)) h (same i j c)

  -- p leaves, and nobody has it for a parent
  pub leave : ((x : ℕ) → P x ≢ nil → P x ≢ p) → {x : ℕ} → x ≢ p → Leads R P x → Leads R' P' x
  leave none n (here {p = x} e) = here (g x n ∙ e)
  leave none n (up {p = x} h c) = hop x _ (f x n) h (leave none (none x h) c)

  -- p, root or not, takes the parent s, whose clock is strictly greater; clocks never fall towards the root
  module _ (κ : ℕ → ℕ) (s : ℕ) (new : P' p ≡ s) (some : s ≢ nil) (rise : (x : ℕ) → P x ≢ nil → κ x ≤ κ (P x)) (above : κ p < κ s) where
    -- a station above p does not go through p
    clear : {x : ℕ} → κ p < κ x → Leads R P x → Leads R' P' x
    clear k (here {p = x} e) = here (g x (λ i. let z : κ x ≡ κ p = ap κ i in omega arith) ∙ e)
    clear k (up {p = x} h c) = hop x _ (f x (λ i. let z : κ x ≡ κ p = ap κ i in omega arith)) h (clear (omega (arith, rise x h)) c)

    pub adopter : Leads R P s → Leads R' P' p
    adopter c = hop p s new some (clear above c)

    pub adopt : Leads R P s → {x : ℕ} → Leads R P x → Leads R' P' x
    adopt d (here {p = x} e) = by-eq x p (λ i. subst (Leads R' P') (sym i) (adopter d)) (λ n. here (g x n ∙ e))
    adopt d (up {p = x} h c) = by-eq x p (λ i. subst (Leads R' P') (sym i) (adopter d)) (λ n. hop x _ (f x n) h (adopt d c))
