-- Names in bytes.
use Rattle.std.proofs.Common.{◌≡◌, ◌≢◌, refl, sym, ap, ◌∙◌, Bool, false, true, ◌&&◌, ℕ, suc, ◌+◌, ◌-◌, ◌<◌, List, [], ◌∷◌, length, eqb, add-one, arith}
use Rattle.std.proofs.lemmas.Bool.{false_from_ne_true}
use lib.Pointwise.{pointwise}
use Rattle.protocol.specs.Net.{Net}
use Rattle.protocol.specs.Names.{same_name, first_from, find}
use Rattle.protocol.proofs.Finds.{same-name, first_step, first-here, first-end, find-hit, find-miss}

-- two slices of bytes are equal where they are one name
pub same-bytes : (a b : List ℕ) → pointwise eqb a b ≡ same_name a b
unfolding same_name
same-bytes [] [] = refl
same-bytes [] (y ∷ b) = refl
same-bytes (x ∷ a) [] = refl
same-bytes (x ∷ a) (y ∷ b) = ap (λ (t : Bool). eqb x y && t) (same-bytes a b)

-- names of another length are not the same
pub other_length : (a b : List ℕ) → length a ≢ length b → false ≡ same_name a b
other_length a b n = sym (false_from_ne_true (same_name a b) (λ t. n (ap (length {A = ℕ}) (same-name a b t))))

-- ---- the search: no group before g has the name
module _ (N : Net) (w : List ℕ) where
  abbrev pub named : ℕ → Bool
  named i = same_name (N.name i) w

  -- the search from g on finds what the search from 0 finds
  abbrev pub Still : ℕ → Type 0
  Still g = first_from named 0 N.groups ≡ first_from named g (N.groups - g)

  pub still-start : Still 0
  still-start = ap (first_from named 0) (omega arith)

  pub still-next : (g : ℕ) → g < N.groups → Still g → named g ≡ false → Still (g + 1)
  still-next g h s f =
      let k : N.groups - g ≡ suc (N.groups - (g + 1)) = omega arith in
      s ∙ ap (first_from named g) k ∙ first_step named g _ f ∙ ap (λ (x : ℕ). first_from named x (N.groups - (g + 1))) (sym (add-one g))

  pub still-hit : (g : ℕ) → g < N.groups → Still g → named g ≡ true → record { outcome = 0; group = g } ≡ find N w
  still-hit g h s t =
      let k : N.groups - g ≡ suc (N.groups - (g + 1)) = omega arith in
      let e : first_from named 0 N.groups ≡ g = s ∙ ap (first_from named g) k ∙ first-here named g _ t in
      sym (find-hit N w (omega arith) ∙ ap (λ (x : ℕ). record { outcome = 0; group = x }) e)

  pub still-miss : (g : ℕ) → g ≡ N.groups → Still g → record { outcome = 7; group = 0 } ≡ find N w
  still-miss g h s =
      let z : N.groups - g ≡ 0 = omega arith in
      let e : first_from named 0 N.groups ≡ g = s ∙ ap (first_from named g) z ∙ first-end named g in
      sym (find-miss N w (omega arith))
