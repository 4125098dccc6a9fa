-- Laws of changes that keep to stretches.
--     changed-none, changed_then, changed-eq    nothing, one change after another, the same bytes
--     changed-splice, changed-part              what is put at an index, and what is changed in a part
use mathlib.Core.Path.{◌≡◌, refl, sym, ap, subst, ◌∙◌}
use mathlib.Core.Logic.{inl, inr, ⊎_elim}
use mathlib.Core.List.{List, [], ◌∷◌, ◌++◌}
use Prim.Native.Nat.{ℕ, ◌+◌, ◌-◌, ◌≤◌, ◌<◌}
use native.Mathlib.Omega.{arith}
use lib.ListN.{length, get_or}
use Rattle.bits.specs.Parts.{part, splice}
use Rattle.bits.specs.Stretches.{Stretch, stretch, further, sizes, Outside, ChangedIn}
use Rattle.bits.proofs.Cases.{by-lt}
use Rattle.bits.proofs.Parts.{length-splice, splice-in, splice-out, length_part, get_or-part}

-- ---- two rows of stretches
pub outside-both : (ts us : List Stretch) (x : ℕ) → Outside (ts ++ us) x → Outside ts x × Outside us x
unfolding Outside
outside-both [] us x h = (tt, h)
outside-both (t ∷ ts) us x h = let w = outside-both ts us x h.1 in ((h.0, w.0), w.1)

pub sizes-both : (ts us : List Stretch) → sizes (ts ++ us) ≡ sizes ts + sizes us
unfolding sizes
sizes-both [] us = omega arith
sizes-both (t ∷ ts) us = omega (arith, sizes-both ts us)

pub sizes-further : (a : ℕ) (ts : List Stretch) → sizes (further a ts) ≡ sizes ts
unfolding sizes further
sizes-further a [] = refl
sizes-further a (t ∷ ts) = ap (λ (n : ℕ). t.size + n) (sizes-further a ts)

pub outside-nearer : (a : ℕ) (ts : List Stretch) (x : ℕ) → Outside (further a ts) (a + x) → Outside ts x
unfolding Outside further
outside-nearer a [] x h = tt
outside-nearer a (t ∷ ts) x h = (⊎_elim (λ p. inl (omega arith)) (λ p. inr (omega arith)) h.0, outside-nearer a ts x h.1)

-- ---- changes
pub changed-none : (ts : List Stretch) (l : List ℕ) → ChangedIn ts l l
changed-none ts l = record { long = refl; rest = λ x h. refl }

pub changed_then : {ts us : List Stretch} {l l' l'' : List ℕ} → ChangedIn ts l l' → ChangedIn us l' l'' → ChangedIn (ts ++ us) l l''
changed_then {ts} {us} f g = record {
  long = g.long ∙ f.long;
  rest = λ x h. let w = outside-both ts us x h in g.rest x w.1 ∙ f.rest x w.0;
}

pub changed-splice : (l : List ℕ) (a n : ℕ) (vs : List ℕ) → length vs ≡ n → ChangedIn (stretch a n ∷ []) l (splice l a vs)
unfolding Outside
changed-splice l a n vs e = record {
  long = length-splice l a vs;
  rest = λ x h. splice-out l a vs x (⊎_elim (λ p. inl p) (λ p. inr (omega arith)) h.0);
}

-- a part changed into ys
pub changed-part : (ts : List Stretch) (n : ℕ) (l : List ℕ) (a : ℕ) (ys : List ℕ) → a + n ≤ length l → ChangedIn ts (part n l a) ys → ChangedIn (further a ts) l (splice l a ys)
changed-part ts n l a ys h c =
    let e : length ys ≡ n = c.long ∙ length_part n l a in
    let within : (k : ℕ) → k < n → Outside (further a ts) (a + k) → get_or (splice l a ys) (a + k) 0 ≡ get_or l (a + k) 0 =
    λ k b o. splice-in l a ys k (omega arith) (omega arith) ∙ c.rest k (outside-nearer a ts k o) ∙ get_or-part n l a k b in
    record {
      long = length-splice l a ys;
      rest = λ x o. by-lt x a
          (λ b. splice-out l a ys x (inl b))
          (λ b. by-lt x (a + n)
          (λ f. let i : a + (x - a) ≡ x = omega arith in
          subst (λ (y : ℕ). get_or (splice l a ys) y 0 ≡ get_or l y 0) i (within (x - a) (omega arith) (subst (Outside (further a ts)) (sym i) o)))
          (λ f. splice-out l a ys x (inr (omega arith))));
    }
