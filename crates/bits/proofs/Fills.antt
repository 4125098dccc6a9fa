-- A list filled from the front with one value, and one replaced as a whole.
use mathlib.Core.Path.{◌≡◌, sym, ap, ◌∙◌}
use mathlib.Core.List.{List, [], ◌∷◌, ◌++◌}
use Prim.Native.Nat.{ℕ, suc, ◌+◌}
use native.Mathlib.Nat.{zero-add}
use native.Mathlib.Numerals.{add-one}
use native.Mathlib.Omega.{arith}
use lib.ListN.{length, set, replicate, length-replicate, replicate-append-replicate}
use Rattle.bits.specs.Parts.{part, splice}
use Rattle.bits.proofs.Parts.{length-splice, part-all, part-splice, splice-more}

replicate_more : (v i : ℕ) → replicate i v ++ (v ∷ []) ≡ replicate (suc i) v
replicate_more v i = replicate-append-replicate i 1 v ∙ ap (λ (k : ℕ). replicate k v) (add-one i)

pub fill-turn : (l s : List ℕ) (v i : ℕ) → s ≡ splice l 0 (replicate i v) → set s i v ≡ splice l 0 (replicate (i + 1) v)
fill-turn l s v i e =
    ap (λ (k : ℕ). set s k v) (sym (zero-add i)) ∙ splice-more l s 0 i (replicate i v) v e (length-replicate i v)
    ∙ ap (splice l 0) (replicate_more v i ∙ ap (λ (k : ℕ). replicate k v) (sym (add-one i)))

-- as many bytes as there are take the place of all
pub splice-whole : (l vs : List ℕ) → length vs ≡ length l → splice l 0 vs ≡ vs
splice-whole l vs n =
    sym (part-all (splice l 0 vs)) ∙ ap (λ (k : ℕ). part k (splice l 0 vs) 0) (length-splice l 0 vs ∙ sym n) ∙ part-splice l 0 vs (omega arith)
