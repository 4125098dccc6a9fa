-- The nine counts, put one after another.
use mathlib.Core.Path.{◌≡◌, refl, sym, ap, ◌∙◌}
use mathlib.Core.List.{List, ◌++◌}
use Prim.Native.Nat.{ℕ, ◌+◌}
use lib.ListN.{length}
use Rattle.bits.specs.Numbers.{bytes}
use Rattle.bits.specs.Parts.{splice}
use Rattle.bits.proofs.Parts.{splice-append}
use Rattle.bits.proofs.Fills.{splice-whole}
use Rattle.protocol.specs.declared.Case.TheVariants.{Adopted, NotTentative, Unconnected, NotGreater}
use Rattle.protocol.specs.declared.Tally.{Tally}
use Rattle.protocol.specs.Runs.{case_count}
use Rattle.run.specs.Tallies.{tally_length, replies_bytes, tally_bytes}

next : (l : List ℕ) (a k : ℕ) (xs ys : List ℕ) → k ≡ a + length xs → splice (splice l a xs) k ys ≡ splice l a (xs ++ ys)
next l a k xs ys e = ap (λ (z : ℕ). splice (splice l a xs) z ys) e ∙ splice-append l a xs ys

module _ (l l₁ l₂ l₃ l₄ l₅ l₆ l₇ l₈ l₉ : List ℕ) (t : Tally) where
  -- into any bytes of their length
  pub nine-counts : length l ≡ tally_length
      → l₁ ≡ splice l 0 (bytes 4 t.accepted)
      → l₂ ≡ splice l₁ 4 (bytes 4 t.refused)
      → l₃ ≡ splice l₂ 8 (bytes 4 t.sent)
      → l₄ ≡ splice l₃ 12 (bytes 4 t.delivered)
      → l₅ ≡ splice l₄ 16 (bytes 4 t.lost)
      → l₆ ≡ splice l₅ 20 (bytes 4 (case_count t.replies Adopted))
      → l₇ ≡ splice l₆ 24 (bytes 4 (case_count t.replies NotTentative))
      → l₈ ≡ splice l₇ 28 (bytes 4 (case_count t.replies Unconnected))
      → l₉ ≡ splice l₈ 32 (bytes 4 (case_count t.replies NotGreater))
      → l₉ ≡ tally_bytes t
  unfolding tally_bytes replies_bytes bytes
  nine-counts e put₁ put₂ put₃ put₄ put₅ put₆ put₇ put₈ put₉ =
      put₉ ∙ rw (put₈, put₇, put₆, put₅, put₄, put₃, put₂, put₁)
      (next _ 28 32 (bytes 4 (case_count t.replies Unconnected)) (bytes 4 (case_count t.replies NotGreater)) refl
      ∙ next _ 24 28 (bytes 4 (case_count t.replies NotTentative)) _ refl
      ∙ next _ 20 24 (bytes 4 (case_count t.replies Adopted)) _ refl
      ∙ next _ 16 20 (bytes 4 t.lost) _ refl
      ∙ next _ 12 16 (bytes 4 t.delivered) _ refl
      ∙ next _ 8 12 (bytes 4 t.sent) _ refl
      ∙ next _ 4 8 (bytes 4 t.refused) _ refl
      ∙ next l 0 4 (bytes 4 t.accepted) _ refl
      ∙ splice-whole l _ (sym e))
