-- A pattern, filled byte by byte.
--     filling-none, filling-number, filling-byte, filling-all    nothing yet, a gap or another byte more, and all of it
use Rattle.std.proofs.Common.{◌≡◌, ℕ, ◌+◌, ◌*◌, ◌≤◌, ◌<◌, true, false, List, [], ◌∷◌, ◌++◌, length, get_or, drop, refl, sym, ap, ◌∙◌, arith, append_assoc}
use Rattle.std.proofs.lemmas.List.{append-nil, drop_more, drop_all}
use Rattle.bits.specs.Parts.{Wrote}
use Rattle.bits.proofs.Parts.{wrote_none, wrote_then}
use Rattle.text.specs.Text.{is_gap, in_gap, filled}
use Rattle.text.specs.Inner.Within.{WroteWithin}
use Rattle.text.proofs.Puts.{within_of, within-as}

filled_none : (w : List ℕ) → filled w [] ≡ w
unfolding filled
filled_none [] = refl
filled_none (b ∷ w) = refl

module _ (w ns o : List ℕ) (at : ℕ) where
  -- ---- the first i bytes are put, and what is left of the numbers has its gaps behind them
  pub record Filling (o' : List ℕ) (next i : ℕ) (left : List ℕ) : Type 0 where
    pub done : List ℕ
    pub put : Wrote o o' at next done
    pub rest : done ++ filled (drop i w) left ≡ filled w ns
    pub room : next + 9 * length left ≤ at + i + 9 * length ns

  pub filling-none : Filling o at 0 ns
  filling-none = record { done = []; put = wrote_none o at; rest = refl; room = omega arith }

  -- s more, in the place of byte i and of k numbers
  filling-more : {o' o'' s left rest : List ℕ} {next r i : ℕ} (k : ℕ) → Filling o' next i left → WroteWithin (1 + 9 * k) o' o'' next r s
      → length left ≡ k + length rest → filled (drop i w) left ≡ s ++ filled (drop (i + 1) w) rest → Filling o'' r (i + 1) rest
  filling-more {s = s} k F W n e = record {
    done = F.done ++ s;
    put = wrote_then F.put W.wrote;
    rest = append_assoc F.done s _ ∙ ap (λ (l : List ℕ). F.done ++ l) (sym e) ∙ F.rest;
    room = omega (arith, F.room, W.within);
  }

  module _ {o' o'' : List ℕ} {next r i : ℕ} (h : i < length w) where
    pub filling-number : {n : ℕ} {left rest : List ℕ} → Filling o' next i left → left ≡ n ∷ rest → is_gap (get_or w i 0) ≡ true
        → WroteWithin 10 o' o'' next r (in_gap (get_or w i 0) n) → Filling o'' r (i + 1) rest
    unfolding filled
    filling-number F e t W = filling-more 1 F W (omega (arith, ap length e)) (rw (e, drop_more w i 0 h, t) refl)

    pub filling-byte : {left : List ℕ} → Filling o' next i left → (0 < length left → is_gap (get_or w i 0) ≡ false)
        → WroteWithin 1 o' o'' next r (get_or w i 0 ∷ []) → Filling o'' r (i + 1) left
    unfolding filled
    filling-byte {left = []} F t W = filling-more 0 F W refl (rw (drop_more w i 0 h) (ap (λ (l : List ℕ). get_or w i 0 ∷ l) (sym (filled_none _))))
    filling-byte {left = n ∷ left} F t W = let f : is_gap (get_or w i 0) ≡ false = t (omega arith) in filling-more 0 F W (omega arith) (rw (drop_more w i 0 h, f) refl)

  pub filling-all : {o' left : List ℕ} {next i : ℕ} → i ≡ length w → Filling o' next i left
      → WroteWithin (length w + 9 * length ns) o o' at next (filled w ns)
  unfolding filled
  filling-all {left = left} {i = i} n F =
      let all : F.done ≡ filled w ns = sym (append-nil F.done) ∙ rw (drop_all i w (omega arith)) at F.rest in
      within-as all (within_of F.put (omega (arith, F.room)))
