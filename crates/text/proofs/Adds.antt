-- What is added to a text, one after the other.
--     added_put                   what was put into the array of a text at its end
--     added_within, _then_        with more room; one text added, and another behind it
use Rattle.std.proofs.Common.{◌≡◌, ℕ, ◌+◌, ◌≤◌, List, ◌++◌, length, take, drop, ap, ◌∙◌, arith, append_assoc, length-append, length-take-le, take_all}
use Rattle.std.proofs.lemmas.List.{take-append-le}
use Rattle.std.proofs.lemmas.List.Edits.{sets-eq}
use Rattle.bits.specs.Parts.{splice}
use Rattle.text.specs.Inner.Within.{WroteWithin}
use Rattle.text.specs.Inner.Added.{Added}

-- the front of a list up to the end of what is spliced into it
take-splice : (o : List ℕ) (n : ℕ) (xs : List ℕ) → n + length xs ≤ length o → take (n + length xs) (splice o n xs) ≡ take n o ++ xs
unfolding splice
take-splice o n xs h =
    let long : length (take n o ++ xs) ≡ n + length xs = omega (arith, length-append (take n o) xs, length-take-le n o (omega arith)) in
    ap (take (n + length xs)) (sets-eq xs o n h)
    ∙ take-append-le (n + length xs) (take n o ++ xs) (drop (n + length xs) o) (omega arith)
    ∙ take_all (n + length xs) (take n o ++ xs) (omega arith)

-- a text is the front of its array, and what is put behind that front, where there is room for it, is added to the text
pub added_put : {o o' xs t : List ℕ} {n r k : ℕ} → WroteWithin k o o' n r xs → take n o ≡ t → n ≤ length o → length t + k ≤ length o
    → Added k t (take r o') xs
added_put {o} {o'} {xs} {t} {n} W e h room =
    let fits : n + length xs ≤ length o = omega (arith, W.wrote.next, W.within, ap length e, length-take-le n o h) in
    record {
      all = (λ i. take (W.wrote.next i) (W.wrote.bytes i)) ∙ take-splice o n xs fits ∙ ap (λ (l : List ℕ). l ++ xs) e;
      within = omega (arith, W.wrote.next, W.within);
    }

pub added_within : {j k : ℕ} {o o' xs : List ℕ} → Added j o o' xs → j ≤ k → Added k o o' xs
added_within A h = record { all = A.all; within = omega arith }

infixl 65 ◌then◌
pub ◌then◌ : {o o' o'' xs ys : List ℕ} {j k : ℕ} → Added j o o' xs → Added k o' o'' ys → Added (j + k) o o'' (xs ++ ys)
◌then◌ {o} {xs = xs} {ys = ys} A B = record {
  all = B.all ∙ ap (λ (l : List ℕ). l ++ ys) A.all ∙ append_assoc o xs ys;
  within = omega (arith, length-append xs ys);
}
