-- A line that is made as a text of its own, and put at its place.
use Rattle.std.proofs.Common.{◌≡◌, ℕ, List, [], ◌++◌, ap, ◌∙◌, subst, arith}
use Rattle.bits.specs.Parts.{Wrote}
use Rattle.text.specs.Inner.Within.{WroteWithin}
use Rattle.text.specs.Inner.Added.{Added}
use Rattle.text.proofs.Puts.{within_of}

pub line_put : {begun made line o o' : List ℕ} {k i r : ℕ} → begun ≡ [] → Added k begun made line → Wrote o o' i r made → WroteWithin k o o' i r line
line_put {line = line} {o = o} {o' = o'} {i = i} {r = r} none A W =
    let W' = subst (λ (l : List ℕ). Wrote o o' i r l) (A.all ∙ ap (λ (l : List ℕ). l ++ line) none) W in
    within_of W' (omega (arith, A.within, W'.next))
