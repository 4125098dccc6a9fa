use Rattle.std.proofs.Common.{ℕ, ◌+◌, ◌-◌, ◌∙◌, rules}
use lib.Dec.{eqb}
use Rattle.std.proofs.lemmas.Iterator.{YieldsList-from_slice, YieldsList-from_zip}
use Rattle.bits.proofs.Parts.{lent}
use Rattle.bits.proofs.Below.{fold_of}
use Rattle.layout.proofs.Bounded.{same_fold}
use Rattle.layout.proofs.stretch.same.Goals as goal

pub returns : goal.returns
returns c =
    let a = c.args in
    let one = lent a.a (a.a + a.n - a.a) a.s.now in
    let other = lent a.b (a.b + a.n - a.b) a.s.now in
    fold_of _ (λ (p : ℕ × ℕ). eqb p.0 p.1) _ (YieldsList-from_zip (YieldsList-from_slice one cc) (YieldsList-from_slice other cc)) (λ b x r f' k. search rules) _ c.fold.ensures.ran
    ∙ same_fold a.s.now a.a a.b a.n c.requires.0 c.requires.1
