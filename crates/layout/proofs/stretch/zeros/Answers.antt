use Rattle.std.proofs.Common.{◌∙◌, rules}
use lib.Dec.{eqb}
use Rattle.std.proofs.lemmas.Iterator.{YieldsList-from_slice}
use Rattle.bits.proofs.Below.{fold_of}
use Rattle.layout.proofs.Bounded.{zeros_fold}
use Rattle.layout.proofs.stretch.zeros.Goals as goal

pub returns : goal.returns
returns c =
    let a = c.args in
    fold_of _ (λ x. eqb x 0) _ (YieldsList-from_slice _ c.iter.ensures.rest) (λ b x r f' k. search rules) _ c.fold.ensures.ran
    ∙ zeros_fold a.s.now a.a a.e c.requires.0 c.requires.1
