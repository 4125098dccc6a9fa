use Rattle.std.proofs.Common.{◌≡◌, ℕ, ◌+◌, ◌*◌, ◌<◌, true, ◌&&◌, ◌∙◌, arith}
use lib.Dec.{eqb}
use borrow.Author.Tests.{eq-eqb, eqb-true}
use Rattle.bits.proofs.Cases.{same_test, and_l, and_r, and_both}
use Rattle.protocol.specs.Entries.{is_of}
use Rattle.channel.proofs.is_of.Goals as goal

-- two numbers of two bytes are the same where their bytes are
as_one : (a b c d : ℕ) → b < 256 → d < 256 → eqb (a * 256 + b) (c * 256 + d) ≡ (eqb a c && eqb b d)
as_one a b c d hb hd = same_test _ _
    (λ t. let e = eqb-true (a * 256 + b) (c * 256 + d) t in and_both (eqb a c) (eqb b d) (eq-eqb a c (omega (arith, e))) (eq-eqb b d (omega (arith, e))))
    (λ t. let e : eqb a c ≡ true = search and_l in
    let f : eqb b d ≡ true = search and_r in
    eq-eqb (a * 256 + b) (c * 256 + d) (omega (arith, eqb-true a c e, eqb-true b d f)))

pub returns : goal.returns
unfolding is_of
returns c = let a = c.args in
    (λ i. eqb (c.join8.ensures i) (c.join8-2.ensures i)) ∙ as_one a.m.kind a.m.group a.kind a.group (omega arith) (omega arith)
