use Rattle.std.proofs.Common.{◌≡◌, true, List, ℕ, Ok, Err, sym, ap, ◌∙◌, arith}
use Rattle.std.proofs.lemmas.Result.{err_from_is_err_and}
use Rattle.protocol.specs.declared.Refusal.{Refusal}
use Rattle.protocol.specs.declared.Tally.{Tally}
use Rattle.protocol.specs.Refusals.{number}
use Rattle.protocol.proofs.Refusals.{number-positive}
use Rattle.protocol.specs.Runs.{no_tally}
use Rattle.layout.specs.declared.form.Mark.TheVariants.{Saved}
use Rattle.run.specs.Runs.{Answer, told, run_outcome, run_tally, run_answer}
use Rattle.run.proofs.Theorems.{refused-tally, tally-after}
use Rattle.lent.proofs.tally.run.Goals as goal

module _ (l s : List ℕ) (t : Tally) where
  refused : (r : Refusal) → told (Err r) ≡ run_answer l s true → (number r ≡ run_outcome l s true) × (t ≡ run_tally l s true t)
  refused r is =
      let o = ap (λ (a : Answer). a.outcome) is in
      (o, sym (refused-tally Saved l s true (λ z. omega (arith, number-positive r, o, z)) t))

  accepted : {n : Tally} → told (Ok n) ≡ run_answer l s true → (0 ≡ run_outcome l s true) × (n ≡ run_tally l s true t)
  accepted is =
      let o = ap (λ (a : Answer). a.outcome) is in
      (o, ap (λ (a : Answer). a.tally) is ∙ tally-after Saved l s true (sym o) no_tally ∙ sym (tally-after Saved l s true (sym o) t))

pub returns-in_err-tally : goal.returns-in_err-tally
returns-in_err-tally c =
    let p = err_from_is_err_and c.from_residual.result c.from_residual.ensures.1 in
    let w = refused c.args.net.now c.args.script.now c.args.tally.now _ c.in_err-tally.ensures.0 in
    rw (p.1, p.2) (w.0, c.run.ensures.1, w.1)

pub returns : goal.returns
returns c =
    let w = accepted c.args.net.now c.args.script.now c.args.tally.now c.in_ok-tally.ensures.0 in
    (w.0, c.run.ensures.1, w.1)
