use Rattle.std.proofs.Common.{◌≡◌, ℕ, List, Ok, Err, sym, ap, ◌∙◌, arith}
use Rattle.std.proofs.lemmas.Result.{err_from_is_err_and}
use Rattle.std.proofs.lemmas.Bool.{eqb-true}
use Rattle.protocol.specs.declared.Refusal.{Refusal}
use Rattle.protocol.specs.declared.Tally.{Tally}
use Rattle.protocol.specs.Refusals.{number}
use Rattle.protocol.proofs.Refusals.{number-positive}
use Rattle.protocol.specs.Runs.{no_tally}
use Rattle.layout.specs.declared.form.Mark.{Mark}
use Rattle.run.specs.Runs.{Answer, told, run_outcome_as, run_answer_as, tally_after_run_as}
use Rattle.run.specs.Tallies.{tally_fits, tally_bytes}
use Rattle.run.proofs.Theorems.{passed, refused-bytes, tally-after, bytes_after}
use Rattle.run.proofs.run_into_as.Goals as goal

module _ (m : Mark) (l s t : List ℕ) where
  refused : (r : Refusal) → told (Err r) ≡ run_answer_as m l s (tally_fits t) → (number r ≡ run_outcome_as m l s (tally_fits t)) × (t ≡ tally_after_run_as m l s t)
  refused r is =
      let o = ap (λ (a : Answer). a.outcome) is in
      (o, sym (refused-bytes m l s t (λ z. omega (arith, number-positive r, o, z))))

  module _ {n : Tally} (is : told (Ok n) ≡ run_answer_as m l s (tally_fits t)) where
    outcome : 0 ≡ run_outcome_as m l s (tally_fits t)
    outcome = ap (λ (a : Answer). a.outcome) is

    counts : tally_bytes n ≡ tally_after_run_as m l s t
    counts = ap (λ (a : Answer). tally_bytes a.tally) is ∙ ap tally_bytes (tally-after m l s (tally_fits t) (sym outcome) no_tally) ∙ sym (bytes_after m l s t (sym outcome))

pub returns-in_err-counts : goal.returns-in_err-counts
returns-in_err-counts c =
    let p = err_from_is_err_and c.from_residual.result c.from_residual.ensures.1 in
    let w = refused c.args.m c.args.net.now c.args.script.now c.args.tally.now _ c.in_err-counts.ensures.0 in
    rw (p.1, p.2) (w.0, c.run_fitting.ensures.1, w.1)

pub put-requires : goal.put-requires
put-requires c =
    eqb-true _ _ (passed _ _ _ _ (sym (outcome c.args.m c.args.net.now c.args.script.now c.args.tally.now c.in_ok-counts.ensures.0))).size

pub returns : goal.returns
returns c =
    let is = c.in_ok-counts.ensures.0 in
    let a = c.args in
    (outcome a.m a.net.now a.script.now a.tally.now is, c.run_fitting.ensures.1, c.put.ensures ∙ counts a.m a.net.now a.script.now a.tally.now is)
