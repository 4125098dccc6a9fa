use Rattle.std.proofs.Common.{◌≡◌, ◌≢◌, ℕ, ◌/◌, Bool, List, Ok, Err, length, sym, ap, ◌∙◌, arith}
use Rattle.std.proofs.lemmas.Result.{err_from_is_err_and}
use Rattle.protocol.specs.declared.Refusal.{Refusal}
use Rattle.protocol.specs.declared.Tally.{Tally}
use Rattle.protocol.specs.Refusals.{number}
use Rattle.protocol.proofs.Refusals.{number-positive}
use Rattle.protocol.specs.Runs.{no_tally, script_outcome, after}
use Rattle.layout.specs.declared.form.Mark.{Mark}
use Rattle.shape.proofs.Nets.{marked}
use Rattle.net.specs.View.{view}
use Rattle.net.specs.Encode.{bytes_as, bytes_like}
use Rattle.access.proofs.Laws.{is-net}
use Rattle.run.specs.Runs.{told, run_outcome_as, net_after_run_as, run_answer_as}
use Rattle.run.proofs.Lengths.{length-fits}
use Rattle.run.proofs.Theorems.{passed, refused-after, refused-tally, run-after, tally-after}
use Rattle.run.proofs.run_fitting.Goals as goal

module _ (m : Mark) (l s : List ℕ) (fits : Bool) where
  refused : (r : Refusal) → number r ≡ run_outcome_as m l s fits → (told (Err r) ≡ run_answer_as m l s fits) × (l ≡ net_after_run_as m l s fits)
  refused r is =
      let n : run_outcome_as m l s fits ≢ 0 = λ z. omega (arith, number-positive r, is, z) in
      ((λ i. record { outcome = is i; tally = sym (refused-tally m l s fits n no_tally) i }), sym (refused-after m l s fits n))

  module _ (o : 0 ≡ run_outcome_as m l s fits) where
    accepted : {t : Tally} {l' : List ℕ} → let R = after (view l) s (length s / 4) in (t ≡ R.tally) × (l' ≡ bytes_like l R.net)
        → (told (Ok t) ≡ run_answer_as m l s fits) × (l' ≡ net_after_run_as m l s fits)
    accepted ran =
        let tally = ran.0 ∙ sym (tally-after m l s fits (sym o) no_tally) in
        let form = ap (λ (n : Mark). bytes_as n (after (view l) s (length s / 4)).net) (marked m l (passed m l s fits (sym o)).shape) in
        ((λ i. record { outcome = o i; tally = tally i }), ran.1 ∙ form ∙ sym (run-after m l s fits (sym o)).0)

pub returns-in_err-check : goal.returns-in_err-check
returns-in_err-check c =
    let p = err_from_is_err_and c.from_residual.result c.from_residual.ensures.1 in
    rw (p.1, p.2) (refused _ _ _ _ _ c.in_err-check.ensures)

pub run_in-requires-clause-net : goal.run_in-requires-clause-net
run_in-requires-clause-net c = is-net _ _ (passed c.args.m _ _ _ (sym c.in_ok-check.ensures)).shape

pub run_in-requires-clause-m_value : goal.run_in-requires-clause-m_value
run_in-requires-clause-m_value c = sym (marked _ _ (passed c.args.m _ _ _ (sym c.in_ok-check.ensures)).shape)

pub run_in-requires-clause-script_len_bound : goal.run_in-requires-clause-script_len_bound
unfolding script_outcome
run_in-requires-clause-script_len_bound c = length-fits _ (passed c.args.m _ _ _ (sym c.in_ok-check.ensures)).script

pub returns : goal.returns
returns c = accepted _ _ _ _ c.in_ok-check.ensures c.run_in.ensures
