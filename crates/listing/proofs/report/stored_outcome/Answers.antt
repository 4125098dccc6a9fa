use Rattle.std.proofs.Common.{◌≡◌, length, sym, ◌∙◌, arith}
use Rattle.std.proofs.lemmas.Result.{err_from_is_err_and}
use Rattle.protocol.proofs.Refusals.{number-positive}
use Rattle.layout.specs.Layout.{net_length}
use Rattle.listing.proofs.Benches.{too_short, same-refusal, begun}
use Rattle.listing.proofs.report.stored_outcome.Goals as goal

pub returns-then-stored-lt-PLAN_LENGTH-clause-outcome : goal.returns-then-stored-lt-PLAN_LENGTH-clause-outcome
returns-then-stored-lt-PLAN_LENGTH-clause-outcome c = too_short _ _ c.if-stored-lt-PLAN_LENGTH.true

pub returns-in_err-fresh-clause-outcome : goal.returns-in_err-fresh-clause-outcome
returns-in_err-fresh-clause-outcome c =
    let long : length c.args.net.now ≡ net_length = omega arith in
    let p = err_from_is_err_and c.from_residual.result c.from_residual.ensures.1 in
    let is = c.in_err-fresh.ensures.0 in
    rw (p.1, p.2) (is ∙ same-refusal _ _ _ long (λ z. omega (arith, number-positive c.in_err-fresh.field-0.0, is, z)))

pub returns-clause-outcome : goal.returns-clause-outcome
returns-clause-outcome c =
    let long : length c.args.net.now ≡ net_length = omega arith in
    c.check_length.ensures ∙ (begun _ _ _ long (sym c.in_ok-fresh.ensures.0)).0

pub returns-clause-fresh : goal.returns-clause-fresh
returns-clause-fresh c = λ e.
    let long : length c.args.net.now ≡ net_length = omega arith in
    c.fresh.ensures.1 ∙ (begun c.args.stored.now c.args.beyond _ long (sym c.in_ok-fresh.ensures.0)).1
