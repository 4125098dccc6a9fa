use Rattle.std.proofs.Common.{rules, ◌≤◌, refl, length, sym, ap, ◌∙◌, arith}
use Rattle.protocol.proofs.Refusals.{number-positive}
use Rattle.layout.specs.Layout.{plan_length}
use Rattle.text.proofs.Puts.{within-as}
use Rattle.run.specs.Runs.{Answer}
use Rattle.listing.specs.Lines.{refused_text}
use Rattle.listing.proofs.Benches.{long-enough, refused, rest-lent, Listed, listed}
use Rattle.listing.proofs.report.report.Goals as goal
use Rattle.listing.proofs.report.report.Goals.{In-Ok, After-counts_of-tally}

-- an input that is not refused has a whole plan, and its run can be listed
long : (c : In-Ok) → plan_length ≤ length c.args.stored.now
long c = long-enough _ _ (sym c.in-Ok.ensures.outcome)

ran : (c : After-counts_of-tally) → Listed c.args.stored.now c.args.beyond c.counts_of-tally.result c.run.new.net
ran c =
    let o = sym c.in-Ok.ensures.outcome in
    listed _ _ _ _ _ _ o (c.in-Ok.ensures.fresh refl) (rest-lent c.args.stored.now) (c.counts_of-tally.ensures ∙ ap (λ (a : Answer). a.tally) c.run.ensures.0, c.run.ensures.1)

pub returns-in-Ok : goal.returns-in-Ok
returns-in-Ok c =
    let W = c.listing.ensures in
    ((within-as (ran (goal.at.returns-in-Ok c).After-counts_of-tally).text W).wrote, omega (arith, W.within))

pub returns-in-Err : goal.returns-in-Err
returns-in-Err c =
    let W = c.refused_text.ensures in
    let is = c.in-Err.ensures.outcome in
    let text = refused _ _ _ is (λ z. omega (arith, number-positive c.in-Err.k, z)) in
    ((within-as (ap refused_text (search rules) ∙ text) W).wrote, omega (arith, W.within))

pub slice_bounds-run-count : goal.slice_bounds-run-count
slice_bounds-run-count c = omega (arith, long (goal.at.slice_bounds-run-count c).In-Ok)

pub slice_bounds-run-start : goal.slice_bounds-run-start
slice_bounds-run-start c = omega (arith, long (goal.at.slice_bounds-run-start c).In-Ok)

pub listing-requires-clause-net : goal.listing-requires-clause-net
listing-requires-clause-net c = (ran (goal.at.listing-requires-clause-net c).After-counts_of-tally).net

pub listing-requires-clause-sent_value : goal.listing-requires-clause-sent_value
listing-requires-clause-sent_value c = ((ran (goal.at.listing-requires-clause-sent_value c).After-counts_of-tally).left, omega arith)
