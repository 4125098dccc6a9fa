use Rattle.std.proofs.Common.{rules, ◌≡◌, ℕ, ◌*◌, ◌/◌, ◌<◌, length, drop, sym, ap, subst, ◌∙◌, arith, length-append}
use Rattle.protocol.specs.Runs.{after}
use Rattle.net.specs.View.{view}
use Rattle.net.specs.Encode.{bytes_like}
use Rattle.net.proofs.Forms.{seen, view-bytes}
use Rattle.script.specs.Inner.Counts.{CountsUpTo}
use Rattle.script.proofs.CountsUpTo.{few}
use Rattle.script.proofs.Turns.{after-is-net, turn-net, turn-tally, steps-left, step-within, step-ends, all-done}
use Rattle.script.proofs.run_whole.Goals as goal

pub loop-step-init : goal.loop-step-init
unfolding after
loop-step-init c = record {
  size = search rules;
  left = search rules;
  within = omega arith;
  net = sym (view-bytes _ _ c.requires.net.shape);
  tally = search rules;
}

pub step_in-d-requires-clause-net : goal.step_in-d-requires-clause-net
step_in-d-requires-clause-net c = (after-is-net _ _ (seen _ _ c.requires.net.shape) c.args.script.now _ _ c.loop-step.invariant.net).0

pub step_in-d-requires-clause-m_value : goal.step_in-d-requires-clause-m_value
step_in-d-requires-clause-m_value c =
    c.requires.m_value ∙ sym (after-is-net _ _ (seen _ _ c.requires.net.shape) c.args.script.now _ _ c.loop-step.invariant.net).2

pub counted-tally-requires : goal.counted-tally-requires
counted-tally-requires c =
    let i = length c.loop-step.yielded in
    let next = c.in-Some.ensures.steps.1 in
    let within = step-within c.args.script.now _ _ i (sym c.loop-step.invariant.left ∙ next.0) (next.1 ∙ c.loop-step.invariant.size) in
    let f = subst (CountsUpTo i) (sym c.loop-step.invariant.tally) (few (view c.args.net.now) c.args.script.now i) in
    record {
      accepted = omega (arith, f.accepted);
      refused = omega (arith, f.refused);
      sent = omega (arith, f.sent);
      delivered = omega (arith, f.delivered);
      lost = omega (arith, f.lost);
      replies = λ x. omega (arith, f.replies x);
    }

pub loop-step-preserved : goal.loop-step-preserved
loop-step-preserved c =
    let l = c.loop-step in
    let i = length l.yielded in
    let s = c.args.script.now in
    let next = c.in-Some.ensures.steps in
    let is = sym l.invariant.left ∙ next.1.0 in
    let four = next.1.1 ∙ l.invariant.size in
    let H = seen _ _ c.requires.net.shape in
    let did = step-ends s _ _ i is four _ _ _ c.step_in-d.ensures in
    rw length-append (record {
      size = next.0 ∙ l.invariant.size;
      left = steps-left s _ _ i is four;
      within = step-within s _ _ i is four;
      net = turn-net _ _ H s i l.net _ _ l.invariant.net did;
      tally = turn-tally _ _ H s i l.net _ _ l.invariant.net did l.tally _ l.invariant.tally c.counted-tally.ensures;
    })

pub returns : goal.returns
returns c =
    let few : length (drop (4 * length c.loop-step.yielded) c.args.script.now) < 4 = rw (← c.loop-step.invariant.left) (rw c.loop-step.invariant.size at c.in-None.ensures.steps.1.0) in
    let all : length c.loop-step.yielded ≡ length c.args.script.now / 4 = all-done _ _ c.loop-step.invariant.within few in
    let at = after (view c.args.net.now) c.args.script.now in
    (c.loop-step.invariant.tally ∙ ap (λ (k : ℕ). (at k).tally) all, c.loop-step.invariant.net ∙ ap (λ (k : ℕ). bytes_like c.args.net.now (at k).net) all)
