use Rattle.std.proofs.Common.{◌≡◌, ◌*◌, ◌≤◌, length, drop}
use Rattle.protocol.specs.Runs.{after}
use Rattle.net.specs.View.{view}
use Rattle.net.specs.Encode.{bytes_like}
use Rattle.script.proofs.run_whole.Given as goal

-- as many steps are done as were yielded, and the others are left
abbrev pub invariant-loop-step : goal.invariant-loop-step
invariant-loop-step l =
    let R = after (view l.fn.net) l.fn.script (length l.yielded) in
    record {
      size : l.step-iterator.size ≡ 4;
      left : l.step-iterator.rest.now ≡ drop (4 * length l.yielded) l.script;
      within : 4 * length l.yielded ≤ length l.script;
      net : l.net ≡ bytes_like l.fn.net R.net;
      tally : l.tally ≡ R.tally;
    }
