use Rattle.std.proofs.Common.{◌*◌, ◌≤◌}
use Rattle.bench.proofs.count_rest.Given as goal

abbrev pub invariant-loop : goal.invariant-loop
invariant-loop l = l.sum ≤ 4096 * l.counter
