-- A script that is not refused is at most 16,384 bytes long.
use mathlib.Core.Path.{◌≡◌}
use Prim.Native.Nat.{ℕ, ◌%◌, ◌≤◌}
use native.Mathlib.Omega.{arith}
use lib.Dec.{eqb, leb}
use borrow.Author.Tests.{leb-true}
use Rattle.protocol.specs.Steps.{or_else}
use Rattle.protocol.specs.Net.{longest_script}
use Rattle.protocol.specs.Runs.{length_outcome}
use Rattle.protocol.proofs.Steps.Steps.{or_else-pass}

pub length-fits : (n : ℕ) → length_outcome n ≡ 0 → n ≤ longest_script
unfolding length_outcome
length-fits n e =
    let w = (or_else-pass (eqb (n % 4) 0) 11 (or_else (leb n longest_script) 12 0) 0 (λ i. omega arith) e).1 in
    leb-true n longest_script (or_else-pass (leb n longest_script) 12 0 0 (λ i. omega arith) w).0
