-- What the program prints from the bytes that it stores is what the bench prints for the whole input.
use mathlib.Core.Path.{◌≡◌, refl}
use mathlib.Core.Bool.{false}
use mathlib.Core.List.{List}
use Prim.Native.Nat.{ℕ, ◌+◌, ◌-◌, ◌≤◌, ◌<◌}
use native.Mathlib.Omega.{arith}
use native.Mathlib.Nat.{add-zero}
use lib.ListN.{length, take, length-drop}
use lib.Seq.{length-take-le, take_all, take-take}
use lib.Dec.{eqb}
use borrow.Author.Tests.{ne_eqb}
use Rattle.bits.proofs.Cases.{by-lt}
use Rattle.protocol.specs.Steps.{or_else}
use Rattle.protocol.proofs.Steps.Steps.{or_else-pass}
use Rattle.protocol.specs.Net.{longest_script}
use Rattle.protocol.specs.Runs.{length_outcome, script_outcome}
use Rattle.layout.specs.Layout.{plan_length}
use Rattle.plan.specs.Planned.{plan_shaped}
use Rattle.run.proofs.Lengths.{length-fits}
use Rattle.listing.specs.Bench.{plan_part, script_part, stored_length, bench_outcome, bench_text, stored_outcome, stored_text}

module _ (input : List ℕ) (k : ℕ) (size : k ≡ plan_length + longest_script) where
  -- all of the input is stored
  all-stored : length input ≤ k → stored_text (take k input) (length input - k) ≡ bench_text input
  unfolding stored_text stored_outcome bench_text bench_outcome script_outcome
  all-stored h =
      let none : length input - k ≡ 0 = omega arith in
      rw (take_all k input h, none, add-zero) refl

  -- the script is too long, or not of whole steps: its bytes do not matter
  module _ (h : k < length input) where
    abbrev stored : List ℕ
    stored = take k input

    same-plan : plan_part stored ≡ plan_part input
    same-plan = take-take plan_length k input (omega arith)

    same_length : length (script_part stored) + (length input - k) ≡ length (script_part input)
    same_length = omega (arith, length-drop plan_length stored, length-drop plan_length input, length-take-le k input (omega arith))

    same_outcome : stored_outcome stored (length input - k) ≡ bench_outcome input
    unfolding stored_outcome bench_outcome script_outcome
    same_outcome = λ i. or_else (plan_shaped (same-plan i)) 9 (length_outcome (same_length i))

    refused : eqb (bench_outcome input) 0 ≡ false
    unfolding bench_outcome script_outcome
    refused = ne_eqb _ 0
        (λ e. let w = (or_else-pass (plan_shaped (plan_part input)) 9 (length_outcome (length (script_part input))) 0 (λ i. omega arith) e).1 in
        omega (arith, length-fits (length (script_part input)) w, length-drop plan_length input))

    part-stored : stored_text stored (length input - k) ≡ bench_text input
    unfolding stored_text bench_text
    part-stored = rw (same_outcome, refused) refl

pub whole-input : (input : List ℕ) → stored_text (take stored_length input) (length input - stored_length) ≡ bench_text input
whole-input input = by-lt stored_length (length input) (part-stored input stored_length refl) (all-stored input stored_length refl)
