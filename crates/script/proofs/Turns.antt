-- One step more of a run over bytes.
use mathlib.Core.Path.{◌≡◌, refl, sym, ap, subst, ◌∙◌}
use mathlib.Core.List.{List, ◌++◌}
use Prim.Native.Nat.{ℕ, ◌+◌, ◌*◌, ◌/◌, ◌≤◌, ◌<◌}
use native.Mathlib.Numerals.{add-one}
use lib.Dec.{eqb}
use Rattle.std.proofs.Common.{length, drop, arith, add-zero, get_or, length-append, length-drop}
use Rattle.std.proofs.Math.ListN.{get_or-append}
use Rattle.std.proofs.Math.Seq.{drop-append_seam}
use Rattle.std.proofs.lemmas.List.{get_or-drop, drop-drop}
use borrow.Author.Tests.{eqb-true}
use Rattle.bits.proofs.Cases.{by_bool}
use Rattle.protocol.specs.declared.Tally.{Tally}
use Rattle.protocol.specs.Net.{Net}
use Rattle.protocol.specs.Steps.{rule, outcome, step}
use Rattle.protocol.specs.Runs.{RunState, then, after}
use Rattle.protocol.specs.Shaped.{Shaped}
use Rattle.protocol.proofs.Theorems.{run-shaped}
use Rattle.layout.specs.declared.form.Mark.{Mark}
use Rattle.layout.specs.Marks.{mark_of}
use Rattle.net.specs.View.{view}
use Rattle.net.specs.Encode.{bytes_as}
use Rattle.access.specs.Inner.Nets.{IsNet}
use Rattle.access.proofs.Laws.{is-net-of}
use Rattle.action.specs.declared.Answer.{Answer}
use Rattle.action.specs.Inner.Ends.{Ended}
use Rattle.script.specs.Inner.Ends.{StepEnd}
use Rattle.script.specs.Inner.Counts.{count_traffic, counted}
use Rattle.script.proofs.Ends.{left-bytes}

-- what a step did is counted as the book counts it
counts_step : (R : RunState) (k a b c : ℕ) (l l' : List ℕ) (d : Answer) → Ended (outcome R.net k a b c) (rule R.net k a b c) l d l' → counted R.tally d ≡ (then R k a b c).tally
unfolding counted then
counts_step R k a b c l l' d E = rw E.accepted (by_bool (eqb (outcome R.net k a b c) 0)
    (λ t. rw t (ap (count_traffic R.tally) (E.traffic (eqb-true _ 0 t))))
    (λ f. rw f refl))

module _ (m : Mark) (N : Net) (H : Shaped N) (s : List ℕ) where
  -- step i of the script: its action and its operands
  abbrev pub k : ℕ → ℕ
  k i = get_or s (4 * i) 0

  abbrev pub a : ℕ → ℕ
  a i = get_or s (4 * i + 1) 0

  abbrev pub b : ℕ → ℕ
  b i = get_or s (4 * i + 2) 0

  abbrev pub c : ℕ → ℕ
  c i = get_or s (4 * i + 3) 0

  -- bytes that are those of the net after i steps
  pub after-is-net : (i : ℕ) (l : List ℕ) → l ≡ bytes_as m (after N s i).net → (IsNet l) × (view l ≡ (after N s i).net) × (mark_of l ≡ m)
  after-is-net i l e = is-net-of m (after N s i).net l (run-shaped N s H i) e

  module _ (i : ℕ) (l l' : List ℕ) (d : Answer) (e : l ≡ bytes_as m (after N s i).net) (w : StepEnd l (k i) (a i) (b i) (c i) d l') where
    pub turn-net : l' ≡ bytes_as m (after N s (i + 1)).net
    unfolding after then
    turn-net = let was = after-is-net i l e in rw add-one (left-bytes l was.0 _ _ _ _ w ∙ (λ j. bytes_as (was.2 j) (step (was.1 j) (k i) (a i) (b i) (c i))))

    pub turn-tally : (t t' : Tally) → t ≡ (after N s i).tally → t' ≡ counted t d → t' ≡ (after N s (i + 1)).tally
    unfolding after
    turn-tally t t' was is =
        let E = subst (λ (M : Net). Ended (outcome M (k i) (a i) (b i) (c i)) (rule M (k i) (a i) (b i) (c i)) l d l') (after-is-net i l e).1 w in
        rw add-one (is ∙ ap (λ (x : Tally). counted x d) was ∙ counts_step (after N s i) _ _ _ _ l l' d E)

-- the steps that are left of a script from step i on: step i and the others
module _ (s x t : List ℕ) (i : ℕ) (e : drop (4 * i) s ≡ x ++ t) (four : length x ≡ 4) where
  pub step-byte : (j : ℕ) → j < 4 → get_or x j 0 ≡ get_or s (4 * i + j) 0
  step-byte j h = sym (get_or-append x t 0 j (omega arith)) ∙ ap (λ (y : List ℕ). get_or y j 0) (sym e) ∙ get_or-drop (4 * i) s j 0

  pub steps-left : t ≡ drop (4 * (i + 1)) s
  steps-left =
      let next : 4 * i + 4 ≡ 4 * (i + 1) = omega arith in
      sym (drop-append_seam x t) ∙ (λ j. drop (four j) (sym e j)) ∙ drop-drop 4 (4 * i) s ∙ ap (λ (n : ℕ). drop n s) next

  pub step-within : 4 * (i + 1) ≤ length s
  step-within = omega (arith, length-drop (4 * i) s, ap length e, length-append x t)

  pub step-ends : (l l' : List ℕ) (d : Answer) → StepEnd l (get_or x 0 0) (get_or x 1 0) (get_or x 2 0) (get_or x 3 0) d l'
      → StepEnd l (get_or s (4 * i) 0) (get_or s (4 * i + 1) 0) (get_or s (4 * i + 2) 0) (get_or s (4 * i + 3) 0) d l'
  step-ends l l' d w =
      let first = step-byte 0 (omega arith) ∙ ap (λ (n : ℕ). get_or s n 0) (add-zero (4 * i)) in
      rw (← first, ← step-byte 1 (omega arith), ← step-byte 2 (omega arith), ← step-byte 3 (omega arith)) w

-- fewer bytes than a step has are left: every step was done
pub all-done : (s : List ℕ) (i : ℕ) → 4 * i ≤ length s → length (drop (4 * i) s) < 4 → i ≡ length s / 4
all-done s i h few = omega (arith, length-drop (4 * i) s)
