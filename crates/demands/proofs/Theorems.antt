-- Demand 3 over bytes, in each form.
--     reachable-demand3         every station with a parent reaches its root in fewer hops than there are stations, every parent on the way
--                               lists the one below; no channel holds more than one request and one reply of a group
--     reachable-keeps-parents   a station with a parent keeps one in a step that leaves it a member or with a child
--     reachable-keeps-while     and so through any steps, while it is a member or has a child
--     reachable-never-six       outcome 6 does not occur
use mathlib.Core.Path.{◌≡◌, refl, sym, ap, subst, ◌∙◌}
use mathlib.Core.Logic.{◌≢◌}
use mathlib.Core.Bool.{Bool, true}
use mathlib.Core.List.{List}
use Prim.Native.Nat.{ℕ, zero, suc, ◌/◌, ◌<◌}
use native.Mathlib.Omega.{arith}
use lib.Dec.{eqb}
use lib.ListN.{length}
use Rattle.bits.proofs.Cases.{by-eq}
use Rattle.protocol.specs.Net.{Net, nil}
use Rattle.protocol.specs.Entries.{joins}
use Rattle.protocol.specs.Fresh.{fresh}
use Rattle.protocol.specs.Steps.{or_else, outcome}
use Rattle.protocol.specs.Demands.{Demand3, KeepsParents}
use Rattle.protocol.proofs.Steps.Steps.{or_else-pass}
use Rattle.protocol.proofs.Steps.Kept.{step-keeps-parents}
use Rattle.protocol.specs.Sound.{ShapedSound}
use Rattle.protocol.proofs.Theorems.{fresh-shaped-sound, step-shaped-sound, run-shaped-sound, shaped-sound-demand3, never-six}
use Rattle.layout.specs.Layout.{net_length}
use Rattle.plan.specs.Planned.{plan_shaped}
use Rattle.layout.specs.declared.form.Mark.{Mark}
use Rattle.layout.specs.declared.form.Mark.TheVariants.{Saved}
use Rattle.net.specs.View.{view}
use Rattle.net.specs.Encode.{bytes_as}
use Rattle.fresh.specs.Fresh.{fresh_outcome, net_after_fresh}
use Rattle.step.specs.Steps.{step_outcome_as, net_after_step_as}
use Rattle.step.proofs.After.{after-net}
use Rattle.run.specs.Runs.{run_outcome_as, net_after_run_as, in_turn}
use Rattle.run.proofs.Theorems.{refused-after, run-after}
use Rattle.convert.proofs.Theorems.{converted-after}
use Rattle.demands.specs.Reachable.{Reachable, begun, stepped, ran, converted, ShapedSoundBytes}
use Rattle.forms.specs.Plans.{plan_in}
use Rattle.forms.proofs.Plan.Seen.{plan-seen}
use Rattle.net.proofs.Forms.{stands}

-- the bytes of a well-shaped and sound net
shaped-sound-bytes : (m : Mark) (N : Net) (l : List ℕ) → ShapedSound N → l ≡ bytes_as m N → ShapedSoundBytes m l
shaped-sound-bytes m N l G e = let w = stands m N l G.shaped e in record { shape = w.0; sound = subst ShapedSound (sym w.1) G }

shaped-sound-fresh : (plan net : List ℕ) → fresh_outcome plan net ≡ 0 → ShapedSoundBytes Saved (net_after_fresh plan net)
unfolding fresh_outcome net_after_fresh
shaped-sound-fresh plan net o =
    let size = or_else-pass (eqb (length net) net_length) 10 _ 0 (λ i. omega arith) o in
    let shape = (or_else-pass (plan_shaped plan) 9 0 0 (λ i. omega arith) size.1).0 in
    shaped-sound-bytes Saved (fresh (plan_in plan)) _ (fresh-shaped-sound (plan_in plan) (plan-seen plan shape)) (rw o refl)

shaped-sound-step : (m : Mark) (l : List ℕ) → ShapedSoundBytes m l → (k a b c : ℕ) → ShapedSoundBytes m (net_after_step_as m l k a b c)
shaped-sound-step m l F k a b c =
    let w = after-net m l k a b c F.shape in
    record { shape = w.0; sound = subst ShapedSound (sym w.1) (step-shaped-sound (view l) F.sound k a b c) }

shaped-sound-run : (m : Mark) (l : List ℕ) → ShapedSoundBytes m l → (s : List ℕ) (fits : Bool) → ShapedSoundBytes m (net_after_run_as m l s fits)
shaped-sound-run m l F s fits = by-eq (run_outcome_as m l s fits) 0
    (λ o. shaped-sound-bytes m _ _ (run-shaped-sound (view l) s F.sound (length s / 4)) (run-after m l s fits o).0)
    (λ n. subst (ShapedSoundBytes m) (sym (refused-after m l s fits n)) F)

pub reachable-shaped-sound : {m : Mark} {l : List ℕ} → Reachable m l → ShapedSoundBytes m l
reachable-shaped-sound (begun plan net o) = shaped-sound-fresh plan net o
reachable-shaped-sound (stepped {m} {l} R k a b c) = shaped-sound-step m l (reachable-shaped-sound R) k a b c
reachable-shaped-sound (ran {m} {l} R s fits) = shaped-sound-run m l (reachable-shaped-sound R) s fits
reachable-shaped-sound (converted {m} {l} R n out o) = shaped-sound-bytes n (view l) _ (reachable-shaped-sound R).sound (converted-after m n l out o)

step_keeps : {m : Mark} {l : List ℕ} → Reachable m l → (k a b c : ℕ) → KeepsParents (view l) (view (net_after_step_as m l k a b c))
step_keeps {m} {l} R k a b c =
    let F = reachable-shaped-sound R in
    subst (KeepsParents (view l)) (sym (after-net m l k a b c F.shape).1) (step-keeps-parents (view l) F.sound.shaped k a b c)

module _ {m : Mark} {l : List ℕ} (R : Reachable m l) where
  pub reachable-demand3 : Demand3 (view l)
  reachable-demand3 = shaped-sound-demand3 (view l) (reachable-shaped-sound R).sound

  pub reachable-keeps-parents : (k a b c : ℕ) → KeepsParents (view l) (view (net_after_step_as m l k a b c))
  reachable-keeps-parents = step_keeps R

  pub reachable-never-six : (k a b c : ℕ) → step_outcome_as m l k a b c ≢ 6
  unfolding step_outcome_as
  reachable-never-six k a b c e =
      let F = reachable-shaped-sound R in
      never-six (view l) F.sound k a b c (ap (λ t. or_else t 1 (outcome (view l) k a b c)) (sym F.shape) ∙ e)

  -- after each step of a script
  reachable-turn : (s : List ℕ) (i : ℕ) → Reachable m (in_turn m l s i)
  unfolding in_turn
  reachable-turn s zero = R
  reachable-turn s (suc i) = stepped (reachable-turn s i) _ _ _ _

  -- "while": through any steps after each of which it is a member or has a child
  pub reachable-keeps-while : (s : List ℕ) (g p i : ℕ) → ((view l).entry g p).parent ≢ nil
      → ((j : ℕ) → j < i → joins ((view (in_turn m l s (suc j))).entry g p) ≡ true)
      → ((view (in_turn m l s i)).entry g p).parent ≢ nil
  unfolding in_turn
  reachable-keeps-while s g p zero has still = has
  reachable-keeps-while s g p (suc i) has still =
      step_keeps (reachable-turn s i) _ _ _ _ g p (reachable-keeps-while s g p i has (λ j lt. still j (omega arith))) (still i (omega arith))
