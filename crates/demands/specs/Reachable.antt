-- The bytes that a bench can come to, in each form, from a fresh net, after any steps in any order. Each case is what a public function
-- leaves.
use Rattle.std.specs.Prelude.{◌≡◌, Bool, true, List, ℕ}
use Rattle.protocol.specs.Sound.{ShapedSound}
use Rattle.layout.specs.declared.form.Mark.{Mark}
use Rattle.layout.specs.declared.form.Mark.TheVariants.{Saved}
use Rattle.shape.specs.Shape.{shaped_as}
use Rattle.net.specs.View.{view}
use Rattle.fresh.specs.Fresh.{fresh_outcome, net_after_fresh}
use Rattle.step.specs.Steps.{net_after_step_as}
use Rattle.run.specs.Runs.{net_after_run_as}
use Rattle.convert.specs.Converts.{convert_outcome, after_convert}

pub data Reachable : Mark → List ℕ → Type 0 where
  -- a fresh net, from any plan into any buffer, where it is accepted
  begun : (plan net : List ℕ) → fresh_outcome plan net ≡ 0 → Reachable Saved (net_after_fresh plan net)
  -- a step of any numbers, accepted or refused
  stepped : {m : Mark} {l : List ℕ} → Reachable m l → (k a b c : ℕ) → Reachable m (net_after_step_as m l k a b c)
  -- a run of any script, with a tally of the right size or not, accepted or refused
  ran : {m : Mark} {l : List ℕ} → Reachable m l → (s : List ℕ) (fits : Bool) → Reachable m (net_after_run_as m l s fits)
  -- a conversion into any buffer, where it is accepted
  converted : {m : Mark} {l : List ℕ} → Reachable m l → (n : Mark) (out : List ℕ) → convert_outcome m l out ≡ 0 → Reachable n (after_convert m n l out)

-- well-shaped bytes that show a net that is well shaped and sound
pub record ShapedSoundBytes (m : Mark) (l : List ℕ) : Type 0 where
  pub shape : shaped_as m l ≡ true
  pub sound : ShapedSound (view l)
