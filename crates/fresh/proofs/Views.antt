-- A fresh net's bytes are well shaped, and show the fresh net of the plan.
use mathlib.Core.Path.{◌≡◌, refl}
use mathlib.Core.Bool.{true}
use mathlib.Core.List.{List}
use Prim.Native.Nat.{ℕ}
use Rattle.protocol.specs.Fresh.{fresh}
use Rattle.protocol.proofs.Shape.Changes.{fresh-shaped}
use Rattle.plan.specs.Planned.{plan_shaped}
use Rattle.layout.specs.declared.form.Mark.TheVariants.{Saved}
use Rattle.shape.specs.Shape.{shaped}
use Rattle.net.specs.View.{view}
use Rattle.net.specs.Encode.{bytes_of}
use Rattle.forms.specs.Plans.{plan_in}
use Rattle.forms.proofs.Plan.Seen.{plan-seen}
use Rattle.net.proofs.Forms.{stands}

pub fresh-view : (plan : List ℕ) → plan_shaped plan ≡ true → (shaped (bytes_of (fresh (plan_in plan))) ≡ true) × (view (bytes_of (fresh (plan_in plan))) ≡ fresh (plan_in plan))
fresh-view plan s = stands Saved _ _ (fresh-shaped _ (plan-seen plan s)) refl
