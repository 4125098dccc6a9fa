-- Bytes in the form m and bytes in the form n that are the same net.
use Rattle.std.specs.Prelude.{◌≡◌, true, List, ℕ}
use Rattle.layout.specs.declared.form.Mark.{Mark}
use Rattle.shape.specs.Shape.{shaped_as}
use Rattle.net.specs.View.{view}

pub record Corresponds (m n : Mark) (l w : List ℕ) : Type 0 where
  pub here : shaped_as m l ≡ true
  pub there : shaped_as n w ≡ true
  pub same : view l ≡ view w
