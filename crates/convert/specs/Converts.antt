-- A net carried from one form to another: what it answers, and the bytes that it leaves.
use Rattle.std.specs.Prelude.{cond, List, ℕ, eqb, length}
use Rattle.protocol.specs.Steps.{or_else}
use Rattle.layout.specs.Layout.{net_length}
use Rattle.layout.specs.declared.form.Mark.{Mark}
use Rattle.shape.specs.Shape.{shaped_as}
use Rattle.net.specs.View.{view}
use Rattle.net.specs.Encode.{bytes_as}

-- 1: "the net is not 15,728 bytes or not well shaped", in the form that is read; 10: "the lent output is not of the stated size"
unfoldable pub convert_outcome : Mark → List ℕ → List ℕ → ℕ
convert_outcome m l out = or_else (shaped_as m l) 1 (or_else (eqb (length out) net_length) 10 0)

-- from the form m to the form n: the bytes there of the net that is read; a refusal changes no lent byte
unfoldable pub after_convert : Mark → Mark → List ℕ → List ℕ → List ℕ
after_convert m n l out = cond (eqb (convert_outcome m l out) 0) (bytes_as n (view l)) out
