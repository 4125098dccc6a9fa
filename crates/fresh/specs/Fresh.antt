-- A fresh net from a plan: what it answers, and the bytes that it leaves.
use Rattle.std.specs.Prelude.{cond, List, ℕ, eqb, length}
use Rattle.protocol.specs.Fresh.{fresh}
use Rattle.protocol.specs.Steps.{or_else}
use Rattle.layout.specs.Layout.{net_length}
use Rattle.plan.specs.Planned.{plan_shaped}
use Rattle.net.specs.Encode.{bytes_of}
use Rattle.forms.specs.Plans.{plan_in}

-- 10: "the lent output is not of the stated size"; 9: "the plan is not 112 bytes or not well shaped". "A fresh net tests 10
-- before 9"
unfoldable pub fresh_outcome : List ℕ → List ℕ → ℕ
fresh_outcome plan net = or_else (eqb (length net) net_length) 10 (or_else (plan_shaped plan) 9 0)

unfoldable pub net_after_fresh : List ℕ → List ℕ → List ℕ
net_after_fresh plan net = cond (eqb (fresh_outcome plan net) 0) (bytes_of (fresh (plan_in plan))) net
