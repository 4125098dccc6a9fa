-- The reply of one step, by the counts of its case.
use Rattle.std.specs.Prelude.{cond, ℕ, eqb}
use Rattle.protocol.specs.declared.Replies.{Replies}

-- the number of the first case that has a count, or 0
unfoldable pub case_counted : Replies → ℕ
case_counted r =
    cond (eqb r.adopted 0)
    (cond (eqb r.not_tentative 0)
    (cond (eqb r.unconnected 0)
    (cond (eqb r.not_greater 0) 0 4)
    3)
    2)
    1
