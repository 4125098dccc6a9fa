-- The bytes on the way to a fresh net, as the code lays them: proofs/Laid.antt shows that they come out as the fresh net's.
use Rattle.std.specs.Prelude.{List, [], ◌∷◌, ℕ, replicate}
use Rattle.bits.specs.Numbers.{bytes}
use Rattle.bits.specs.Parts.{splice}
use Rattle.protocol.specs.Net.{nil}
use Rattle.protocol.specs.Fresh.{blank}
use Rattle.layout.specs.Layout.{net_length, stations, groups, route_at}
use Rattle.layout.specs.declared.form.Mark.TheVariants.{Saved}
use Rattle.layout.specs.Marks.{entry_at}
use Rattle.forms.specs.Folds.{in_rows}
use Rattle.net.specs.Encode.{entry_bytes}

unfoldable pub route_nil : List ℕ → ℕ → ℕ → List ℕ
route_nil l p d = splice l (route_at p d) (nil ∷ [])

unfoldable pub entry_blank : List ℕ → ℕ → ℕ → List ℕ
entry_blank l g p = splice l (entry_at Saved g p) (entry_bytes blank)

-- all zero, the plan at the front with the length of a net, then the routes and the entries
unfoldable pub plan_laid : List ℕ → List ℕ
plan_laid plan = splice (splice (replicate net_length 0) 0 plan) 0 (bytes 4 net_length)

unfoldable pub laid : List ℕ → List ℕ
laid plan = in_rows entry_blank (in_rows route_nil (plan_laid plan) (stations plan) (stations plan)) (groups plan) (stations plan)
