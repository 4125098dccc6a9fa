-- The reach list: "from the root, lowest child first, a whole branch before the next; children here are the agreed ones".
use Rattle.std.specs.Prelude.{List, [], ◌∷◌, ◌++◌, Bool, true, false, ℕ, zero, suc, ◌+◌, eqb}
use Rattle.bits.specs.Sums.{bit}
use Rattle.tree.specs.declared.Reach.{Reach}
use Rattle.tree.specs.Tree.{Tree, agreed}

-- j in front of the list, if it is to be kept
abbrev pub keep : Bool → ℕ → List ℕ → List ℕ
keep true j l = j ∷ l
keep false j l = l

-- of the k numbers from j on those that the test picks, lowest first
unfoldable pub picked : (ℕ → Bool) → ℕ → ℕ → List ℕ
picked a j zero = []
picked a j (suc k) = keep (a j) j (picked a (suc j) k)

-- "visiting a list visits a station": each of its stations in turn, by `visit`
unfoldable pub visits : {A : Type 0} → (ℕ → List A) → List ℕ → List A
visits visit [] = []
visits visit (c ∷ cs) = visit c ++ visits visit cs

-- "Visiting a station visits its list of children .. with a depth allowance": the station p at this depth, and then
-- the list of its agreed children, with an allowance that is less by one
unfoldable pub visit : Tree → ℕ → ℕ → ℕ → List Reach
visit t zero depth p = []
visit t (suc allowance) depth p =
    record { station = p; parent = t.parent p; depth = depth }
    ∷ visits (visit t allowance (suc depth)) (picked (agreed t p) 0 t.stations)

-- the reach list: from the root, with an allowance "that falls from n"
unfoldable pub reach : Tree → List Reach
reach t = visit t t.stations 0 t.root

-- the stations of a list, and how often x stands there
unfoldable pub stations_in : List Reach → List ℕ
stations_in [] = []
stations_in (l ∷ ls) = l.station ∷ stations_in ls

unfoldable pub count : ℕ → List ℕ → ℕ
count x [] = 0
count x (y ∷ l) = bit (eqb y x) + count x l
