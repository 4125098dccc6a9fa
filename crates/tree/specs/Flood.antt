-- How a call spreads (document 001, section 3): the caller passes it to all its neighbours in the tree, and each station that
-- gets it passes it on to all of its own except the one it came from.
use Rattle.std.specs.Prelude.{List, [], ◌∷◌, Bool, not, ◌&&◌, ◌||◌, ℕ, zero, suc, ◌+◌, eqb}
use Rattle.tree.specs.Tree.{Tree, nil, agreed}
use Rattle.tree.specs.Reach.{picked, visits}

-- p, which has the call from f, passes it to j: they are agreed neighbours, and j is not f
unfoldable pub passes_to : Tree → ℕ → ℕ → ℕ → Bool
passes_to t f p j = (agreed t p j || agreed t j p) && not (eqb j f)

-- one passing-on of the call
pub record Pass : Type 0 where
  pub sender : ℕ
  pub receiver : ℕ

-- the passings-on that follow when p has the call from f, with an allowance of hops: to each that p passes it to, and then
-- what follows there
unfoldable pub flood : Tree → ℕ → ℕ → ℕ → List Pass
flood t zero f p = []
flood t (suc allowance) f p =
    visits (λ j. record { sender = p; receiver = j } ∷ flood t allowance p j) (picked (passes_to t f p) 0 t.stations)

-- the flood of a call from c, who has it from nobody. Fewer than n hops lead up to the root, and fewer than n down from
-- it, so that an allowance of 2 n is never used up (`flood-reaches` and `flood-copies` hold for every greater one too)
unfoldable pub spread : Tree → ℕ → List Pass
spread t c = flood t (t.stations + t.stations) nil c

-- who has the call from somebody
unfoldable pub receivers : List Pass → List ℕ
receivers [] = []
receivers (m ∷ ms) = m.receiver ∷ receivers ms
