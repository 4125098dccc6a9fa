-- A group is found by its full name or not at all.
use Rattle.std.specs.Prelude.{Bool, true, false, cond, ◌&&◌, List, [], ◌∷◌, ℕ, zero, suc, eqb, ltb}
use Rattle.protocol.specs.Net.{Net}

-- the same name: as long, and the same byte at each place
unfoldable pub same_name : List ℕ → List ℕ → Bool
same_name [] [] = true
same_name [] (y ∷ m) = false
same_name (x ∷ l) [] = false
same_name (x ∷ l) (y ∷ m) = eqb x y && same_name l m

-- the first of the k numbers from j on that passes the test, and j + k if none does
unfoldable pub first_from : (ℕ → Bool) → ℕ → ℕ → ℕ
first_from P j zero = j
first_from P j (suc k) = cond (P j) j (first_from P (suc j) k)

pub record Found : Type 0 where
  pub outcome : ℕ
  pub group : ℕ

-- 7: "no group has exactly these name bytes (empty and over 16 included)"
unfoldable pub find : Net → List ℕ → Found
find N w =
    let g = first_from (λ i. same_name (N.name i) w) 0 N.groups in
    cond (ltb g N.groups) (record { outcome = 0; group = g }) (record { outcome = 7; group = 0 })
