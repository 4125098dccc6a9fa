-- Records and their bytes.
use Rattle.std.proofs.Common.{◌≡◌, refl, ℕ, ◌+◌, ◌*◌, ◌<◌, ◌≤◌, List, [], ◌∷◌, length, take, get_or, set, append_assoc, arith}
use Rattle.std.proofs.lemmas.List.{take_more, take_more_set}
use Rattle.tree.specs.declared.Reach.{Reach}
use Rattle.visit.specs.Lists.{reach_bytes}
use Rattle.visit.proofs.Visits.{reach-append}

-- records are known by their bytes
pub same-records : (xs ys : List Reach) → reach_bytes xs ≡ reach_bytes ys → xs ≡ ys
unfolding reach_bytes
same-records [] [] e = refl
same-records [] (y ∷ ys) e = cc
same-records (x ∷ xs) [] e = cc
same-records (x ∷ xs) (y ∷ ys) e =
    let s : x.station ≡ y.station = cc in
    let p : x.parent ≡ y.parent = cc in
    let d : x.depth ≡ y.depth = cc in
    let rest : reach_bytes xs ≡ reach_bytes ys = cc in
    λ k. record { station = s k; parent = p k; depth = d k } ∷ same-records xs ys rest k

-- the entry i of the bytes
abbrev pub reach_at : List ℕ → ℕ → Reach
reach_at b i = record { station = get_or b (3 * i) 0; parent = get_or b (3 * i + 1) 0; depth = get_or b (3 * i + 2) 0 }

-- the first i records have the first bytes, three each: one more
pub one_more : (xs : List Reach) (b : List ℕ) (i : ℕ) → i < length xs → 3 * i + 3 ≤ length b → reach_bytes (take i xs) ≡ take (3 * i) b
    → reach_bytes (take (i + 1) (set xs i (reach_at b i))) ≡ take (3 * (i + 1)) b
unfolding reach_bytes
one_more xs b i h k e =
    let n : 3 * (i + 1) ≡ 3 * i + 1 + 1 + 1 = omega arith in
    let two : 3 * i + 2 ≡ 3 * i + 1 + 1 = omega arith in
    rw (
      take_more_set xs i (reach_at b i) h,
      reach-append (take i xs) (reach_at b i ∷ []),
      e,
      n,
      two,
      take_more b (3 * i + 1 + 1) 0 (omega arith),
      take_more b (3 * i + 1) 0 (omega arith),
      take_more b (3 * i) 0 (omega arith),
    ) (simp append_assoc)
