-- Between the call over bytes and the list of records: what is handed on, and how the list is filled from it.
use Rattle.std.specs.Prelude.{◌≡◌, List, ◌++◌, ℕ, ◌*◌, ◌≤◌, length, take, drop}
use Rattle.tree.specs.declared.Reach.{Reach}
use Rattle.visit.specs.Lists.{reach_bytes}
use Rattle.call.specs.Answers.{called_of}
use Rattle.lent.specs.declared.list.Filling.{Filling}
use Rattle.lent.specs.Lists.{called_on, records_after_call}

-- what the call over bytes hands on, for station c in group g with a list of n records: the list after the call has first the records with
-- these bytes, as many as are to be filled
pub record FillsList (l : List ℕ) (g c n : ℕ) (k : Filling) : Type 0 where
  pub called : called_of k.called ≡ called_on l g c n
  pub within : (k.fill ≤ n) × (k.fill ≤ 16)
  pub after : (xs ys : List Reach) → length xs ≡ n → reach_bytes ys ≡ take (3 * k.fill) k.bytes
      → ys ++ drop k.fill xs ≡ records_after_call l g c xs
