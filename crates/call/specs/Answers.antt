-- A call in bytes: what is told, and the list that it leaves.
use Rattle.std.specs.Prelude.{◌≡◌, Bool, cond, List, ℕ, Result, Ok, Err, eqb}
use Rattle.protocol.specs.declared.Refusal.{Refusal}
use Rattle.protocol.specs.Refusals.{number}
use Rattle.protocol.specs.Calls as book
use Rattle.shape.specs.Shape.{shaped}
use Rattle.net.specs.View.{view}
use Rattle.visit.specs.Lists.{reach_bytes, list_fits}
use Rattle.call.specs.declared.Reached.{Reached}

-- the outcome's number, the number reached and the copies of each answer: "a refusal returns its number with zeros for every
-- other result"
abbrev pub called_of : Result Reached Refusal → book.Called
called_of (Ok a) = record { outcome = 0; reached = a.reached; copies = a.copies }
called_of (Err r) = record { outcome = number r; reached = 0; copies = 0 }

-- 1: "the net is not 15,728 bytes or not well shaped"; then 3, 10 unless the lent list is of the stated size, and 8
unfoldable pub called_in : List ℕ → ℕ → ℕ → Bool → book.Called
called_in l g c fits = cond (shaped l) (book.called (view l) g c fits) (record { outcome = 1; reached = 0; copies = 0 })

-- the reach list, and on a refusal the list as it was
unfoldable pub list_after_call : List ℕ → ℕ → ℕ → List ℕ → List ℕ
list_after_call l g c out = cond (eqb (called_in l g c (list_fits out)).outcome 0) (reach_bytes (book.reach_list (view l) g)) out

pub record CallEnd (l : List ℕ) (g c : ℕ) (out : List ℕ) (r : Result Reached Refusal) (out' : List ℕ) : Type 0 where
  pub answer : called_of r ≡ called_in l g c (list_fits out)
  pub list : out' ≡ list_after_call l g c out
