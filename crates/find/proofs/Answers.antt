-- Some answer tells the outcome and the group that were found.
use Rattle.std.proofs.Common.{◌≡◌, ⊎_elim, List, ℕ, zero, suc, Result, Ok, Err}
use Rattle.std.proofs.lemmas.Bool.{cases_Bool, cases_lt}
use Rattle.protocol.specs.declared.Refusal.{Refusal}
use Rattle.protocol.specs.Net.{Net}
use Rattle.protocol.specs.Names.{Found, find, first_from, same_name}
use Rattle.protocol.proofs.Finds.{find-hit, find-miss}
use Rattle.protocol.proofs.Refusals.{by_number}
use Rattle.shape.specs.Shape.{shaped}
use Rattle.net.specs.View.{view}
use Rattle.find.specs.Answers.{found_of, found_in}

-- the answer that tells an outcome and a group: 0 is never refused
abbrev pub answer_by : ℕ → ℕ → Result ℕ Refusal
answer_by zero g = Ok g
answer_by (suc k) g = Err (by_number (suc k))

unfoldable pub answer_of : Found → Result ℕ Refusal
answer_of f = answer_by f.outcome f.group

answer-find : (N : Net) (w : List ℕ) → found_of (answer_of (find N w)) ≡ find N w
unfolding answer_of
answer-find N w = ⊎_elim (λ h. rw (find-hit N w h)) (λ h. rw (find-miss N w h))
    (cases_lt (first_from (λ i. same_name (N.name i) w) 0 N.groups) N.groups)

-- what is told is what was found
pub answer-tells : (l w : List ℕ) → found_of (answer_of (found_in l w)) ≡ found_in l w
unfolding found_in answer_of
answer-tells l w = ⊎_elim (λ s. rw s (answer-find (view l) w)) (λ s. rw s) (cases_Bool (shaped l))
