-- Some answer tells what the call came to.
use Rattle.std.proofs.Common.{◌≡◌, refl, Bool, ◌&&◌, List, ℕ, zero, suc, Result, Ok, Err}
use Rattle.bits.proofs.Cases.{by_bool}
use Rattle.tree.specs.Tree.{on_tree}
use Rattle.protocol.specs.declared.Refusal.{Refusal}
use Rattle.protocol.specs.Net.{Net, group?, station?}
use Rattle.protocol.specs.Calls.{Called, tree_of, call_outcome, called}
use Rattle.protocol.proofs.Refusals.{by_number}
use Rattle.shape.specs.Shape.{shaped}
use Rattle.net.specs.View.{view}
use Rattle.call.specs.declared.Reached.{Reached}
use Rattle.call.specs.Answers.{called_of, called_in}

-- the answer that tells an outcome: 0 is never refused
abbrev pub answer_by : ℕ → ℕ → ℕ → Result Reached Refusal
answer_by zero r k = Ok (record { reached = r; copies = k })
answer_by (suc n) r k = Err (by_number (suc n))

unfoldable pub answer_of : Called → Result Reached Refusal
answer_of c = answer_by c.outcome c.reached c.copies

answer-called : (N : Net) (g c : ℕ) (fits : Bool) → called_of (answer_of (called N g c fits)) ≡ called N g c fits
unfolding called call_outcome answer_of
answer-called N g c fits = by_bool (group? N g && station? N c)
    (λ o. by_bool fits
    (λ n. by_bool (on_tree (tree_of N g) c) (λ t. rw (o, n, t) refl) (λ t. rw (o, n, t) refl))
    (λ n. rw (o, n) refl))
    (λ o. rw o refl)

pub answer-tells : (l : List ℕ) (g c : ℕ) (fits : Bool) → called_of (answer_of (called_in l g c fits)) ≡ called_in l g c fits
unfolding called_in answer_of
answer-tells l g c fits = by_bool (shaped l) (λ s. rw s (answer-called (view l) g c fits)) (λ s. rw s)
