-- What a step of bytes says of the reply that it hears, in each form.
--     refused-case    beside a refusal, nothing
--     told-case       a case exactly if it delivers a reply of which that case holds
--     not_taken       a reply that is not taken is taken out, and its receiver stops waiting on its sender: nothing else changes
use mathlib.Core.Path.{◌≡◌, refl, ap, ◌∙◌}
use mathlib.Core.Logic.{◌≢◌, ◌↔◌}
use mathlib.Core.Bool.{true}
use mathlib.Core.List.{List}
use Prim.Native.Nat.{ℕ}
use borrow.Author.Tests.{ne_eqb}
use Rattle.bits.proofs.Cases.{by_bool}
use Rattle.protocol.specs.declared.Case.{Case}
use Rattle.protocol.specs.declared.Case.TheVariants.{Adopted}
use Rattle.protocol.specs.declared.Entry.{Entry}
use Rattle.protocol.specs.declared.Message.{Message}
use Rattle.protocol.specs.Net.{Net, reply, set_entry, take_at}
use Rattle.protocol.specs.Cases.{case_number, no_case, CaseHolds}
use Rattle.protocol.specs.Entries.{stops_waiting}
use Rattle.protocol.specs.Rules.{oldest}
use Rattle.protocol.specs.Steps.{outcome, case_heard}
use Rattle.protocol.specs.Runs.{delivers}
use Rattle.protocol.proofs.Steps.Hears as book
use Rattle.layout.specs.declared.form.Mark.{Mark}
use Rattle.shape.specs.Shape.{shaped_as}
use Rattle.net.specs.View.{view}
use Rattle.net.specs.Encode.{bytes_as}
use Rattle.net.proofs.Forms.{seen}
use Rattle.step.specs.Steps.{step_outcome_as, step_case_as, net_after_step_as}
use Rattle.step.proofs.After.{after-bytes}

module _ (m : Mark) (l : List ℕ) (k a b c : ℕ) where
  abbrev N : Net
  N = view l

  -- the oldest message, and what its group is to the receiver
  abbrev from : Message
  from = oldest N.channel a b

  abbrev to : Entry
  to = N.entry from.group b

  pub refused-case : step_outcome_as m l k a b c ≢ 0 → step_case_as m l k a b c ≡ no_case
  unfolding step_outcome_as step_case_as case_heard
  refused-case n = by_bool (shaped_as m l)
      (λ s. let r : outcome N k a b c ≢ 0 = λ z. n (rw s z) in rw (s, ne_eqb _ 0 r) refl)
      (λ f. rw f refl)

  pub told-case : shaped_as m l ≡ true → (x : Case) → (step_case_as m l k a b c ≡ case_number x) ↔ ((delivers reply N k a b c ≡ true) × CaseHolds x to a from)
  unfolding step_case_as
  told-case s x = rw s (book.case-told N (seen m l s) k a b c x)

  pub not_taken : step_case_as m l k a b c ≢ no_case → step_case_as m l k a b c ≢ case_number Adopted
      → net_after_step_as m l k a b c ≡ bytes_as m (set_entry (take_at N a b 0) from.group b (stops_waiting to a))
  unfolding step_case_as
  not_taken some other = by_bool (shaped_as m l)
      (λ s. let some' : case_heard N k a b c ≢ no_case = λ z. some (rw s z) in
      let other' : case_heard N k a b c ≢ case_number Adopted = λ z. other (rw s z) in
      after-bytes m l k a b c s ∙ ap (bytes_as m) (book.not_taken N k a b c some' other'))
      (λ f. absurd (some (rw f refl)))
