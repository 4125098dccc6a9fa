-- Each public contract determines its result and everything lent, on all inputs. Above a theorem stands its function. The theorem's
-- variables are the function's parameters, and what it speaks of is the function's `ensures`, word for word: r is `result`, p is `p.now`
-- or `p.old`, and p' is `p.new`. tests/contracts compares the texts, and the modules of the words.
use Rattle.std.specs.Prelude.{◌≡◌, true, List, ℕ, ◌≤◌, length}
use mathlib.Core.Path.{sym, ◌∙◌}
use Rattle.bits.specs.Parts.{Wrote}
use Rattle.tree.specs.declared.Reach.{Reach}
use Rattle.protocol.specs.declared.Tally.{Tally}
use Rattle.protocol.specs.Refusals.{outcome_of}
use Rattle.protocol.specs.Runs.{length_outcome}
use Rattle.layout.specs.declared.front.Front.{Front}
use Rattle.plan.specs.Planned.{of_version1, planned, plan_shaped}
use Rattle.layout.specs.declared.form.Mark.{Mark}
use Rattle.layout.specs.declared.form.Mark.TheVariants.{Saved, Working}
use Rattle.shape.specs.Shape.{shaped_as, shaped}
use Rattle.fresh.specs.Fresh.{fresh_outcome, net_after_fresh}
use Rattle.step.specs.Steps.{told as told_step, step_answer_as, net_after_step_as, step_answer, net_after_step}
use Rattle.run.specs.Tallies.{tally_fits}
use Rattle.run.specs.Runs.{told as told_run, run_outcome_as, net_after_run_as, tally_after_run_as, run_outcome, net_after_run, run_tally, run_answer, tally_after_run}
use Rattle.convert.specs.Converts.{convert_outcome, after_convert}
use Rattle.find.specs.Answers.{found_of, found_in}
use Rattle.visit.specs.Lists.{list_fits}
use Rattle.call.specs.Answers.{CallEnd, called_of, called_in, list_after_call}
use Rattle.lent.specs.Lists.{called_on, records_after_call}
use Rattle.rig.specs.Face.{step_word, found_word, called_word}
use Rattle.listing.specs.Bench.{text_room, stored_text}
use Rattle.contracts.proofs.Told.{outcome_of-same, told_step-same, told_run-same, found_of-same, called_of-same}
use Rattle.contracts.specs.Ways.{Refusable, Determines, Determines2, Determines3}

-- two that equal a third
same : {A : Type 0} {x y d : A} → x ≡ d → y ≡ d → x ≡ y
same e f = e ∙ sym f

-- so a result that is said to equal something, alone, with one lent thing, and with two
one : {R : Type 0} {d : R} → Determines (λ r. r ≡ d)
one x y = same

two : {R A : Type 0} {d : R} {a : A} → Determines2 (λ r p. (r ≡ d) × (p ≡ a))
two x y e f = λ i. (same e.0 f.0 i, same e.1 f.1 i)

three : {R A B : Type 0} {d : R} {a : A} {b : B} → Determines3 (λ r p q. (r ≡ d) × (p ≡ a) × (q ≡ b))
three x y e f = λ i. (same e.0 f.0 i, same e.1 f.1 i, same e.2 f.2 i)

-- and so is a result that is known by what is said to be told of it
module _ {R T : Type 0} {tells : R → T} (known : (x y : R) → tells x ≡ tells y → x ≡ y) where
  told-one : {d : T} → Determines (λ r. tells r ≡ d)
  told-one x y e f = known x y (same e f)

  told-two : {A : Type 0} {d : T} {a : A} → Determines2 (λ r p. (tells r ≡ d) × (p ≡ a))
  told-two x y e f = λ i. (known x.0 y.0 (same e.0 f.0) i, same e.1 f.1 i)

  told-three : {A B : Type 0} {d : T} {a : A} {b : B} → Determines3 (λ r p q. (tells r ≡ d) × (p ≡ a) × (q ≡ b))
  told-three x y e f = λ i. (known x.0 y.0 (same e.0 f.0) i, same e.1 f.1 i, same e.2 f.2 i)

-- shape::whole::shaped_as
pub shaped-as-determined : (s : List ℕ) (m : Mark) → Determines (λ r. r ≡ shaped_as m s)
shaped-as-determined s m = one

-- shape::whole::shaped
pub shaped-determined : (s : List ℕ) → Determines (λ r. r ≡ shaped s)
shaped-determined s = one

-- plan::whole::planned
pub planned-determined : (front : Front) (size : ℕ) (byte7 : ℕ) → Determines (λ r. r ≡ planned front.bytes.now (of_version1 size byte7))
planned-determined front size byte7 = one

-- plan::whole::plan_shaped
pub plan-shaped-determined : (s : List ℕ) → Determines (λ r. r ≡ plan_shaped s)
plan-shaped-determined s = one

-- fresh::fresh
pub fresh-determined : (plan net : List ℕ) → Determines2 {R = Refusable} (λ r net'. (outcome_of r ≡ fresh_outcome plan net) × (net' ≡ net_after_fresh plan net))
fresh-determined plan net = told-two outcome_of-same

-- step::step_as
pub step-as-determined : (net : List ℕ) (m : Mark) (action a b c : ℕ)
    → Determines2 (λ r net'. (told_step r ≡ step_answer_as m net action a b c) × (net' ≡ net_after_step_as m net action a b c))
step-as-determined net m action a b c = told-two told_step-same

-- step::step
pub step-determined : (net : List ℕ) (action a b c : ℕ)
    → Determines2 (λ r net'. (told_step r ≡ step_answer net action a b c) × (net' ≡ net_after_step net action a b c))
step-determined net action a b c = told-two told_step-same

-- run::check_length
pub check-length-determined : (n : ℕ) → Determines {R = Refusable} (λ r. outcome_of r ≡ length_outcome n)
check-length-determined n = told-one outcome_of-same

-- run::run
pub run-determined : (net script : List ℕ) → Determines2 (λ r net'. (told_run r ≡ run_answer net script true) × (net' ≡ net_after_run net script true))
run-determined net script = told-two told_run-same

-- run::run_into_as
pub run-into-as-determined : (net : List ℕ) (m : Mark) (script tally : List ℕ)
    → Determines3 {R = Refusable} (λ r net' tally'. (outcome_of r ≡ run_outcome_as m net script (tally_fits tally))
    × (net' ≡ net_after_run_as m net script (tally_fits tally)) × (tally' ≡ tally_after_run_as m net script tally))
run-into-as-determined net m script tally = told-three outcome_of-same

-- run::run_into
pub run-into-determined : (net script tally : List ℕ)
    → Determines3 {R = Refusable} (λ r net' tally'. (outcome_of r ≡ run_outcome net script (tally_fits tally))
    × (net' ≡ net_after_run net script (tally_fits tally)) × (tally' ≡ tally_after_run net script tally))
run-into-determined net script tally = told-three outcome_of-same

-- convert::convert
pub convert-determined : (net : List ℕ) (m : Mark) (out : List ℕ) (n : Mark)
    → Determines2 {R = Refusable} (λ r out'. (outcome_of r ≡ convert_outcome m net out) × (out' ≡ after_convert m n net out))
convert-determined net m out n = told-two outcome_of-same

-- convert::to_working
pub to-working-determined : (net work : List ℕ)
    → Determines2 {R = Refusable} (λ r work'. (outcome_of r ≡ convert_outcome Saved net work) × (work' ≡ after_convert Saved Working net work))
to-working-determined net work = told-two outcome_of-same

-- convert::to_saved
pub to-saved-determined : (work net : List ℕ)
    → Determines2 {R = Refusable} (λ r net'. (outcome_of r ≡ convert_outcome Working work net) × (net' ≡ after_convert Working Saved work net))
to-saved-determined work net = told-two outcome_of-same

-- find::find
pub find-determined : (net name : List ℕ) → Determines (λ r. found_of r ≡ found_in net name)
find-determined net name = told-one found_of-same

-- call::call
pub call-determined : (net : List ℕ) (g c : ℕ) (out : List ℕ) → Determines2 (λ r out'. CallEnd net g c out r out')
call-determined net g c out x y e f = λ i. (called_of-same x.0 y.0 (same e.answer f.answer) i, same e.list f.list i)

-- lent::tally::run
pub lent-run-determined : (net script : List ℕ) (tally : Tally)
    → Determines3 {R = Refusable} (λ r net' tally'. (outcome_of r ≡ run_outcome net script true)
    × (net' ≡ net_after_run net script true) × (tally' ≡ run_tally net script true tally))
lent-run-determined net script tally = told-three outcome_of-same

-- lent::list::call
pub lent-call-determined : (net : List ℕ) (g c : ℕ) (list : List Reach)
    → Determines2 (λ r list'. (called_of r ≡ called_on net g c (length list)) × (list' ≡ records_after_call net g c list))
lent-call-determined net g c list = told-two called_of-same

-- rig::kep_fresh
pub kep-fresh-determined : (plan net : List ℕ) → Determines2 (λ r net'. (r ≡ fresh_outcome plan net) × (net' ≡ net_after_fresh plan net))
kep-fresh-determined plan net = two

-- rig::kep_step
pub kep-step-determined : (net : List ℕ) (action a b c : ℕ)
    → Determines2 (λ r net'. (r ≡ step_word (step_answer net action a b c)) × (net' ≡ net_after_step net action a b c))
kep-step-determined net action a b c = two

-- rig::kep_run
pub kep-run-determined : (net script tally : List ℕ)
    → Determines3 (λ r net' tally'. (r ≡ run_outcome net script (tally_fits tally))
    × (net' ≡ net_after_run net script (tally_fits tally)) × (tally' ≡ tally_after_run net script tally))
kep-run-determined net script tally = three

-- rig::kep_find
pub kep-find-determined : (net name : List ℕ) → Determines (λ r. r ≡ found_word (found_in net name))
kep-find-determined net name = one

-- rig::kep_call
pub kep-call-determined : (net : List ℕ) (group station : ℕ) (list : List ℕ)
    → Determines2 (λ r list'. (r ≡ called_word (called_in net group station (list_fits list)))
    × (list' ≡ list_after_call net group station list))
kep-call-determined net group station list = two

-- rig::kep_to_working
pub kep-to-working-determined : (net work : List ℕ)
    → Determines2 (λ r work'. (r ≡ convert_outcome Saved net work) × (work' ≡ after_convert Saved Working net work))
kep-to-working-determined net work = two

-- rig::kep_to_saved
pub kep-to-saved-determined : (work net : List ℕ)
    → Determines2 (λ r net'. (r ≡ convert_outcome Working work net) × (net' ≡ after_convert Working Saved work net))
kep-to-saved-determined work net = two

-- rig::kep_working_step
pub kep-working-step-determined : (work : List ℕ) (action a b c : ℕ)
    → Determines2 (λ r work'. (r ≡ step_word (step_answer_as Working work action a b c)) × (work' ≡ net_after_step_as Working work action a b c))
kep-working-step-determined work action a b c = two

-- rig::kep_working_run
pub kep-working-run-determined : (work script tally : List ℕ)
    → Determines3 (λ r work' tally'. (r ≡ run_outcome_as Working work script (tally_fits tally))
    × (work' ≡ net_after_run_as Working work script (tally_fits tally)) × (tally' ≡ tally_after_run_as Working work script tally))
kep-working-run-determined work script tally = three

-- listing::report::report
pub report-determined : (stored : List ℕ) (beyond : ℕ) (out : List ℕ)
    → Determines2 (λ r out'. Wrote out out' 0 r (stored_text stored beyond) × (r ≤ text_room))
report-determined stored beyond out x y e f = λ i. (same e.0.next f.0.next i, same e.0.bytes f.0.bytes i)
