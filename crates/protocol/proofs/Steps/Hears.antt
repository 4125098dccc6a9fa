-- What a step says of the reply that it hears, and what becomes of a reply that is not taken.
use mathlib.Core.Path.{◌≡◌, refl, sym, ap, subst, ◌∙◌}
use mathlib.Core.Logic.{◌≢◌, ◌↔◌, ⊎_elim}
use mathlib.Core.Bool.{Bool, true, false, cond}
use Prim.Native.Nat.{ℕ, zero, suc, ◌+◌}
use native.Mathlib.Omega.{arith}
use lib.Dec.{eqb}
use lib.ListN.{length, get_or}
use borrow.Author.Tests.{eqb-true, eqb-false, eq-eqb, ne_eqb, ltb-true}
use Rattle.bits.specs.Sums.{bit}
use Rattle.bits.proofs.Cases.{by_bool, by-eq}
use Rattle.protocol.specs.declared.Case.{Case}
use Rattle.protocol.specs.declared.Case.TheVariants.{Adopted, NotTentative, Unconnected, NotGreater}
use Rattle.protocol.specs.declared.Entry.{Entry}
use Rattle.protocol.specs.declared.Message.{Message}
use Rattle.protocol.specs.Net.{Net, request, reply, set_entry, set_channel, take_at}
use Rattle.protocol.specs.Cases.{case_number, no_case, case_of, adopts, CaseHolds}
use Rattle.protocol.specs.Entries.{stops_waiting, hearing}
use Rattle.protocol.specs.Rules.{no_message, oldest, Traffic, Rule, tick, ask, refresh, heard, case_at, deliver, lose, give_up, drop_child, member, route, rules}
use Rattle.protocol.specs.Steps.{no_rule, rule, action?, outcome, step, case_heard}
use Rattle.protocol.specs.Runs.{delivers}
use Rattle.protocol.specs.Shaped.{Shaped}
use Rattle.protocol.proofs.Laws.Maps.{All-at}
use Rattle.protocol.proofs.Laws.Cases.{own-number, one_holds, case-is}
use Rattle.protocol.proofs.Steps.Steps.{or_else-pass, accepted}
use Rattle.protocol.proofs.Steps.Aparts.{less}

-- no case has the number 0
pub some-case : (x : Case) → case_number x ≢ no_case
unfolding case_number
some-case Adopted i = omega arith
some-case NotTentative i = omega arith
some-case Unconnected i = omega arith
some-case NotGreater i = omega arith

-- an action other than 4 delivers nothing
pub record Quiet (t : Traffic) : Type 0 where
  pub delivered : t.delivered ≡ 0
  pub case : t.case ≡ no_case

module _ (N : Net) where
  quiet_at : (a b c k : ℕ) → suc k ≢ 4 → Quiet (get_or (rules N a b c) k (no_rule N)).traffic
  unfolding rules tick ask refresh lose give_up drop_child member route
  quiet_at a b c zero n = record { delivered = refl; case = refl }
  quiet_at a b c (suc zero) n = record { delivered = refl; case = refl }
  quiet_at a b c (suc (suc zero)) n = record { delivered = refl; case = refl }
  quiet_at a b c (suc (suc (suc zero))) n = absurd (n refl)
  quiet_at a b c (suc (suc (suc (suc zero)))) n = record { delivered = refl; case = refl }
  quiet_at a b c (suc (suc (suc (suc (suc zero))))) n = record { delivered = refl; case = refl }
  quiet_at a b c (suc (suc (suc (suc (suc (suc zero)))))) n = record { delivered = refl; case = refl }
  quiet_at a b c (suc (suc (suc (suc (suc (suc (suc zero))))))) n = record { delivered = refl; case = refl }
  quiet_at a b c (suc (suc (suc (suc (suc (suc (suc (suc zero)))))))) n = record { delivered = refl; case = refl }
  quiet_at a b c (suc (suc (suc (suc (suc (suc (suc (suc (suc k))))))))) n = record { delivered = refl; case = refl }

  pub quiet : (k a b c : ℕ) → k ≢ 4 → outcome N k a b c ≡ 0 → Quiet (rule N k a b c).traffic
  unfolding rule outcome
  quiet zero a b c n o = absurd (omega (arith, o))
  quiet (suc k) a b c n o = subst (λ (i : ℕ). Quiet (get_or (rules N a b c) i (no_rule N)).traffic) (less k) (quiet_at a b c k n)

  rule-4 : (k a b c : ℕ) → k ≡ 4 → rule N k a b c ≡ deliver N a b c
  unfolding rule rules
  rule-4 k a b c i = rw i refl

  -- the oldest message, and what its group is to the receiver
  module _ (a b : ℕ) where
    abbrev m : Message
    m = oldest N.channel a b

    abbrev e : Entry
    e = N.entry m.group b

    abbrev asked : Bool
    asked = eqb m.kind request

module _ (N : Net) (H : Shaped N) (k a b c : ℕ) where
  none-but-4 : (kind : ℕ) → k ≢ 4 → delivers kind N k a b c ≡ false
  unfolding delivers
  none-but-4 kind n = rw (ne_eqb k 4 n)

  not-reply : asked N a b ≡ true → eqb (m N a b).kind reply ≡ false
  not-reply t = ne_eqb (m N a b).kind reply (λ j. omega (arith, eqb-true (m N a b).kind request t, j))

  -- what action 4 delivers and is no request is a reply
  module _ (four : k ≡ 4) (o : outcome N k a b c ≡ 0) where
    is-reply : asked N a b ≡ false → eqb (m N a b).kind reply ≡ true
    unfolding outcome deliver
    is-reply f =
        let P = accepted (rule N k a b c) (or_else-pass (action? k) 2 _ 0 (λ i. omega arith) o).1 in
        let some = subst (λ (R : Rule Net). R.enabled ≡ true) (rule-4 N k a b c four) P.enabled in
        eq-eqb _ _ (⊎_elim (λ j. absurd (eqb-false _ _ f j)) (λ j. j) (All-at 0 no_message (ltb-true 0 (length (N.channel a b)) some) (H.channels a b).each).kinds)

  -- the case that a step says: that of the reply which it delivers, and none where it delivers no reply
  pub heard-is : case_heard N k a b c ≡ cond (delivers reply N k a b c) (case_number (case_of (e N a b) a (m N a b))) no_case
  unfolding case_heard case_at delivers deliver
  heard-is = by_bool (eqb (outcome N k a b c) 0)
      (λ t. let o : outcome N k a b c ≡ 0 = eqb-true _ 0 t in
      by-eq k 4
      (λ i. by_bool (asked N a b)
      (λ j. rw (t, rule-4 N k a b c i, eq-eqb k 4 i, j, not-reply j) refl)
      (λ j. rw (t, rule-4 N k a b c i, eq-eqb k 4 i, j, is-reply i o j) refl))
      (λ n. rw (t, ne_eqb k 4 n) (quiet N k a b c n o).case))
      (λ f. rw f (by_bool (eqb k 4) (λ i. rw i refl) (λ i. rw i refl)))

  pub delivered-is : outcome N k a b c ≡ 0 → (rule N k a b c).traffic.delivered ≡ bit (delivers request N k a b c) + bit (delivers reply N k a b c)
  unfolding delivers deliver
  delivered-is o = by-eq k 4
      (λ i. by_bool (asked N a b)
      (λ j. rw (eq-eqb _ 0 o, rule-4 N k a b c i, eq-eqb k 4 i, j, not-reply j) refl)
      (λ j. rw (eq-eqb _ 0 o, rule-4 N k a b c i, eq-eqb k 4 i, j, is-reply i o j) refl))
      (λ n. rw (ne_eqb k 4 n) (quiet N k a b c n o).delivered)

  -- a step says a case exactly if it delivers a reply of which that case holds
  pub case-told : (x : Case) → (case_heard N k a b c ≡ case_number x) ↔ ((delivers reply N k a b c ≡ true) × CaseHolds x (e N a b) a (m N a b))
  case-told x = (there, back)
    where
      there : case_heard N k a b c ≡ case_number x → (delivers reply N k a b c ≡ true) × CaseHolds x (e N a b) a (m N a b)
      there i = by_bool (delivers reply N k a b c)
          (λ t. (t, subst (λ (y : Case). CaseHolds y (e N a b) a (m N a b)) (own-number _ _ (sym (heard-is ∙ rw t refl) ∙ i)) (one_holds (e N a b) a (m N a b))))
          (λ f. absurd (some-case x (sym i ∙ heard-is ∙ rw f refl)))

      back : (delivers reply N k a b c ≡ true) × CaseHolds x (e N a b) a (m N a b) → case_heard N k a b c ≡ case_number x
      back h = heard-is ∙ rw h.0 (ap case_number (case-is (e N a b) a (m N a b) x h.1))

-- a reply that is not taken is taken out, and its receiver stops waiting on its sender: nothing else changes
pub not_taken : (N : Net) (k a b c : ℕ) → case_heard N k a b c ≢ no_case → case_heard N k a b c ≢ case_number Adopted
    → let g = (oldest N.channel a b).group in step N k a b c ≡ set_entry (take_at N a b 0) g b (stops_waiting (N.entry g b) a)
unfolding step case_heard delivers deliver heard hearing adopts case_at take_at set_channel
not_taken N k a b c some other = by_bool (eqb (outcome N k a b c) 0)
    (λ t. let o : outcome N k a b c ≡ 0 = eqb-true _ 0 t in
    by-eq k 4
    (λ i. by_bool (asked N a b)
    (λ j. absurd (some (rw (t, rule-4 N k a b c i, j) refl)))
    (λ j. let is : case_heard N k a b c ≡ case_number (case_of (e N a b) a (m N a b)) = rw (t, rule-4 N k a b c i, j) refl in
    rw (t, rule-4 N k a b c i, j, ne_eqb _ _ (λ z. other (is ∙ z))) refl))
    (λ n. absurd (some (rw t (quiet N k a b c n o).case))))
    (λ f. absurd (some (rw f refl)))
