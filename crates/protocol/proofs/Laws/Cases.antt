-- The four cases of a reply: one always holds, no two do, and each has its own number.
use mathlib.Core.Path.{◌≡◌, refl, sym, ap, subst, ◌∙◌}
use mathlib.Core.Bool.{true, false, cond, ◌&&◌}
use lib.Dec.{eqb, ltb}
use Prim.Native.Nat.{ℕ}
use borrow.Author.Tests.{eqb-true, eq-eqb, ne_eqb, ltb-true, lt-ltb, le-ltb, not-false}
use Rattle.bits.proofs.Cases.{by_bool, by-lt, and_l, and_r, and_both, clash, ne_of}
use Rattle.protocol.specs.declared.Case.{Case}
use Rattle.protocol.specs.declared.Case.TheVariants.{Adopted, NotTentative, Unconnected, NotGreater}
use Rattle.protocol.specs.declared.Entry.{Entry}
use Rattle.protocol.specs.declared.Message.{Message}
use Rattle.protocol.specs.Cases.{case_number, case_says, case_of, adopts, CaseHolds}

-- the case of a number, and of any other number the last
numbered : ℕ → Case
numbered k = cond (eqb k 1) Adopted (cond (eqb k 2) NotTentative (cond (eqb k 3) Unconnected NotGreater))

number-back : (c : Case) → numbered (case_number c) ≡ c
unfolding case_number numbered
number-back Adopted = refl
number-back NotTentative = refl
number-back Unconnected = refl
number-back NotGreater = refl

pub own-number : (c d : Case) → case_number c ≡ case_number d → c ≡ d
own-number c d i = sym (number-back c) ∙ ap numbered i ∙ number-back d

module _ (e : Entry) (s : ℕ) (m : Message) where
  -- what a case says holds of it, if no case before it says what is so; the fourth is what is left
  says-adopted : case_says Adopted e s m ≡ true → CaseHolds Adopted e s m
  unfolding case_says CaseHolds
  says-adopted a =
      let from = eqb e.tentative s in
      let flag = eqb m.connected 1 in
      let both = and_l (from && flag) (ltb e.clock m.clock) a in
      (eqb-true _ _ (and_l from flag both), eqb-true _ _ (and_r from flag both), ltb-true _ _ (and_r (from && flag) (ltb e.clock m.clock) a))

  says-not-tentative : case_says NotTentative e s m ≡ true → CaseHolds NotTentative e s m
  unfolding case_says CaseHolds
  says-not-tentative b = ne_of _ _ b

  says-unconnected : case_says NotTentative e s m ≡ false → case_says Unconnected e s m ≡ true → CaseHolds Unconnected e s m
  unfolding case_says CaseHolds
  says-unconnected b c = (eqb-true _ _ (not-false _ b), ne_of _ _ c)

  left-not-greater : case_says Adopted e s m ≡ false → case_says NotTentative e s m ≡ false → case_says Unconnected e s m ≡ false → CaseHolds NotGreater e s m
  unfolding case_says CaseHolds
  left-not-greater a b c =
      let from : eqb e.tentative s ≡ true = not-false _ b in
      let flag : eqb m.connected 1 ≡ true = not-false _ c in
      (eqb-true _ _ from, eqb-true _ _ flag, by-lt e.clock m.clock (λ k. clash (and_both _ _ (and_both _ _ from flag) (lt-ltb _ _ k)) a) (λ k. k))

  says-not-greater : CaseHolds NotGreater e s m → case_says NotGreater e s m ≡ true
  unfolding case_says CaseHolds
  says-not-greater h = rw (le-ltb _ _ h.2) refl

  -- the test, case by case
  by-case : (P : Case → Type 0) → (case_says Adopted e s m ≡ true → P Adopted) → (case_says NotTentative e s m ≡ true → P NotTentative)
      → (case_says NotTentative e s m ≡ false → case_says Unconnected e s m ≡ true → P Unconnected) → (CaseHolds NotGreater e s m → P NotGreater)
      → P (case_of e s m)
  unfolding case_of
  by-case P one two three four = by_bool (case_says Adopted e s m)
      (λ a. rw a (one a))
      (λ a. by_bool (case_says NotTentative e s m)
      (λ b. rw (a, b) (two b))
      (λ b. by_bool (case_says Unconnected e s m)
      (λ c. rw (a, b, c) (three b c))
      (λ c. rw (a, b, c) (four (left-not-greater a b c)))))

  -- the case that is told says what is so, and holds, also without the order
  pub told-says : case_says (case_of e s m) e s m ≡ true
  told-says = by-case (λ x. case_says x e s m ≡ true) (λ a. a) (λ b. b) (λ b c. c) says-not-greater

  pub one_holds : CaseHolds (case_of e s m) e s m
  one_holds = by-case (λ x. CaseHolds x e s m) says-adopted says-not-tentative says-unconnected (λ h. h)

  -- a case that holds is the one that is told
  pub case-is : (c : Case) → CaseHolds c e s m → case_of e s m ≡ c
  unfolding case_of case_says CaseHolds
  case-is Adopted h = rw (eq-eqb _ _ h.0, eq-eqb _ _ h.1, lt-ltb _ _ h.2) refl
  case-is NotTentative n = rw (ne_eqb _ _ n) refl
  case-is Unconnected h = rw (eq-eqb _ _ h.0, ne_eqb _ _ h.1) refl
  case-is NotGreater h = rw (eq-eqb _ _ h.0, eq-eqb _ _ h.1, le-ltb _ _ h.2) refl

  -- so that no two hold
  pub one_only : (c d : Case) → CaseHolds c e s m → CaseHolds d e s m → c ≡ d
  one_only c d h k = sym (case-is c h) ∙ case-is d k

  -- a reply that is taken
  pub adopts-holds : adopts e s m ≡ true → CaseHolds Adopted e s m
  unfolding adopts
  adopts-holds t = subst (λ (c : Case). CaseHolds c e s m) (own-number _ _ (eqb-true _ _ t)) one_holds
