-- A plan that passed its test, of a plan or a net: what it shows is well shaped, and its bytes hold that.
use mathlib.Core.Path.{◌≡◌, sym, ap, ap₂, ◌∙◌}
use mathlib.Core.Logic.{◌≢◌}
use mathlib.Core.Bool.{true}
use mathlib.Core.List.{List, [], ◌∷◌, ◌++◌}
use Prim.Native.Nat.{ℕ, suc, ◌<◌}
use native.Mathlib.Nat.{add-zero}
use native.Mathlib.Omega.{arith}
use lib.ListN.{length, get_or}
use Rattle.bits.specs.Masks.{has}
use Rattle.bits.specs.Numbers.{Bytes, bytes}
use Rattle.bits.specs.Parts.{part}
use Rattle.bits.proofs.Cases.{by-lt, clash}
use Rattle.bits.proofs.Masks.{has-zero}
use Rattle.bits.proofs.Parts.{length_part, get_or-part, part-Bytes, bytes-number_at, part-add}
use Rattle.protocol.specs.Shaped.{ShapedPlan}
use Rattle.layout.specs.Layout.{byte, stations, groups, group_size, group_at, name_length, mask_at, neighbours}
use Rattle.layout.proofs.Bounded.{same_of}
use Rattle.plan.specs.Planned.{Header, plan_header, same_names, planned, plan_shaped}
use Rattle.plan.proofs.Plans.{counts, name-at, padding-at, root-at, new-at, neighbour-below, no_loop, answer_at, header_is, groups-rest, masks-rest, plan-small, plan-passes}
use Rattle.forms.specs.Plans.{name_of, plan_in, name_bytes, header_bytes}
use Rattle.forms.proofs.Cells.{is-cell, is_zero}
use Rattle.forms.proofs.Names.{past_end, name-zero, name-byte, name-form}
use Rattle.forms.proofs.Plan.Shown.{plan-name, plan-root, plan-mask, no-name, no-root, no-mask}
use Rattle.forms.proofs.Plan.Holds.{HoldsPlan, group-used, group-unused, mask-used, mask-unused}

module _ (l : List ℕ) (h : Header) (s : planned l h ≡ true) (small : Bytes l) where
  -- the seventeen bytes of a name
  name-field : (g : ℕ) → g < groups l → name_bytes (name_of (part 17 l (group_at g))) ≡ part 17 l (group_at g)
  name-field g b =
      let f = part 17 l (group_at g) in
      let c : get_or f 0 0 ≡ name_length l g = get_or-part 17 l (group_at g) 0 (omega arith) ∙ ap (byte l) (add-zero (group_at g)) in
      name-form f (length_part 17 l (group_at g)) (omega (arith, name-at l h s g b))
      (λ x j k. get_or-part 17 l (group_at g) x k ∙ padding-at l h s g b _ (omega arith) (omega arith))

  name-length : (g : ℕ) → g < groups l → length ((plan_in l).name g) ≡ name_length l g
  name-length g b =
      sym (name-zero ((plan_in l).name g)) ∙ ap (λ (n : List ℕ). get_or (name_bytes n) 0 0) (plan-name l g b) ∙ ap (λ (f : List ℕ). get_or f 0 0) (name-field g b)
      ∙ get_or-part 17 l (group_at g) 0 (omega arith) ∙ ap (byte l) (add-zero (group_at g))

  letter : (g i : ℕ) → get_or ((plan_in l).name g) i 0 < 256
  letter g i =
      by-lt g (groups l)
      (λ b. by-lt i 16
      (λ k. rw (plan-name l g b, ← name-byte (name_of (part 17 l (group_at g))) i k, name-field g b) (part-Bytes 17 l (group_at g) small (suc i)))
      (λ k. let z : get_or ((plan_in l).name g) i 0 ≡ 0 = past_end ((plan_in l).name g) i (omega (arith, name-length g b, name-at l h s g b)) in omega arith))
      (λ b. rw (no-name l g b) (omega arith))

  new-name : (g k : ℕ) → g < groups l → k < g → (plan_in l).name g ≢ (plan_in l).name k
  unfolding same_names
  new-name g k lg lk e =
      let p : part 17 l (group_at g) ≡ part 17 l (group_at k) =
      sym (name-field g lg) ∙ ap name_bytes (sym (plan-name l g lg) ∙ e ∙ plan-name l k (omega arith)) ∙ name-field k (omega arith) in
      clash (same_of l (group_at g) (group_at k) 17
      (λ i j. sym (get_or-part 17 l (group_at g) i j) ∙ ap (λ (f : List ℕ). get_or f i 0) p ∙ get_or-part 17 l (group_at k) i j))
      (new-at l h s g k lg lk)

  cable : (p q : ℕ) → has ((plan_in l).neighbours p) q ≡ true → (p < stations l) × (q < stations l) × (p ≢ q) × (has ((plan_in l).neighbours q) p ≡ true)
  cable p q t =
      by-lt p (stations l)
      (λ b.
      let u : has (neighbours l p) q ≡ true = ap (λ (m : ℕ). has m q) (sym (plan-mask l p b)) ∙ t in
      let k : q < stations l = neighbour-below l h s p q b u in
      (b, k, (λ e. clash u (ap (has (neighbours l p)) (sym e) ∙ no_loop l h s p b)), ap (λ (m : ℕ). has m p) (plan-mask l q k) ∙ answer_at l h s p q b k u))
      (λ b. clash t (ap (λ (m : ℕ). has m q) (no-mask l p b) ∙ has-zero q))

  pub seen-plan : ShapedPlan (plan_in l)
  unfolding plan_in
  seen-plan = let c = counts l h s in record {
    stations_least = c.0;
    stations_most = c.1;
    groups_least = c.2;
    groups_most = c.3;
    named = λ g b. rw (name-length g b) (name-at l h s g b);
    name_is_bytes = letter;
    distinct = new-name;
    roots = λ g b. rw (plan-root l g b) (root-at l h s g b);
    cables = cable;
    no_name = no-name l;
    no_root = no-root l;
  }

  head-form : part 8 l 0 ≡ header_bytes (plan_in l) h
  unfolding header_bytes plan_in part
  head-form =
      let w = header_is l h s in
      let e : part 4 l 0 ≡ bytes 4 h.size = sym (bytes-number_at 4 l 0 small) ∙ ap (bytes 4) w.0 in
      part-add 4 4 l 0 ∙ ap₂ ◌++◌ e (ap₂ (λ (a b : ℕ). a ∷ byte l 5 ∷ byte l 6 ∷ b ∷ []) w.1 w.2)

  group-form : (g : ℕ) → g < groups l → name_bytes ((plan_in l).name g) ++ ((plan_in l).root g ∷ []) ≡ part 18 l (group_at g)
  unfolding part
  group-form g b = rw (plan-name l g b, plan-root l g b, name-field g b) (sym (part-add 17 1 l (group_at g)))

  pub held-plan : HoldsPlan (plan_in l) h l
  held-plan = record {
    head = head-form;
    groups = λ g b. by-lt g (groups l)
        (λ k. is-cell group_size l (group_at g) _ (group-used (plan_in l) g (unfold plan_in in k) ∙ group-form g k))
        (λ k. is_zero group_size l (group_at g) _ (group-unused (plan_in l) g (unfold plan_in in k)) (λ x j. groups-rest l h s _ (omega arith) (omega arith)));
    masks = λ p b. by-lt p (stations l)
        (λ k. is-cell 2 l (mask_at p) _ (mask-used (plan_in l) p (unfold plan_in in k) ∙ ap (bytes 2) (plan-mask l p k) ∙ bytes-number_at 2 l (mask_at p) small))
        (λ k. is_zero 2 l (mask_at p) _ (mask-unused (plan_in l) p (unfold plan_in in k)) (λ x j. masks-rest l h s _ (omega arith) (omega arith)));
  }

-- ---- a plan by itself
module _ (l : List ℕ) (s : plan_shaped l ≡ true) where
  pub plan-seen : ShapedPlan (plan_in l)
  plan-seen = seen-plan l plan_header (plan-passes l s) (plan-small l s)

  pub plan-held : HoldsPlan (plan_in l) plan_header l
  plan-held = held-plan l plan_header (plan-passes l s) (plan-small l s)
