-- The flood from any station on the tree reaches the stations of the reach list, each once, and its passings-on are one fewer.
--     flood-reaches     a station on the tree has the call once, the caller's own included, and no other has it
--     flood-copies      one more than the passings-on is the number of lines of the reach list
-- Both hold for every allowance of at least 2 n hops.
use mathlib.Core.Path.{◌≡◌, refl, sym, ap, ◌∙◌, subst}
use mathlib.Core.List.{List, [], ◌∷◌, ◌++◌}
use mathlib.Core.Bool.{Bool, true, false, not, ◌&&◌, true≢false}
use Prim.Native.Nat.{ℕ, zero, suc, ◌+◌, ◌-◌, ◌≤◌, ◌<◌}
use native.Mathlib.Nat.{zero-add, suc-add, lt_of_not-le}
use native.Mathlib.Omega.{arith}
use lib.ListN.{length}
use lib.Dec.{eqb}
use borrow.Author.Tests.{eqb-true, eq-eqb, ne_eqb}
use Rattle.bits.specs.Sums.{bit, over}
use Rattle.bits.proofs.Sums.{over-ext, over_add, over_zero}
use Rattle.bits.proofs.Cases.{by_bool, by-eq, is_false}
use Rattle.tree.specs.Tree.{Tree, nil, agreed, Chain, OnTree, climbs, on_tree, Rooted}
use Rattle.tree.specs.Tree.Chain.{here, hop}
use Rattle.tree.specs.Reach.{picked, visits, reach, count}
use Rattle.tree.specs.Flood.{passes_to, Pass, flood, receivers}
use Rattle.tree.proofs.Sums.{gate, total, gate-zero, gate-add, gate-if, gate-not, over-one, total-picked, count-append, length-count}
use Rattle.tree.proofs.Counts.{hits, agreed-parent, kids, root-hits}
use Rattle.tree.proofs.Chains.{chain-low, chain-climbs, not-sooner, grows-by, chain-short, off-tree, visit-length}

-- how often x has the call: by itself at p, who has it from f, and from what follows
unfoldable calls : Tree → ℕ → ℕ → ℕ → ℕ → ℕ
calls t d f p x = bit (eqb p x) + count x (receivers (flood t d f p))

-- ---- one hop of the flood
receivers-append : (a b : List Pass) → receivers (a ++ b) ≡ receivers a ++ receivers b
unfolding receivers
receivers-append [] b = refl
receivers-append (m ∷ a) b = ap (m.receiver ∷◌) (receivers-append a b)

length-receivers : (l : List Pass) → length (receivers l) ≡ length l
unfolding receivers
length-receivers [] = refl
length-receivers (m ∷ l) = ap suc (length-receivers l)

-- p passes the call to j, and what follows there
abbrev passing : Tree → ℕ → ℕ → ℕ → List Pass
passing t d p j = record { sender = p; receiver = j } ∷ flood t d p j

floods : (t : Tree) (d p x : ℕ) (cs : List ℕ) → count x (receivers (visits (passing t d p) cs)) ≡ total (λ j. calls t d p j x) cs
unfolding visits total receivers count calls
floods t d p x [] = refl
floods t d p x (c ∷ cs) =
    let rest = visits (passing t d p) cs in
    let h = floods t d p x cs in
    let a = ap (count x) (receivers-append (flood t d p c) rest) in
    let b = count-append x (receivers (flood t d p c)) (receivers rest) in
    omega arith

step : (t : Tree) (d f p x : ℕ) → calls t (suc d) f p x ≡ bit (eqb p x) + over (λ j. gate (passes_to t f p j) (calls t d p j x)) 0 t.stations
step t d f p x = opened ∙ ap (bit (eqb p x) +◌)
    (floods t d p x (picked (passes_to t f p) 0 t.stations) ∙ total-picked (λ j. calls t d p j x) (passes_to t f p) 0 t.stations)
  where
    opened : calls t (suc d) f p x ≡ bit (eqb p x) + count x (receivers (visits (passing t d p) (picked (passes_to t f p) 0 t.stations)))
    opened = unfold calls flood in refl

-- ---- small facts
zero-if : (m : ℕ) → ((m ≡ 0 → ⊥) → ⊥) → m ≡ 0
zero-if zero h = refl
zero-if (suc m) h = absurd (h (λ e. omega arith))

one-not : (b : Bool) → (bit b ≡ 0 → ⊥) → b ≡ true
one-not true h = refl
one-not false h = absurd (h refl)

and-true : (b : Bool) (m : ℕ) → gate (b && true) m + 0 ≡ gate b m
and-true true m = omega arith
and-true false m = refl

plus-zero : (m n : ℕ) → n ≡ 0 → m ≡ m + n
plus-zero m n e = omega arith

-- the way up from x meets p after d hops
last : Tree → ℕ → ℕ → ℕ → ℕ
last t zero p x = bit (eqb p x)
last t (suc d) p x = gate (agreed t (t.parent x) x) (last t d p (t.parent x))

module _ (t : Tree) (w : Rooted t) where
  -- ---- levels
  kid-chain : {k : ℕ} (p j : ℕ) → agreed t p j ≡ true → Chain t p k → Chain t j (suc k)
  kid-chain {k} p j a c = let e = agreed-parent t p j a in hop {x = j} {k = k} (rw e a) (rw e c)

  sooner : {x k m : ℕ} → Chain t x k → Chain t x m → k ≤ m
  sooner {x} {k} {m} c d =
      let h : k < suc m = lt_of_not-le {n = suc m} {m = k} (λ le. let e : k - suc m + suc m ≡ k = omega arith in
      true≢false (sym (subst (λ (i : ℕ). climbs t i x ≡ true) e (grows-by t w (suc m) (k - suc m) x (chain-climbs t w d))) ∙ not-sooner t w c)) in
      omega arith

  up-chain : {p k : ℕ} → Chain t p k → agreed t (t.parent p) p ≡ true → (m : ℕ) × (k ≡ suc m) × Chain t (t.parent p) m
  up-chain here a = absurd (true≢false (sym a ∙ w.top))
  up-chain (hop {k = m} b c) a = (m, refl, c)

  -- a child of p is not its parent
  apart : {k : ℕ} (p j : ℕ) → Chain t p k → agreed t (t.parent p) p ≡ true → agreed t p j ≡ true → j ≡ t.parent p → ⊥
  apart {k} p j c a b e =
      let u = up-chain c a in
      let x = u.1 in
      let l = sooner (kid-chain p j b c) (subst (λ (y : ℕ). Chain t y u.0) (sym e) u.2) in
      omega arith

  -- ---- down: a station that has the call from its parent passes it to its children
  down-test : {k : ℕ} (p j : ℕ) → Chain t p k → agreed t (t.parent p) p ≡ true → passes_to t (t.parent p) p j ≡ agreed t p j
  unfolding passes_to
  down-test p j c a = by_bool (agreed t p j)
      (λ e. rw (e, ne_eqb j (t.parent p) (apart p j c a e)))
      (λ e. by_bool (agreed t j p)
      (λ f. rw (e, f, eq-eqb j (t.parent p) (sym (agreed-parent t j p f))))
      (λ f. rw (e, f)))

  down : {k : ℕ} (d p x : ℕ) → Chain t p k → agreed t (t.parent p) p ≡ true → calls t d (t.parent p) p x ≡ hits t (suc d) p x
  unfolding hits
  down zero p x c a = none ∙ plus-zero _ _ (gate-zero (agreed t (t.parent x) x))
    where
      none : calls t 0 (t.parent p) p x ≡ bit (eqb p x)
      none = unfold calls flood receivers count in omega arith
  down (suc d) p x c a =
      let below : (j : ℕ) → agreed t p j ≡ true → calls t d p j x ≡ hits t (suc d) j x = λ j e.
      let q = agreed-parent t p j e in subst (λ (y : ℕ). calls t d y j x ≡ hits t (suc d) j x) q (down d j x (kid-chain p j e c) (rw q e)) in
      step t d (t.parent p) p x
      ∙ ap (bit (eqb p x) +◌) (over-ext _ _ (λ j. ap (λ (b : Bool). gate b (calls t d p j x)) (down-test p j c a) ∙ gate-if (agreed t p j) _ _ (below j)) 0 t.stations
      ∙ kids t w.low (suc d) p x)

  -- the call of a child of p, from p
  to-kid : {k : ℕ} (d p j x : ℕ) → Chain t p k → agreed t p j ≡ true → calls t d p j x ≡ hits t (suc d) j x
  to-kid d p j x c e = let q = agreed-parent t p j e in subst (λ (y : ℕ). calls t d y j x ≡ hits t (suc d) j x) q (down d j x (kid-chain p j e c) (rw q e))

  -- ---- p has the call from f: what goes to the children but f, and what goes up
  upwards : ℕ → ℕ → ℕ → ℕ → ℕ
  upwards d f p x = gate (agreed t (t.parent p) p && not (eqb (t.parent p) f)) (calls t d p (t.parent p) x)

  parted : {k : ℕ} (d f p x : ℕ) → Chain t p k → (j : ℕ)
      → gate (passes_to t f p j) (calls t d p j x)
      ≡ gate (agreed t p j && not (eqb j f)) (hits t (suc d) j x) + gate (eqb j (t.parent p)) (upwards d f p x)
  unfolding passes_to upwards
  parted d f p x c j = by_bool (agreed t p j)
      (λ e. rw (no-up e) (rw (e, to-kid d p j x c e) (plus-zero _ 0 refl)))
      (λ e. by-eq j (t.parent p)
      (λ i. rw e (rw (eq-eqb j (t.parent p) i) (rw i (sym (zero-add _)))))
      (λ n. rw (e, ne_eqb j (t.parent p) n) (rw (is_false (agreed t j p) (λ a. n (sym (agreed-parent t j p a)))) refl)))
    where
      -- nothing goes up to a child
      no-up : agreed t p j ≡ true → gate (eqb j (t.parent p)) (upwards d f p x) ≡ 0
      no-up e = by_bool (agreed t (t.parent p) p)
          (λ a. rw (ne_eqb j (t.parent p) (apart p j c a e)))
          (λ a. rw a (gate-zero (eqb j (t.parent p))))

  -- the two parts summed. Up goes one call at most
  once-up : {k : ℕ} (d f p x : ℕ) → Chain t p k → over (λ j. gate (eqb j (t.parent p)) (upwards d f p x)) 0 t.stations ≡ upwards d f p x
  unfolding upwards
  once-up d f p x c = by_bool (agreed t (t.parent p) p)
      (λ e. let lt = chain-low t w (up-chain c e).2 in over-one (λ j. upwards d f p x) (t.parent p) 0 t.stations (omega arith) (omega arith))
      (λ e. rw e (over_zero _ (λ j. gate-zero (eqb j (t.parent p))) 0 t.stations))

  both : {k : ℕ} (d f p x : ℕ) → Chain t p k
      → calls t (suc d) f p x ≡ bit (eqb p x) + (over (λ j. gate (agreed t p j && not (eqb j f)) (hits t (suc d) j x)) 0 t.stations + upwards d f p x)
  both d f p x c =
      step t d f p x ∙ ap (bit (eqb p x) +◌) (over-ext _ _ (parted d f p x c) 0 t.stations ∙ over_add _ _ 0 t.stations
      ∙ ap (over (λ j. gate (agreed t p j && not (eqb j f)) (hits t (suc d) j x)) 0 t.stations +◌) (once-up d f p x c))

  -- the children but c, and c, are the children
  but-one : (p c : ℕ) (g : ℕ → ℕ) → agreed t p c ≡ true
      → over (λ j. gate (agreed t p j && not (eqb j c)) (g j)) 0 t.stations + g c ≡ over (λ j. gate (agreed t p j) (g j)) 0 t.stations
  but-one p c g a =
      let lt = w.low p c a in
      let e = over-one g c 0 t.stations (omega arith) (omega arith) in
      let s = over_add (λ j. gate (agreed t p j && not (eqb j c)) (g j)) (λ j. gate (eqb j c) (g j)) 0 t.stations in
      let m = over-ext (λ j. gate (agreed t p j && not (eqb j c)) (g j) + gate (eqb j c) (g j)) (λ j. gate (agreed t p j) (g j)) at 0 t.stations in
      omega arith
    where
      at : (j : ℕ) → gate (agreed t p j && not (eqb j c)) (g j) + gate (eqb j c) (g j) ≡ gate (agreed t p j) (g j)
      at j = by-eq j c
          (λ e. rw (eq-eqb j c e) (rw (subst (λ (y : ℕ). agreed t p y ≡ true) (sym e) a) (zero-add (g j))))
          (λ n. rw (ne_eqb j c n) (and-true (agreed t p j) (g j)))

  -- ---- the hits of a station on the tree are complete at n
  hits-last : (d p x : ℕ) → hits t (suc d) p x ≡ hits t d p x + last t d p x
  unfolding hits last
  hits-last zero p x = let z = gate-zero (agreed t (t.parent x) x) in omega arith
  hits-last (suc d) p x =
      let up = agreed t (t.parent x) x in
      let h = ap (gate up) (hits-last d p (t.parent x)) ∙ gate-add up (hits t d p (t.parent x)) (last t d p (t.parent x)) in
      omega arith

  last-chain : {k : ℕ} (d p x : ℕ) → Chain t p k → (last t d p x ≡ 0 → ⊥) → Chain t x (d + k)
  unfolding last
  last-chain {k} zero p x c h = rw zero-add (subst (λ (y : ℕ). Chain t y k) (eqb-true p x (one-not (eqb p x) h)) c)
  last-chain {k} (suc d) p x c h =
      let g = gate-not (agreed t (t.parent x) x) (last t d p (t.parent x)) h in
      rw suc-add (hop g.0 (last-chain d p (t.parent x) c g.1))

  full : {k : ℕ} (i p x : ℕ) → Chain t p k → hits t (i + t.stations) p x ≡ hits t t.stations p x
  full zero p x c = rw zero-add
  full (suc i) p x c =
      let z : last t (i + t.stations) p x ≡ 0 = zero-if _ (λ h. let lt = chain-short t w (last-chain (i + t.stations) p x c h) in omega arith) in
      let e = full i p x c in
      let l = hits-last (i + t.stations) p x in
      rw suc-add (omega arith)

  whole : {k : ℕ} (d p x : ℕ) → Chain t p k → t.stations ≤ d → hits t d p x ≡ hits t t.stations p x
  whole d p x c le =
      let e : d - t.stations + t.stations ≡ d = omega arith in
      subst (λ (i : ℕ). hits t i p x ≡ hits t t.stations p x) e (full (d - t.stations) p x c)

  -- ---- up: what p gets from its child c on, and what is below c, is the whole tree
  over-kids : (d p x : ℕ) → bit (eqb p x) + over (λ j. gate (agreed t p j) (hits t d j x)) 0 t.stations ≡ hits t (suc d) p x
  unfolding hits
  over-kids d p x = ap (bit (eqb p x) +◌) (kids t w.low d p x)

  from-kid : {k : ℕ} (d p c x : ℕ) → Chain t p k → agreed t p c ≡ true
      → calls t (suc d) c p x + hits t (suc d) c x ≡ hits t (suc (suc d)) p x + gate (agreed t (t.parent p) p) (calls t d p (t.parent p) x)
  unfolding upwards
  from-kid d p c x h a =
      let s = both d c p x h in
      let o = but-one p c (λ j. hits t (suc d) j x) a in
      let k = over-kids (suc d) p x in
      let g : upwards d c p x ≡ gate (agreed t (t.parent p) p) (calls t d p (t.parent p) x) = other in
      omega arith
    where
      other : gate (agreed t (t.parent p) p && not (eqb (t.parent p) c)) (calls t d p (t.parent p) x) ≡ gate (agreed t (t.parent p) p) (calls t d p (t.parent p) x)
      other = by_bool (agreed t (t.parent p) p)
          (λ e. rw (e, ne_eqb (t.parent p) c (λ q. apart p c h e a (sym q))))
          (λ e. rw e)

  up : {k : ℕ} (d p c x : ℕ) → Chain t p k → agreed t p c ≡ true → t.stations + k ≤ d → calls t d c p x + hits t t.stations c x ≡ hits t t.stations t.root x
  up zero p c x h a le = absurd (let lt = w.station in omega arith)
  up (suc d) p c x here a le =
      let s = from-kid d p c x here a in
      let e = whole (suc d) c x (kid-chain p c a here) (omega arith) in
      let f = whole (suc (suc d)) p x here (omega arith) in
      let g = ap (λ (b : Bool). gate b (calls t d p (t.parent p) x)) w.top in
      omega arith
  up (suc d) p c x (hop b h) a le =
      let s = from-kid d p c x (hop b h) a in
      let e = whole (suc d) c x (kid-chain p c a (hop b h)) (omega arith) in
      let f = whole (suc (suc d)) p x (hop b h) (omega arith) in
      let g = ap (λ (b' : Bool). gate b' (calls t d p (t.parent p) x)) b in
      let i = up d (t.parent p) p x h b (omega arith) in
      omega arith

  -- ---- the caller has the call from nobody: nil is no station
  module _ (few : t.stations ≤ nil) where
    not-nil : (p j m : ℕ) → gate (agreed t p j && not (eqb j nil)) m ≡ gate (agreed t p j) m
    not-nil p j m = by_bool (agreed t p j) (λ e. let lt = w.low p j e in rw (e, ne_eqb j nil (λ q. omega arith))) (λ e. rw e)

    start : {k : ℕ} (d c x : ℕ) → Chain t c k → t.stations + k ≤ d → calls t d nil c x ≡ hits t t.stations t.root x
    unfolding upwards
    start zero c x h le = absurd (let lt = w.station in omega arith)
    start (suc d) c x here le =
        let s = both d nil c x here in
        let o = over-ext _ _ (λ j. not-nil c j (hits t (suc d) j x)) 0 t.stations in
        let k = over-kids (suc d) c x in
        let f = whole (suc (suc d)) c x here (omega arith) in
        let g = ap (λ (b : Bool). gate (b && not (eqb (t.parent c) nil)) (calls t d c (t.parent c) x)) w.top in
        omega arith
    start (suc d) c x (hop b h) le =
        let s = both d nil c x (hop b h) in
        let o = over-ext _ _ (λ j. not-nil c j (hits t (suc d) j x)) 0 t.stations in
        let k = over-kids (suc d) c x in
        let f = whole (suc (suc d)) c x (hop b h) (omega arith) in
        let lt = chain-low t w h in
        let g : upwards d nil c x ≡ calls t d c (t.parent c) x = rw (b, ne_eqb (t.parent c) nil (λ q. omega arith)) in
        let i = up d (t.parent c) c x h b (omega arith) in
        omega arith

    -- ---- the theorems, for any allowance of at least 2 n hops
    module _ (c : ℕ) (o : OnTree t c) (d : ℕ) (enough : t.stations + t.stations ≤ d) where
      pub flood-reaches : (x : ℕ) → count x (c ∷ receivers (flood t d nil c)) ≡ bit (on_tree t x)
      unfolding count on_tree
      flood-reaches x =
          let lt = chain-short t w o.chain in
          opened ∙ start d c x o.chain (omega arith) ∙ root-hits t w t.stations x
        where
          opened : bit (eqb c x) + count x (receivers (flood t d nil c)) ≡ calls t d nil c x
          opened = unfold calls in refl

      pub flood-copies : suc (length (flood t d nil c)) ≡ length (reach t)
      unfolding reach on_tree
      flood-copies =
          ap suc (sym (length-receivers (flood t d nil c)))
          ∙ length-count t.stations (c ∷ receivers (flood t d nil c)) (λ x le. flood-reaches x ∙ ap bit (off-tree t w t.stations x le))
          ∙ over-ext _ _ flood-reaches 0 t.stations ∙ sym (visit-length t w t.stations 0)
