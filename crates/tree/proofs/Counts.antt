-- How often a station stands in the reach list. The way up from a station is one, so it is counted from the station upwards.
--     visit-count     in the visit of p with the allowance d, x stands as often as its way up meets p within d stations
--     reach-count     in the visit of a root with no agreed parent: once if x climbs to it within d stations, else never
use mathlib.Core.Path.{◌≡◌, refl, sym, ap, ◌∙◌}
use mathlib.Core.List.{List, [], ◌∷◌, ◌++◌}
use mathlib.Core.Bool.{Bool, true, false, ◌&&◌, ◌||◌}
use Prim.Native.Nat.{ℕ, zero, suc, ◌+◌, ◌<◌}
use native.Mathlib.Nat.{zero-add}
use native.Mathlib.Omega.{arith}
use lib.Dec.{eqb}
use borrow.Author.Tests.{eqb-true, eq-eqb, ne_eqb}
use Rattle.bits.specs.Sums.{bit, over}
use Rattle.bits.proofs.Sums.{over-ext, over_zero, over_add}
use Rattle.bits.proofs.Cases.{by_bool, by-eq, and_r, is_false}
use Rattle.tree.specs.declared.Reach.{Reach}
use Rattle.tree.specs.Tree.{Tree, agreed, climbs, Rooted}
use Rattle.tree.specs.Reach.{picked, visits, visit, stations_in, count}
use Rattle.tree.proofs.Sums.{gate, total, gate-zero, gate-one, gate-swap, gate-add, gate-gate, over-gate, over-one, total-picked, count-append}

-- the way up from x meets p so often, at its first d stations
unfoldable pub hits : Tree → ℕ → ℕ → ℕ → ℕ
hits t zero p x = 0
hits t (suc d) p x = bit (eqb p x) + gate (agreed t (t.parent x) x) (hits t d p (t.parent x))

pub agreed-parent : (t : Tree) (p j : ℕ) → agreed t p j ≡ true → t.parent j ≡ p
unfolding agreed
agreed-parent t p j a = eqb-true (t.parent j) p (and_r (t.lists p j) (eqb (t.parent j) p) a)

-- p is x's agreed parent if x has one and that is p
own-agreed : (t : Tree) (p x : ℕ) → bit (agreed t p x) ≡ gate (agreed t (t.parent x) x) (bit (eqb p (t.parent x)))
own-agreed t p x = by-eq p (t.parent x)
    (λ e. rw (eq-eqb p (t.parent x) e) (rw e (sym (gate-one (agreed t (t.parent x) x)))))
    (λ n. rw (ne_eqb p (t.parent x) n)
    (rw (is_false (agreed t p x) (λ a. n (sym (agreed-parent t p x a)))) (sym (gate-zero (agreed t (t.parent x) x)))))

stations-append : (a b : List Reach) → stations_in (a ++ b) ≡ stations_in a ++ stations_in b
unfolding stations_in
stations-append [] b = refl
stations-append (l ∷ a) b = ap (l.station ∷◌) (stations-append a b)

count-visits : (f : ℕ → List Reach) (g : ℕ → ℕ) (x : ℕ) → ((c : ℕ) → count x (stations_in (f c)) ≡ g c) → (cs : List ℕ)
    → count x (stations_in (visits f cs)) ≡ total g cs
unfolding visits total stations_in count
count-visits f g x e [] = refl
count-visits f g x e (c ∷ cs) =
    ap (count x) (stations-append (f c) (visits f cs)) ∙ count-append x (stations_in (f c)) (stations_in (visits f cs))
    ∙ rw (e c, count-visits f g x e cs)

module _ (t : Tree) (low : (p j : ℕ) → agreed t p j ≡ true → j < t.stations) where
  -- x among the agreed children of p
  child : (p x : ℕ) → over (λ c. gate (eqb c x) (bit (agreed t p c))) 0 t.stations ≡ bit (agreed t p x)
  child p x = by_bool (agreed t p x)
      (λ a. let h = low p x a in over-one (λ c. bit (agreed t p c)) x 0 t.stations (omega arith) (omega arith))
      (λ f. rw f (over_zero (λ c. gate (eqb c x) (bit (agreed t p c))) (none f) 0 t.stations))
    where
      none : agreed t p x ≡ false → (c : ℕ) → gate (eqb c x) (bit (agreed t p c)) ≡ 0
      none f c = by-eq c x (λ e. rw e (rw f (gate-zero (eqb x x)))) (λ n. rw (ne_eqb c x n))

  -- the hits of p's children are those of p, but for p itself
  pub kids : (d p x : ℕ) → over (λ c. gate (agreed t p c) (hits t d c x)) 0 t.stations
      ≡ gate (agreed t (t.parent x) x) (hits t d p (t.parent x))
  unfolding hits
  kids zero p x = over_zero (λ c. gate (agreed t p c) 0) (λ c. gate-zero (agreed t p c)) 0 t.stations ∙ sym (gate-zero (agreed t (t.parent x) x))
  kids (suc d) p x =
      let up = agreed t (t.parent x) x in
      over-ext _ _ (λ c. gate-gate (agreed t p c) up (bit (eqb c x)) (hits t d c (t.parent x))) 0 t.stations
      ∙ over_add (λ c. gate (agreed t p c) (bit (eqb c x))) (λ c. gate up (gate (agreed t p c) (hits t d c (t.parent x)))) 0 t.stations
      ∙ both (over-ext _ _ (λ c. gate-swap (agreed t p c) (eqb c x)) 0 t.stations ∙ child p x ∙ own-agreed t p x)
      (over-gate up (λ c. gate (agreed t p c) (hits t d c (t.parent x))) 0 t.stations ∙ ap (gate up) (kids d p (t.parent x)))
      ∙ sym (gate-add up _ _)
    where
      both : {a b c e : ℕ} → a ≡ b → c ≡ e → a + c ≡ b + e
      both p q = cc

  visit-count : (d e p x : ℕ) → count x (stations_in (visit t d e p)) ≡ hits t d p x
  unfolding visit stations_in count hits
  visit-count zero e p x = refl
  visit-count (suc d) e p x =
      ap (bit (eqb p x) +◌)
      (count-visits (visit t d (suc e)) (λ c. hits t d c x) x (λ c. visit-count d (suc e) c x) (picked (agreed t p) 0 t.stations)
      ∙ total-picked (λ c. hits t d c x) (agreed t p) 0 t.stations ∙ kids d p x)

-- ---- from the root
module _ (t : Tree) (w : Rooted t) where
  pub root-hits : (d x : ℕ) → hits t d t.root x ≡ bit (climbs t d x)
  unfolding hits climbs
  root-hits zero x = refl
  root-hits (suc d) x = at (root-hits d (t.parent x))
    where
      both : (a b : Bool) (m : ℕ) → m ≡ bit b → gate a m ≡ bit (a && b)
      both true b m e = e
      both false b m e = refl

      at : hits t d t.root (t.parent x) ≡ bit (climbs t d (t.parent x))
          → bit (eqb t.root x) + gate (agreed t (t.parent x) x) (hits t d t.root (t.parent x))
          ≡ bit (eqb t.root x || (agreed t (t.parent x) x && climbs t d (t.parent x)))
      at h = by-eq t.root x
          (λ e. rw (eq-eqb t.root x e) (rw (← e) (rw w.top refl)))
          (λ n. rw (ne_eqb t.root x n) (zero-add _ ∙ both (agreed t (t.parent x) x) (climbs t d (t.parent x)) _ h))

  pub reach-count : (d e x : ℕ) → count x (stations_in (visit t d e t.root)) ≡ bit (climbs t d x)
  reach-count d e x = visit-count t w.low d e t.root x ∙ root-hits d x
