-- A net of the examples that passes its test is well shaped.
--     proper-shaped
use mathlib.Core.Path.{◌≡◌, refl, sym, ap, ◌∙◌}
use mathlib.Core.Logic.{◌≢◌, inl, inr}
use mathlib.Core.Bool.{Bool, true, not, ◌&&◌, ◌||◌}
use mathlib.Core.List.{List, [], ◌∷◌}
use Prim.Native.Nat.{ℕ, zero, suc, ◌≤◌, ◌<◌}
use native.Mathlib.Omega.{arith}
use lib.Dec.{eqb, ltb, leb}
use lib.ListN.{length, get_or}
use borrow.Author.Tests.{eqb-true, eq-eqb, ne_eqb, ltb-true, leb-true, not-true}
use Rattle.bits.specs.Masks.{has, below, within}
use Rattle.bits.proofs.Cases.{by_bool, by-eq, by-lt, and_l, and_r, by-or, supposed, clash, ne_of}
use Rattle.bits.proofs.Masks.{has-zero, with-hit, with-miss, with-keeps, below-has, within_has}
use Rattle.protocol.specs.declared.Entry.{Entry}
use Rattle.protocol.specs.declared.Message.{Message}
use Rattle.protocol.specs.Net.{nil, most_stations, most_groups, longest_name, largest_clock, capacity, request, reply}
use Rattle.protocol.specs.Shaped.{All, none, both, ShapedPlan, ShapedEntry, ShapedMessage, Shaped}
use Rattle.protocol.specs.Runs.{run}
use Rattle.protocol.specs.Names.{same_name}
use Rattle.protocol.specs.ExampleNets.{script_of, Cable, Group, no_group, Start, new, ◌knowing◌, ◌carrying◌, ◌having◌, neighbours_by, plan_by, net}
use Rattle.protocol.specs.ExampleNets.{every, group_fits, differ, cable_fits, plan_fits, entry_fits, message_fits, proper}
use Rattle.protocol.proofs.Laws.Maps.{All-at, All-get_or}
use Rattle.protocol.proofs.Finds.{name-same}
use Rattle.protocol.proofs.Shape.Changes.{fresh-shaped, entry-shaped, send-shaped}
use Rattle.protocol.proofs.Theorems.{run-shaped}

-- ---- lists
pub every-all : {A : Type 0} (P : A → Bool) (l : List A) → every P l ≡ true → All (λ x. P x ≡ true) l
unfolding every
every-all P [] t = none
every-all P (x ∷ l) t = both (and_l (P x) (every P l) t) (every-all P l (and_r (P x) (every P l) t))

past : (gs : List Group) (g : ℕ) → length gs ≤ g → get_or gs g no_group ≡ no_group
past [] g h = refl
past (G ∷ gs) zero h = absurd (omega arith)
past (G ∷ gs) (suc g) h = past gs g (omega arith)

-- ---- the plan
differ-at : (gs : List Group) → differ gs ≡ true → (g h : ℕ) → g < length gs → h < g → (get_or gs g no_group).name ≢ (get_or gs h no_group).name
unfolding differ
differ-at [] t g h i j = absurd (omega arith)
differ-at (G ∷ gs) t zero h i j = absurd (omega arith)
differ-at (G ∷ gs) t (suc g) zero i j =
    let a : every (λ H. not (same_name H.name G.name)) gs ≡ true = search and_l in
    λ e. clash (name-same _ _ e) (not-true _ (All-at g no_group (omega arith) (every-all _ gs a)))
differ-at (G ∷ gs) t (suc g) (suc h) i j = let a : differ gs ≡ true = search (and_l, and_r) in differ-at gs a g h (omega arith) (omega arith)

-- a cable more takes none away
joined_keeps : (c : Cable) (cs : List Cable) (p q : ℕ) → has (neighbours_by cs p) q ≡ true → has (neighbours_by (c ∷ cs) p) q ≡ true
unfolding neighbours_by
joined_keeps c cs p q t = by_bool (eqb p c.0)
    (λ a. rw a (with-keeps (neighbours_by cs p) c.1 q t))
    (λ a. by_bool (eqb p c.1) (λ b. rw (a, b) (with-keeps (neighbours_by cs p) c.0 q t)) (λ b. rw (a, b) t))

-- each end of it has the other
joined-there : (c : Cable) (cs : List Cable) → has (neighbours_by (c ∷ cs) c.0) c.1 ≡ true
unfolding neighbours_by
joined-there c cs = rw (eq-eqb c.0 c.0 refl) (with-hit (neighbours_by cs c.0) c.1)

joined_back : (c : Cable) (cs : List Cable) → c.0 ≢ c.1 → has (neighbours_by (c ∷ cs) c.1) c.0 ≡ true
unfolding neighbours_by
joined_back c cs n = rw (ne_eqb c.1 c.0 (λ e. n (sym e)), eq-eqb c.1 c.1 refl) (with-hit (neighbours_by cs c.1) c.0)

-- and nobody else has more than before
joined_by : {R : Type 0} (c : Cable) (cs : List Cable) (p q : ℕ) → has (neighbours_by (c ∷ cs) p) q ≡ true
    → (p ≡ c.0 → q ≡ c.1 → R) → (p ≡ c.1 → q ≡ c.0 → R) → (has (neighbours_by cs p) q ≡ true → R) → R
unfolding neighbours_by
joined_by c cs p q t there back rest = by_bool (eqb p c.0)
    (λ a. by-eq q c.1 (there (eqb-true _ _ a)) (λ n. rest (sym (with-miss (neighbours_by cs p) c.1 q n) ∙ (rw a at t))))
    (λ a. by_bool (eqb p c.1)
    (λ b. by-eq q c.0 (back (eqb-true _ _ b)) (λ n. rest (sym (with-miss (neighbours_by cs p) c.0 q n) ∙ (rw (a, b) at t))))
    (λ b. rest (rw (a, b) at t)))

cables-fits : (n : ℕ) (cs : List Cable) → every (cable_fits n) cs ≡ true → (p q : ℕ) → has (neighbours_by cs p) q ≡ true
    → (p < n) × (q < n) × (p ≢ q) × (has (neighbours_by cs q) p ≡ true)
unfolding every cable_fits neighbours_by
cables-fits n [] f p q t = clash t (has-zero q)
cables-fits n (c ∷ cs) f p q t =
    let a : ltb c.0 n ≡ true = search (and_l, and_r) in
    let b : ltb c.1 n ≡ true = search (and_l, and_r) in
    let d : not (eqb c.0 c.1) ≡ true = search (and_l, and_r) in
    let r : every (cable_fits n) cs ≡ true = search (and_l, and_r) in
    let x = ltb-true _ _ a in
    let y = ltb-true _ _ b in
    let z = ne_of _ _ d in
    joined_by c cs p q t
    (λ i j. rw (i, j) (x, y, z, joined_back c cs z))
    (λ i j. rw (i, j) (y, x, (λ e. z (sym e)), joined-there c cs))
    (λ j. let w = cables-fits n cs r p q j in (w.0, w.1, w.2, joined_keeps c cs q p w.3))

module _ (n : ℕ) (G : Group) (f : group_fits n G ≡ true) where
  group-named : (1 ≤ length G.name) × (length G.name ≤ longest_name)
  unfolding group_fits
  group-named =
      let a : leb 1 (length G.name) ≡ true = search (and_l, and_r) in
      let b : leb (length G.name) longest_name ≡ true = search (and_l, and_r) in
      (leb-true _ _ a, leb-true _ _ b)

  group-letters : (i : ℕ) → get_or G.name i 0 < 256
  unfolding group_fits
  group-letters i =
      let a : every (λ b. ltb b 256) G.name ≡ true = search (and_l, and_r) in
      ltb-true _ _ (All-get_or i 0 refl (every-all _ G.name a))

  group-root : G.root < n
  unfolding group_fits
  group-root = let a : ltb G.root n ≡ true = search (and_l, and_r) in ltb-true _ _ a

plan-fits : (gs : List Group) (n : ℕ) (cs : List Cable) → plan_fits gs n cs ≡ true → ShapedPlan (plan_by gs n cs)
unfolding plan_fits plan_by
plan-fits gs n cs f =
    let a : leb 1 n ≡ true = search (and_l, and_r) in
    let b : leb n most_stations ≡ true = search (and_l, and_r) in
    let c : leb 1 (length gs) ≡ true = search (and_l, and_r) in
    let d : leb (length gs) most_groups ≡ true = search (and_l, and_r) in
    let e : every (group_fits n) gs ≡ true = search (and_l, and_r) in
    let h : differ gs ≡ true = search (and_l, and_r) in
    let k : every (cable_fits n) cs ≡ true = search (and_l, and_r) in
    let fits : (g : ℕ) → g < length gs → group_fits n (get_or gs g no_group) ≡ true = λ g l. All-at g no_group l (every-all _ gs e) in
    record {
      stations_least = leb-true _ _ a;
      stations_most = leb-true _ _ b;
      groups_least = leb-true _ _ c;
      groups_most = leb-true _ _ d;
      named = λ g l. group-named n _ (fits g l);
      name_is_bytes = λ g i. by-lt g (length gs) (λ l. group-letters n _ (fits g l) i) (λ l. rw (past gs g l) (omega arith));
      distinct = differ-at gs h;
      roots = λ g l. group-root n _ (fits g l);
      cables = cables-fits n cs k;
      no_name = λ g l. ap (λ (G : Group). G.name) (past gs g l);
      no_root = λ g l. ap (λ (G : Group). G.root) (past gs g l);
    }

-- ---- entries and messages
equal-both : (a b c d : ℕ) → (eqb a b && eqb c d) ≡ true → (a ≡ b) × (c ≡ d)
equal-both a b c d t = (eqb-true _ _ (and_l (eqb a b) (eqb c d) t), eqb-true _ _ (and_r (eqb a b) (eqb c d) t))

near_of : (nb r : ℕ) → (eqb r nil || has nb r) ≡ true → r ≢ nil → has nb r ≡ true
near_of nb r t n = by-or _ _ t (λ e. absurd (n (eqb-true _ _ e))) (λ h. h)

mask-near : (nb m : ℕ) → below most_stations m ≡ true → within most_stations m nb ≡ true → (x : ℕ) → has m x ≡ true → has nb x ≡ true
mask-near nb m a b x t = within_has most_stations m nb x b (below-has most_stations m x a t) t

entry-fits : (nb r p : ℕ) (e : Entry) → entry_fits nb r p e ≡ true → ShapedEntry nb r p e
unfolding entry_fits
entry-fits nb r p e f =
    let a : (eqb e.parent nil || has nb e.parent) ≡ true = search (and_l, and_r) depth 9 in
    let b : (eqb e.tentative nil || has nb e.tentative) ≡ true = search (and_l, and_r) depth 9 in
    let c : (not (eqb p r) || (eqb e.parent nil && eqb e.tentative nil)) ≡ true = search (and_l, and_r) depth 9 in
    let d : leb e.member 1 ≡ true = search (and_l, and_r) depth 9 in
    let h : below most_stations e.children ≡ true = search (and_l, and_r) depth 9 in
    let h' : within most_stations e.children nb ≡ true = search (and_l, and_r) depth 9 in
    let w : below most_stations e.waiting ≡ true = search (and_l, and_r) depth 9 in
    let w' : within most_stations e.waiting nb ≡ true = search (and_l, and_r) depth 9 in
    let k : leb e.clock largest_clock ≡ true = search (and_l, and_r) depth 9 in
    record {
      parent_near = near_of nb _ a;
      tentative_near = near_of nb _ b;
      nil_at_root = λ i. equal-both _ _ _ _ (supposed (eqb p r) _ c (eq-eqb p r i));
      flag = leb-true _ _ d;
      children_near = mask-near nb _ h h';
      waiting_near = mask-near nb _ w w';
      clock_fits = leb-true _ _ k;
    }

message-fits : (n : ℕ) (m : Message) → message_fits n m ≡ true → ShapedMessage n m
unfolding message_fits
message-fits n m f =
    let a : (eqb m.kind request || eqb m.kind reply) ≡ true = search (and_l, and_r) in
    let b : ltb m.group n ≡ true = search (and_l, and_r) in
    let c : leb m.connected 1 ≡ true = search (and_l, and_r) in
    let d : (not (eqb m.kind request) || (eqb m.connected 0 && eqb m.clock 0)) ≡ true = search (and_l, and_r) in
    let k : leb m.clock largest_clock ≡ true = search (and_l, and_r) in
    record {
      kinds = by-or _ _ a (λ e. inl (eqb-true _ _ e)) (λ e. inr (eqb-true _ _ e));
      grouped = ltb-true _ _ b;
      flag = leb-true _ _ c;
      bare = λ i. equal-both _ _ _ _ (supposed (eqb m.kind request) _ d (eq-eqb _ _ i));
      clock_fits = leb-true _ _ k;
    }

pub proper-shaped : (S : Start) → proper S ≡ true → Shaped (net S)
unfolding proper net run
proper-shaped (new gs n cs) t = fresh-shaped (plan_by gs n cs) (plan-fits gs n cs t)
proper-shaped (S knowing k) t =
    let a : proper S ≡ true = search (and_l, and_r) in
    let b : ltb k.0 (net S).groups ≡ true = search (and_l, and_r) in
    let c : ltb k.1 (net S).stations ≡ true = search (and_l, and_r) in
    let d : entry_fits ((net S).neighbours k.1) ((net S).root k.0) k.1 k.2 ≡ true = search (and_l, and_r) in
    entry-shaped (net S) (proper-shaped S a) _ _ k.2 (ltb-true _ _ b) (ltb-true _ _ c) (entry-fits _ _ _ k.2 d)
proper-shaped (S carrying c) t =
    let a : proper S ≡ true = search (and_l, and_r) in
    let b : has ((net S).neighbours c.0) c.1 ≡ true = search (and_l, and_r) in
    let d : ltb (length ((net S).channel c.0 c.1)) capacity ≡ true = search (and_l, and_r) in
    let e : message_fits (net S).groups c.2 ≡ true = search (and_l, and_r) in
    send-shaped (net S) (proper-shaped S a) _ _ c.2 b (ltb-true _ _ d) (message-fits _ c.2 e)
proper-shaped (S having ts) t = let a : proper S ≡ true = search and_l in run-shaped (net S) (script_of ts) (proper-shaped S a) _
