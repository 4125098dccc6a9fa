-- What the book proves: the theorems behind the printed sentences, each named for what it says. (Others stand beside what they
-- are about: `step-apart` and `route-apart` in Aparts, the case of a reply in Hears and its counts in CaseCounts, names in Finds, calls in
-- Calls, the reach list and the flood in the crate `tree`.)
use mathlib.Core.Path.{◌≡◌, refl, ap}
use mathlib.Core.Logic.{◌≢◌}
use mathlib.Core.Bool.{Bool, true, false, cond}
use mathlib.Core.List.{List}
use Prim.Native.Nat.{ℕ, zero, suc, ◌+◌, ◌≤◌}
use native.Mathlib.Omega.{arith}
use lib.Dec.{eqb}
use borrow.Author.Tests.{eqb-true, eq-eqb}
use Rattle.bits.specs.Sums.{bit}
use Rattle.bits.proofs.Cases.{by_bool, by-lt}
use Rattle.tree.specs.Tree.{OnTree}
use Rattle.tree.proofs.Chains.{chain-short}
use Rattle.protocol.specs.declared.Entry.{Entry}
use Rattle.protocol.specs.declared.Message.{Message}
use Rattle.protocol.specs.declared.Tally.{Tally}
use Rattle.protocol.specs.Net.{Net, request, reply, in_channels}
use Rattle.protocol.specs.Fresh.{Plan, blank, fresh}
use Rattle.protocol.specs.Entries.{is_of, count_of, under_way}
use Rattle.protocol.specs.Steps.{rule, action?, outcome, step}
use Rattle.protocol.specs.Runs.{count_accepted, count_refused, RunState, then, at_step, after}
use Rattle.protocol.specs.Calls.{tree_of}
use Rattle.protocol.specs.Shaped.{All, none, both, ShapedPlan, ShapedMessage, Shaped}
use Rattle.protocol.specs.Sound.{Sound, ShapedSound}
use Rattle.protocol.specs.Demands.{Demand3, KeepsParents}
use Rattle.protocol.proofs.Sound.Invariant.{InvariantIn, sound-invariant, invariant-sound}
use Rattle.protocol.proofs.Sound.Actions.{step-invariant}
use Rattle.protocol.proofs.Shape.Changes.{fresh-shaped}
use Rattle.protocol.proofs.Shape.Actions.{step-shaped}
use Rattle.protocol.proofs.Steps.Steps.{or_else-pass, accepted, step-plan, refused-same}
use Rattle.protocol.proofs.Laws.Messages.{is_of-group, no-replies}
use Rattle.protocol.proofs.Steps.Kept.{step-keeps-parents}
use Rattle.protocol.proofs.Calls.{tree-rooted}
use Rattle.protocol.proofs.Sound.Room as room
use Rattle.protocol.proofs.Steps.Counts.{conserves}

-- ---- a group past the last is blank, and has no message
no-message : (k n g : ℕ) {l : List Message} → n ≤ g → All (ShapedMessage n) l → count_of k g l ≡ 0
unfolding count_of
no-message k n g past none = refl
no-message k n g past (both {x = m} a h) =
    let z : bit (is_of k g m) ≡ 0 = ap bit (is_of-group k g m (λ e. omega (arith, a.grouped))) in
    omega (arith, no-message k n g past h)

no-group : (N : Net) → Shaped N → (g : ℕ) → N.groups ≤ g → InvariantIn N g
unfolding under_way
no-group N H g past = record {
  core = record {
    root_parent = λ p _. ap (λ (e : Entry). e.parent) (bare p);
    calls = λ p q. omega (arith, no-message request N.groups g past (H.channels p q).each, no-message reply N.groups g past (H.channels q p).each);
    agreed = λ p n. absurd (n (ap (λ (e : Entry). e.parent) (bare p)));
    words = λ q p. no-replies (N.channel q p) (no-message reply N.groups g past (H.channels q p).each);
    reaches = λ p n. absurd (n (ap (λ (e : Entry). e.parent) (bare p)));
  };
  root_tentative = ap (λ (e : Entry). e.tentative) (bare (N.root g));
  parent_joins = λ p n. absurd (n (ap (λ (e : Entry). e.parent) (bare p)));
  tentative_joins = λ p n. absurd (n (ap (λ (e : Entry). e.tentative) (bare p)));
  ceiling = λ p. let z : (N.entry g p).clock ≡ 0 = ap (λ (e : Entry). e.clock) (bare p) in omega arith;
}
  where
    bare : (p : ℕ) → N.entry g p ≡ blank
    bare p = H.no_group g p past

invariant : (N : Net) → ShapedSound N → (g : ℕ) → InvariantIn N g
invariant N G g = by-lt g N.groups (λ l. sound-invariant N G.shaped g (G.sound g l)) (no-group N G.shaped g)

-- ---- a fresh net is shaped and sound, and every step, accepted or refused, with any numbers, keeps both
fresh-invariant : (P : Plan) (g : ℕ) → InvariantIn (fresh P) g
unfolding fresh under_way count_of
fresh-invariant P g = record {
  core = record {
    root_parent = λ p _. refl;
    calls = λ p q. omega arith;
    agreed = λ p n. absurd (n refl);
    words = λ q p. none;
    reaches = λ p n. absurd (n refl);
  };
  root_tentative = refl;
  parent_joins = λ p n. absurd (n refl);
  tentative_joins = λ p n. absurd (n refl);
  ceiling = λ p. omega arith;
}

pub fresh-shaped-sound : (P : Plan) → ShapedPlan P → ShapedSound (fresh P)
fresh-shaped-sound P G = let H = fresh-shaped P G in record { shaped = H; sound = λ g _. invariant-sound (fresh P) H g (fresh-invariant P g) }

pub step-sound : (N : Net) → Shaped N → (g : ℕ) → Sound N g → (k a b c : ℕ) → Sound (step N k a b c) g
step-sound N H g S k a b c = invariant-sound (step N k a b c) (step-shaped N H k a b c) g (step-invariant N H (sound-invariant N H g S) k a b c)

pub step-shaped-sound : (N : Net) → ShapedSound N → (k a b c : ℕ) → ShapedSound (step N k a b c)
step-shaped-sound N G k a b c = record {
  shaped = step-shaped N G.shaped k a b c;
  sound = λ g l. step-sound N G.shaped g (G.sound g (rw (ap (λ (P : Plan). P.groups) (step-plan N k a b c)) at l)) k a b c;
}

-- ---- 2. demand 3
pub shaped-sound-demand3 : (N : Net) → ShapedSound N → Demand3 N
unfolding under_way tree_of
shaped-sound-demand3 N G = record {
  reaches = λ g p l n. let o : OnTree (tree_of N g) p = (G.sound g l).chains p n in
      record { hops = o.hops; fewer = chain-short (tree_of N g) (tree-rooted N G.shaped g l) o.chain; chain = o.chain };
  one_request = λ g s d l. omega (arith, (G.sound g l).single s d);
  one_reply = λ g s d l. omega (arith, (G.sound g l).single d s);
}

-- the same for every net that a script of any numbers goes through
module _ (N : Net) (s : List ℕ) where
  after-step : (i : ℕ) → (after N s (suc i)).net ≡ at_step s i (step (after N s i).net)
  unfolding after then
  after-step i = refl

  pub run-shaped-sound : ShapedSound N → (i : ℕ) → ShapedSound (after N s i).net
  unfolding after
  run-shaped-sound G zero = G
  run-shaped-sound G (suc i) = rw (after-step i) (step-shaped-sound _ (run-shaped-sound G i) _ _ _ _)

  pub run-shaped : Shaped N → (i : ℕ) → Shaped (after N s i).net
  unfolding after
  run-shaped H zero = H
  run-shaped H (suc i) = rw (after-step i) (step-shaped _ (run-shaped H i) _ _ _ _)

  pub run-keeps-parents : Shaped N → (i : ℕ) → KeepsParents (after N s i).net (after N s (suc i)).net
  run-keeps-parents H i = rw (after-step i) (step-keeps-parents _ (run-shaped H i) _ _ _ _)

-- from a fresh net, after any steps in any order, losses, refusals, route and membership changes among them
pub fresh-demand3 : (P : Plan) → ShapedPlan P → (s : List ℕ) (i : ℕ) → Demand3 (after (fresh P) s i).net
fresh-demand3 P G s i = shaped-sound-demand3 _ (run-shaped-sound (fresh P) s (fresh-shaped-sound P G) i)

pub fresh-keeps-parents : (P : Plan) → ShapedPlan P → (s : List ℕ) (i : ℕ) → KeepsParents (after (fresh P) s i).net (after (fresh P) s (suc i)).net
fresh-keeps-parents P G s = run-keeps-parents (fresh P) s (fresh-shaped P G)

-- ---- outcome 6 never occurs from a sound net
pub never-six : (N : Net) → ShapedSound N → (k a b c : ℕ) → outcome N k a b c ≢ 6
never-six N G = room.never-six N G.shaped (invariant N G)

-- ---- messages in the channels at the start and those sent are as many as those delivered, lost and in the channels at the end: for a
-- step, and for a run
pub step-conserves : (N : Net) → Shaped N → (k a b c : ℕ) → outcome N k a b c ≡ 0
    → in_channels N + (rule N k a b c).traffic.sent ≡ (rule N k a b c).traffic.delivered + (rule N k a b c).traffic.lost + in_channels (step N k a b c)
unfolding outcome step
step-conserves N H k a b c e =
    rw (eq-eqb (outcome N k a b c) 0 e) (conserves N H k a b c (accepted (rule N k a b c) (or_else-pass (action? k) 2 _ 0 (λ i. omega arith) e).1))

-- one step more of a run
then-conserves : (n : ℕ) (R : RunState) → Shaped R.net → (k a b c : ℕ)
    → n + R.tally.sent ≡ R.tally.delivered + R.tally.lost + in_channels R.net
    → n + (then R k a b c).tally.sent ≡ (then R k a b c).tally.delivered + (then R k a b c).tally.lost + in_channels (then R k a b c).net
unfolding then
then-conserves n R H k a b c e = by_bool (eqb (outcome R.net k a b c) 0)
    (λ t. rw t (omega (arith, step-conserves R.net H k a b c (eqb-true _ 0 t))))
    (λ f. rw f (let z : step R.net k a b c ≡ R.net = refused-same R.net k a b c f in rw z e))

pub run-conserves : (N : Net) → Shaped N → (s : List ℕ) (i : ℕ)
    → in_channels N + (after N s i).tally.sent ≡ (after N s i).tally.delivered + (after N s i).tally.lost + in_channels (after N s i).net
unfolding after
run-conserves N H s zero = omega arith
run-conserves N H s (suc i) = then-conserves (in_channels N) (after N s i) (run-shaped N s H i) _ _ _ _ (run-conserves N H s i)

-- every step is accepted or refused
pub run-counts : (N : Net) (s : List ℕ) (i : ℕ) → (after N s i).tally.accepted + (after N s i).tally.refused ≡ i
unfolding after then
run-counts N s zero = refl
run-counts N s (suc i) = at (eqb (outcome (after N s i).net _ _ _ _) 0) (run-counts N s i)
  where
    counted : Bool → Tally
    counted b = cond b (count_accepted (after N s i).tally (at_step s i (rule (after N s i).net))) (count_refused (after N s i).tally)

    at : (b : Bool) → (after N s i).tally.accepted + (after N s i).tally.refused ≡ i → (counted b).accepted + (counted b).refused ≡ suc i
    at true e = omega arith
    at false e = omega arith
