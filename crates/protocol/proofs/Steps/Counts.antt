-- What was in the channels and what is sent is what is delivered, lost, or in the channels: for a step.
use mathlib.Core.Path.{◌≡◌, refl, ap, ◌∙◌}
use mathlib.Core.Bool.{true}
use mathlib.Core.List.{List, [], ◌∷◌, ◌++◌}
use Prim.Native.Nat.{ℕ, zero, suc, ◌+◌, ◌≤◌, ◌<◌}
use native.Mathlib.Omega.{arith}
use lib.Dec.{eqb}
use lib.ListN.{length}
use borrow.Author.Tests.{ltb-true}
use Rattle.bits.specs.Sums.{over, sum_below}
use Rattle.bits.proofs.Cases.{by_bool, by-eq, and_l}
use Rattle.protocol.specs.Net.{Net, NetOf, request, upd, upd2, set_entry, set_channel, set_route, remove_at, send, take_at, near?, in_channels}
use Rattle.protocol.specs.Rules.{Rule, oldest, tick, ask, refresh, answered, heard, deliver, lose, give_up, drop_child, member, route, rules}
use Rattle.protocol.specs.Steps.{rule}
use Rattle.protocol.specs.Shaped.{All, none, both, Shaped}
use Rattle.protocol.proofs.Laws.Maps.{upd-hit, upd-miss, length-snoc, length_removed}
use Rattle.protocol.proofs.Shape.Actions.{cable, near-cable, ask-near, refresh-near}
use Rattle.protocol.proofs.Steps.Steps.{Passed, each-rule}

-- a sum of which one term changes
sum-upd : {A : Type 0} (g : A → ℕ) (f : ℕ → A) (i : ℕ) (v : A) (j k : ℕ) → j ≤ i → i < j + k
    → over (λ x. g (upd f i v x)) j k + g (f i) ≡ over (λ x. g (f x)) j k + g v
unfolding over
sum-upd g f i v j zero l h = absurd (omega arith)
sum-upd g f i v j (suc k) l h = at (sum-upd g f i v (suc j) k)
  where
    -- past the term that changes
    past : (j k : ℕ) → i < j → over (λ x. g (upd f i v x)) j k ≡ over (λ x. g (f x)) j k
    past j zero m = refl
    past j (suc k) m = omega (arith, past (suc j) k (omega arith), ap g (upd-miss f i v j (λ e. omega arith)))

    at : (suc j ≤ i → i < suc j + k → over (λ x. g (upd f i v x)) (suc j) k + g (f i) ≡ over (λ x. g (f x)) (suc j) k + g v)
        → g (upd f i v j) + over (λ x. g (upd f i v x)) (suc j) k + g (f i) ≡ g (f j) + over (λ x. g (f x)) (suc j) k + g v
    at rest = by-eq j i
        (λ e. omega (arith, past (suc j) k (omega arith), ap g (upd-hit f i v j e), ap (λ (x : ℕ). g (f x)) e))
        (λ n. omega (arith, rest (omega arith) (omega arith), ap g (upd-miss f i v j n)))

-- ---- one change of a net
module _ {E M : Type 0} where
  channel-count : (N : NetOf E M) (s d : ℕ) (l : List M) → s < N.stations → d < N.stations
      → in_channels (set_channel N s d l) + length (N.channel s d) ≡ in_channels N + length l
  unfolding in_channels set_channel upd2
  channel-count N s d l hs hd = omega (
    arith,
    sum-upd (λ (row : ℕ → List M). sum_below N.stations (λ x. length (row x))) N.channel s (upd (N.channel s) d l) 0 N.stations (omega arith) (omega arith),
    sum-upd (length {A = M}) (N.channel s) d l 0 N.stations (omega arith) (omega arith),
  )

  send-count : (N : NetOf E M) (s d : ℕ) (m : M) → s < N.stations → d < N.stations → in_channels (send N s d m) ≡ in_channels N + 1
  unfolding send
  send-count N s d m hs hd = omega (arith, channel-count N s d (N.channel s d ++ (m ∷ [])) hs hd, length-snoc (N.channel s d) m)

  take_count : (N : NetOf E M) (s d i : ℕ) → s < N.stations → d < N.stations → i < length (N.channel s d) → in_channels (take_at N s d i) + 1 ≡ in_channels N
  unfolding take_at
  take_count N s d i hs hd h = omega (arith, channel-count N s d (remove_at i (N.channel s d)) hs hd, length_removed i (N.channel s d) h)

  entry-count : (N : NetOf E M) (g p : ℕ) (e : E) → in_channels (set_entry N g p e) ≡ in_channels N
  unfolding in_channels set_entry
  entry-count N g p e = refl

  post-count : (N : NetOf E M) (g p : ℕ) (e : E) (s d : ℕ) (m : M) → s < N.stations → d < N.stations
      → in_channels (send (set_entry N g p e) s d m) ≡ in_channels N + 1
  unfolding set_entry
  post-count N g p e s d m hs hd = send-count (set_entry N g p e) s d m hs hd ∙ ap (λ (x : ℕ). x + 1) (entry-count N g p e)

-- ---- what a rule owes, where a message is sent; where nothing is; taken and answered; taken
one_out : (a : ℕ) {b : ℕ} → b ≡ a + 1 → a + 1 ≡ 0 + 0 + b
one_out a e = omega arith

none_out : {a b : ℕ} → b ≡ a → a + 0 ≡ 0 + 0 + b
none_out e = omega arith

back-out : {a b : ℕ} (x : ℕ) → x + 1 ≡ a → b ≡ x + 1 → a + 1 ≡ 1 + 0 + b
back-out x e f = omega arith

one_in : {a b x : ℕ} → x + 1 ≡ a → b ≡ x → a + 0 ≡ 1 + 0 + b
one_in e f = omega arith

module _ (N : Net) (H : Shaped N) where
  abbrev pub Conserves : Rule Net → Type 0
  Conserves R = Passed R → in_channels N + R.traffic.sent ≡ R.traffic.delivered + R.traffic.lost + in_channels R.next

  ask-conserves : (g p c : ℕ) → Conserves (ask N g p c)
  unfolding ask
  ask-conserves g p c P =
      let w = cable N H p (N.route p (N.root g)) (ask-near N H g p c P.enabled) in
      one_out _ (post-count N g p _ p _ _ w.0 w.1)

  refresh-conserves : (g p c : ℕ) → Conserves (refresh N g p c)
  unfolding refresh
  refresh-conserves g p c P =
      let w = cable N H p (N.entry g p).parent (refresh-near N H g p c P.enabled) in
      one_out _ (post-count N g p _ p _ _ w.0 w.1)

  deliver-conserves : (s d c : ℕ) → Conserves (deliver N s d c)
  unfolding deliver answered heard take_at set_channel
  deliver-conserves s d c P =
      let o = P.operands in
      let o1 : near? N s d ≡ true = search and_l in
      let w = near-cable N H s d o1 in
      let one : in_channels (take_at N s d 0) + 1 ≡ in_channels N = take_count N s d 0 w.0 w.1 (ltb-true 0 (length (N.channel s d)) P.enabled) in
      by_bool (eqb (oldest N.channel s d).kind request)
      (λ i. rw i (back-out _ one (post-count (take_at N s d 0) _ d _ d s _ w.1 w.0)))
      (λ i. rw i (one_in one (entry-count (take_at N s d 0) _ d _)))

  lose-conserves : (s d i : ℕ) → Conserves (lose N s d i)
  unfolding lose
  lose-conserves s d i P =
      let o = P.operands in
      let o1 : near? N s d ≡ true = search and_l in
      let w = near-cable N H s d o1 in
      omega (arith, take_count N s d i w.0 w.1 (ltb-true i (length (N.channel s d)) P.enabled))

  all-conserve : (a b c : ℕ) → All Conserves (rules N a b c)
  unfolding rules tick give_up drop_child member route set_route in_channels
  all-conserve a b c =
      both (λ _. none_out (entry-count N _ _ _)) (both (ask-conserves a b c) (both (refresh-conserves a b c) (both (deliver-conserves a b c)
      (both (lose-conserves a b c) (both (λ _. none_out (entry-count N _ _ _)) (both (λ _. none_out (entry-count N _ _ _))
      (both (λ _. none_out (entry-count N _ _ _)) (both (λ _. none_out refl) none))))))))

  pub conserves : (k a b c : ℕ) → Conserves (rule N k a b c)
  conserves k a b c = each-rule N Conserves (λ _. none_out refl) a b c (all-conserve a b c) k
