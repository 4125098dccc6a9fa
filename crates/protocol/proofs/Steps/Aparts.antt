-- What a step leaves alone.
--     step-apart, route-apart     a step of one group changes no entry and no message of another, and other groups' messages keep
--                                 their order in every channel; action 9 changes none of any group
--     step-channels               no channel changes but those that the action sends on or takes from
--     step-routes                 no route changes but by action 9
use mathlib.Core.Path.{◌≡◌, refl, sym, ap, subst, ◌∙◌}
use mathlib.Core.Logic.{◌≢◌}
use mathlib.Core.Bool.{Bool, false, ◌&&◌}
use mathlib.Core.List.{List, [], ◌∷◌, ◌++◌}
use Prim.Native.Nat.{ℕ, zero, suc, ◌-◌}
use native.Mathlib.Omega.{arith}
use lib.Dec.{eqb}
use lib.ListN.{get_or}
use borrow.Author.Tests.{eq-eqb, ne_eqb}
use Rattle.bits.proofs.Cases.{by_bool, and_both, or-false-l, or-false-r, clash}
use Rattle.protocol.specs.declared.Message.{Message}
use Rattle.protocol.specs.Net.{Net, NetOf, request, set_entry, set_channel, set_route, remove_at, send, take_at}
use Rattle.protocol.specs.Rules.{no_message, oldest, tick, ask, refresh, answered, heard, deliver, lose, give_up, drop_child, member, route, rules}
use Rattle.protocol.specs.Steps.{no_rule, rule, outcome, step}
use Rattle.protocol.specs.Apart.{only, group_in, Untouched, group_of, uses}
use Rattle.protocol.proofs.Laws.Maps.{upd2-all, upd2-off, upd2-miss}
use Rattle.protocol.proofs.Steps.Steps.{by-step}

-- ---- one channel: a message of another group comes, or goes
module _ {M : Type 0} (group : M → ℕ) (o : ℕ) where
  only-snoc : (l : List M) (m : M) → group m ≢ o → only group o (l ++ (m ∷ [])) ≡ only group o l
  unfolding only
  only-snoc [] m n = rw (ne_eqb (group m) o n)
  only-snoc (x ∷ l) m n = by_bool (eqb (group x) o) (λ t. rw t (ap (λ (k : List M). x ∷ k) (only-snoc l m n))) (λ e. rw e (only-snoc l m n))

  only-remove : (i : ℕ) (l : List M) (z : M) → group (get_or l i z) ≢ o → only group o (remove_at i l) ≡ only group o l
  unfolding only remove_at
  only-remove i [] z n = refl
  only-remove zero (x ∷ l) z n = rw (ne_eqb (group x) o n)
  only-remove (suc i) (x ∷ l) z n = by_bool (eqb (group x) o) (λ t. rw t (ap (λ (k : List M). x ∷ k) (only-remove i l z n))) (λ e. rw e (only-remove i l z n))

-- ---- one change of a net, of any kind of entry and message
module _ {E M : Type 0} (group : M → ℕ) (o : ℕ) where
  nothing : (N : NetOf E M) → Untouched group o N N
  nothing N = record { entries = λ p. refl; messages = λ s d. refl }

  then : {N N' N'' : NetOf E M} → Untouched group o N N' → Untouched group o N' N'' → Untouched group o N N''
  then A B = record { entries = λ p. B.entries p ∙ A.entries p; messages = λ s d. B.messages s d ∙ A.messages s d }

  entry-apart : (N : NetOf E M) (g p : ℕ) (e : E) → o ≢ g → Untouched group o N (set_entry N g p e)
  unfolding set_entry
  entry-apart N g p e n = record { entries = λ x. ap (λ (f : ℕ → E). f x) (upd2-off N.entry g p e o n); messages = λ s d. refl }

  channel-apart : (N : NetOf E M) (s d : ℕ) (l : List M) → only group o l ≡ only group o (N.channel s d) → Untouched group o N (set_channel N s d l)
  unfolding set_channel
  channel-apart N s d l h = record {
    entries = λ p. refl;
    messages = upd2-all (λ x y (k : List M). only group o k ≡ only group o (N.channel x y)) h (λ x y _. refl);
  }

  send-apart : (N : NetOf E M) (s d : ℕ) (m : M) → group m ≢ o → Untouched group o N (send N s d m)
  unfolding send
  send-apart N s d m n = channel-apart N s d _ (only-snoc group o (N.channel s d) m n)

  take-apart : (N : NetOf E M) (s d i : ℕ) (z : M) → group (get_or (N.channel s d) i z) ≢ o → Untouched group o N (take_at N s d i)
  unfolding take_at
  take-apart N s d i z n = channel-apart N s d _ (only-remove group o i (N.channel s d) z n)

-- ---- the nine actions
-- action k + 1 stands at place k
pub less : (k : ℕ) → k ≡ suc k - 1
less k = omega arith

module _ (N : Net) (o : ℕ) where
  deliver-apart : (s d c : ℕ) → o ≢ (oldest N.channel s d).group → Untouched group_in o N (deliver N s d c).next
  unfolding deliver answered heard
  deliver-apart s d c n =
      let g : ℕ = (oldest N.channel s d).group in
      let T : Untouched group_in o N (take_at N s d 0) = take-apart group_in o N s d 0 no_message (λ i. n (sym i)) in
      by_bool (eqb (oldest N.channel s d).kind request)
      (λ i. rw i (then group_in o T (then group_in o (entry-apart group_in o _ g d _ n) (send-apart group_in o _ d s _ (λ j. n (sym j))))))
      (λ i. rw i (then group_in o T (entry-apart group_in o _ g d _ n)))

  each : (a b c : ℕ) → (k : ℕ) → o ≢ group_of N (suc k) a b c → Untouched group_in o N (get_or (rules N a b c) k (no_rule N)).next
  unfolding rules group_of tick ask refresh lose give_up drop_child member route set_route
  each a b c zero n = entry-apart group_in o N a (N.root a) _ n
  each a b c (suc zero) n = then group_in o (entry-apart group_in o N a b _ n) (send-apart group_in o _ b _ _ (λ i. n (sym i)))
  each a b c (suc (suc zero)) n = then group_in o (entry-apart group_in o N a b _ n) (send-apart group_in o _ b _ _ (λ i. n (sym i)))
  each a b c (suc (suc (suc zero))) n = deliver-apart a b c n
  each a b c (suc (suc (suc (suc zero)))) n = take-apart group_in o N a b c no_message (λ i. n (sym i))
  each a b c (suc (suc (suc (suc (suc zero))))) n = entry-apart group_in o N a b _ n
  each a b c (suc (suc (suc (suc (suc (suc zero)))))) n = entry-apart group_in o N a b _ n
  each a b c (suc (suc (suc (suc (suc (suc (suc zero))))))) n = entry-apart group_in o N a b _ n
  each a b c (suc (suc (suc (suc (suc (suc (suc (suc zero)))))))) n = record { entries = λ p. refl; messages = λ s d. refl }
  each a b c (suc (suc (suc (suc (suc (suc (suc (suc (suc k))))))))) n = nothing group_in o N

  pub step-apart : (k a b c : ℕ) → o ≢ group_of N k a b c → Untouched group_in o N (step N k a b c)
  unfolding rule outcome step
  step-apart zero a b c n = nothing group_in o N
  step-apart (suc k) a b c n = by-step N (Untouched group_in o N) (suc k) a b c
      (λ _. subst (λ (i : ℕ). Untouched group_in o N (get_or (rules N a b c) i (no_rule N)).next) (less k) (each a b c k n)) (nothing group_in o N)

  -- action 9 names no group: no entry and no message of any group changes
  pub route-apart : (a b c : ℕ) → Untouched group_in o N (step N 9 a b c)
  unfolding rule rules route set_route
  route-apart a b c = by-step N (Untouched group_in o N) 9 a b c (λ _. record { entries = λ p. refl; messages = λ s d. refl }) (nothing group_in o N)

-- ---- channels and routes
-- other messages from i to j
elsewhere : (N : Net) (i j : ℕ) (l : List Message) (s d : ℕ) → (eqb s i && eqb d j) ≡ false → (set_channel N i j l).channel s d ≡ N.channel s d
unfolding set_channel
elsewhere N i j l s d f = upd2-miss N.channel i j l s d (λ x y. clash (and_both (eqb s i) (eqb d j) (eq-eqb s i x) (eq-eqb d j y)) f)

module _ (N : Net) where
  deliver-channels : (a b c s d : ℕ) → uses N 4 a b c s d ≡ false → (deliver N a b c).next.channel s d ≡ N.channel s d
  unfolding uses deliver answered heard send take_at set_entry
  deliver-channels a b c s d f =
      let asked : Bool = eqb (oldest N.channel a b).kind request in
      let out : (set_channel N a b (remove_at 0 (N.channel a b))).channel s d ≡ N.channel s d = elsewhere N a b _ s d (or-false-l (eqb s a && eqb d b) _ f) in
      let back : (asked && (eqb s b && eqb d a)) ≡ false = or-false-r (eqb s a && eqb d b) _ f in
      by_bool asked
      (λ t. rw t (elsewhere _ b a _ s d (ap (λ (x : Bool). x && (eqb s b && eqb d a)) (sym t) ∙ back) ∙ out))
      (λ e. rw e out)

  each-channels : (a b c s d k : ℕ) → uses N (suc k) a b c s d ≡ false → (get_or (rules N a b c) k (no_rule N)).next.channel s d ≡ N.channel s d
  unfolding rules uses tick ask refresh lose give_up drop_child member route send take_at set_entry set_route
  each-channels a b c s d zero f = refl
  each-channels a b c s d (suc zero) f = elsewhere _ b _ _ s d f
  each-channels a b c s d (suc (suc zero)) f = elsewhere _ b _ _ s d f
  each-channels a b c s d (suc (suc (suc zero))) f = deliver-channels a b c s d f
  each-channels a b c s d (suc (suc (suc (suc zero)))) f = elsewhere N a b _ s d f
  each-channels a b c s d (suc (suc (suc (suc (suc zero))))) f = refl
  each-channels a b c s d (suc (suc (suc (suc (suc (suc zero)))))) f = refl
  each-channels a b c s d (suc (suc (suc (suc (suc (suc (suc zero))))))) f = refl
  each-channels a b c s d (suc (suc (suc (suc (suc (suc (suc (suc zero)))))))) f = refl
  each-channels a b c s d (suc (suc (suc (suc (suc (suc (suc (suc (suc k))))))))) f = refl

  pub step-channels : (k a b c s d : ℕ) → uses N k a b c s d ≡ false → (step N k a b c).channel s d ≡ N.channel s d
  unfolding rule outcome step
  step-channels zero a b c s d f = refl
  step-channels (suc k) a b c s d f = by-step N (λ M. M.channel s d ≡ N.channel s d) (suc k) a b c
      (λ _. subst (λ (i : ℕ). (get_or (rules N a b c) i (no_rule N)).next.channel s d ≡ N.channel s d) (less k) (each-channels a b c s d k f)) refl

  deliver-routes : (a b c : ℕ) → (deliver N a b c).next.route ≡ N.route
  unfolding deliver answered heard send take_at set_entry set_channel
  deliver-routes a b c = by_bool (eqb (oldest N.channel a b).kind request) (λ t. rw t) (λ e. rw e)

  each-routes : (a b c k : ℕ) → suc k ≢ 9 → (get_or (rules N a b c) k (no_rule N)).next.route ≡ N.route
  unfolding rules tick ask refresh lose give_up drop_child member send take_at set_entry set_channel
  each-routes a b c zero n = refl
  each-routes a b c (suc zero) n = refl
  each-routes a b c (suc (suc zero)) n = refl
  each-routes a b c (suc (suc (suc zero))) n = deliver-routes a b c
  each-routes a b c (suc (suc (suc (suc zero)))) n = refl
  each-routes a b c (suc (suc (suc (suc (suc zero))))) n = refl
  each-routes a b c (suc (suc (suc (suc (suc (suc zero)))))) n = refl
  each-routes a b c (suc (suc (suc (suc (suc (suc (suc zero))))))) n = refl
  each-routes a b c (suc (suc (suc (suc (suc (suc (suc (suc zero)))))))) n = absurd (n refl)
  each-routes a b c (suc (suc (suc (suc (suc (suc (suc (suc (suc k))))))))) n = refl

  pub step-routes : (k a b c : ℕ) → k ≢ 9 → (step N k a b c).route ≡ N.route
  unfolding rule outcome step
  step-routes zero a b c n = refl
  step-routes (suc k) a b c n = by-step N (λ M. M.route ≡ N.route) (suc k) a b c
      (λ _. subst (λ (i : ℕ). (get_or (rules N a b c) i (no_rule N)).next.route ≡ N.route) (less k) (each-routes a b c k n)) refl
