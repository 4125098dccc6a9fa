-- No count of a run is more than its steps.
use mathlib.Core.Path.{◌≡◌, refl, subst}
use mathlib.Core.Bool.{Bool}
use mathlib.Core.List.{List}
use Prim.Native.Nat.{ℕ, zero, suc, ◌≤◌}
use native.Mathlib.Omega.{arith}
use lib.Dec.{eqb}
use Rattle.bits.proofs.Cases.{by_bool}
use Rattle.protocol.specs.declared.Case.TheVariants.{Adopted, NotTentative, Unconnected, NotGreater}
use Rattle.protocol.specs.declared.Replies.{Replies}
use Rattle.protocol.specs.Net.{Net, request}
use Rattle.protocol.specs.Rules.{Rule, no_traffic, one_sent, one_lost, oldest}
use Rattle.protocol.specs.Rules.{tick, ask, refresh, deliver, lose, give_up, drop_child, member, route, rules}
use Rattle.protocol.specs.Steps.{rule, outcome}
use Rattle.protocol.specs.Runs.{RunState, case_count, then, at_step, after, how_many, hears}
use Rattle.protocol.specs.Shaped.{All, none, both}
use Rattle.protocol.proofs.Laws.Messages.{bit_le}
use Rattle.protocol.proofs.Steps.Steps.{each-rule}
use Rattle.protocol.proofs.CaseCounts.{run-cases}
use Rattle.script.specs.Inner.Counts.{RepliesUpTo, CountsUpTo}

-- a step sends, delivers and loses at most one message
pub record AtMostOne (R : Rule Net) : Type 0 where
  pub sent : R.traffic.sent ≤ 1
  pub delivered : R.traffic.delivered ≤ 1
  pub lost : R.traffic.lost ≤ 1

still : (R : Rule Net) → R.traffic ≡ no_traffic → AtMostOne R
still R e = rw e (record { sent = omega arith; delivered = omega arith; lost = omega arith })

sends : (R : Rule Net) → R.traffic ≡ one_sent → AtMostOne R
sends R e = rw e (record { sent = omega arith; delivered = omega arith; lost = omega arith })

loses : (R : Rule Net) → R.traffic ≡ one_lost → AtMostOne R
loses R e = rw e (record { sent = omega arith; delivered = omega arith; lost = omega arith })

delivers : (N : Net) (a b c : ℕ) → AtMostOne (deliver N a b c)
unfolding deliver
delivers N a b c = record { sent = bit_le (eqb (oldest N.channel a b).kind request); delivered = omega arith; lost = omega arith }

all-few : (N : Net) (a b c : ℕ) → All AtMostOne (rules N a b c)
unfolding rules tick ask refresh lose give_up drop_child member route
all-few N a b c =
    both (still _ refl) (both (sends _ refl) (both (sends _ refl)
    (both (delivers N a b c)
    (both (loses _ refl) (both (still _ refl) (both (still _ refl) (both (still _ refl) (both (still _ refl) none))))))))

pub one_each : (N : Net) (k a b c : ℕ) → AtMostOne (rule N k a b c)
one_each N k a b c = each-rule N AtMostOne (still _ refl) a b c (all-few N a b c) k

-- a count of some of the steps
some-steps : (so : Net → ℕ → ℕ → ℕ → ℕ → Bool) (N : Net) (s : List ℕ) (i : ℕ) → how_many so N s i ≤ i
unfolding how_many
some-steps so N s zero = omega arith
some-steps so N s (suc i) = omega (arith, some-steps so N s i, bit_le (at_step s i (so (after N s i).net)))

then-few : (R : RunState) (i k a b c : ℕ) → RepliesUpTo (suc i) (then R k a b c).tally.replies → CountsUpTo i R.tally → CountsUpTo (suc i) (then R k a b c).tally
unfolding then
then-few R i k a b c heard f =
    let o = one_each R.net k a b c in
    by_bool (eqb (outcome R.net k a b c) 0)
    (λ t. rw t (record {
      accepted = omega (arith, f.accepted);
      refused = omega (arith, f.refused);
      sent = omega (arith, f.sent, o.sent);
      delivered = omega (arith, f.delivered, o.delivered);
      lost = omega (arith, f.lost, o.lost);
      replies = subst (RepliesUpTo (suc i)) (rw t refl) heard;
    }))
    (λ t. rw t (record {
      accepted = omega (arith, f.accepted);
      refused = omega (arith, f.refused);
      sent = omega (arith, f.sent);
      delivered = omega (arith, f.delivered);
      lost = omega (arith, f.lost);
      replies = subst (RepliesUpTo (suc i)) (rw t refl) heard;
    }))

heard-few : (N : Net) (s : List ℕ) (i : ℕ) → RepliesUpTo i (after N s i).tally.replies
heard-few N s i x = rw (run-cases N s i x) (some-steps (hears x) N s i)

pub few : (N : Net) (s : List ℕ) (i : ℕ) → CountsUpTo i (after N s i).tally
unfolding after
few N s zero = record { accepted = omega arith; refused = omega arith; sent = omega arith; delivered = omega arith; lost = omega arith; replies = heard-few N s 0 }
few N s (suc i) = then-few (after N s i) i _ _ _ _ (heard-few N s (suc i)) (few N s i)

-- the count of each case
pub each_few : (k : ℕ) (r : Replies) → RepliesUpTo k r → (r.adopted ≤ k) × (r.not_tentative ≤ k) × (r.unconnected ≤ k) × (r.not_greater ≤ k)
unfolding case_count
each_few k r f = (f Adopted, f NotTentative, f Unconnected, f NotGreater)
