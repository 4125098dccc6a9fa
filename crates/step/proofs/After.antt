-- What a step does to the bytes, whatever they are, in each form.
--     after-bytes, after-net    of a net: the bytes of the next net, well shaped, that show it
--     refused-after              a refusal leaves every byte
--     after-plan                 the plan's 112 bytes stay
--     after-groups               no byte of another group's entries changes
--     route-after-groups         action 9 changes no byte of any group's entries
--     after-apart                no entry and no message of another group changes, and its messages keep their order;
--                                 route-after-apart: of no group, by action 9
--     after-channels             no channel's bytes change but of those that the action sends on or takes from
--     after-routes               no route's byte changes but by action 9
use mathlib.Core.Path.{◌≡◌, refl, sym, ap, ◌∙◌, subst}
use mathlib.Core.Logic.{◌≢◌}
use mathlib.Core.Bool.{true, false}
use mathlib.Core.List.{List, [], ◌∷◌}
use Prim.Native.Nat.{ℕ, ◌<◌}
use lib.Dec.{eqb}
use borrow.Author.Tests.{ne_eqb}
use Rattle.bits.specs.Parts.{part}
use Rattle.bits.proofs.Cases.{by_bool}
use Rattle.protocol.specs.Net.{Net, most_stations, most_groups}
use Rattle.protocol.specs.Fresh.{Plan, plan_of}
use Rattle.protocol.specs.Steps.{outcome, step}
use Rattle.protocol.specs.Apart.{group_in, Untouched, group_of, uses}
use Rattle.protocol.proofs.Steps.Steps.{step-plan, refused-same}
use Rattle.protocol.proofs.Shape.Actions.{step-shaped}
use Rattle.protocol.proofs.Steps.Aparts.{step-apart, route-apart, step-channels, step-routes}
use Rattle.channel.specs.Messages.{channel_bytes}
use Rattle.layout.specs.Layout.{route_at, entry_size, channel_at, channel_size}
use Rattle.layout.specs.declared.form.Mark.{Mark}
use Rattle.layout.specs.Marks.{entry_at}
use Rattle.layout.specs.Bounded.{used}
use Rattle.plan.specs.Planned.{net_header}
use Rattle.shape.specs.Shape.{shaped_as}
use Rattle.net.specs.View.{view}
use Rattle.net.specs.Encode.{entry_bytes, route_cell, entry_cell, channel_cell, bytes_as}
use Rattle.step.specs.Steps.{step_outcome_as, net_after_step_as}
use Rattle.forms.specs.Cells.{if_used}
use Rattle.forms.specs.Plans.{plan_bytes}
use Rattle.net.proofs.Forms.{bytes-hold, seen, view-bytes, stands}
use Rattle.forms.proofs.Plan.Holds.{holds-plan}

module _ (m : Mark) (l : List ℕ) (k a b c : ℕ) where
  pub refused-after : step_outcome_as m l k a b c ≢ 0 → net_after_step_as m l k a b c ≡ l
  unfolding net_after_step_as
  refused-after n = rw (ne_eqb _ _ n)

  pub not-net : shaped_as m l ≡ false → net_after_step_as m l k a b c ≡ l
  unfolding net_after_step_as step_outcome_as
  not-net f = rw f

  module _ (s : shaped_as m l ≡ true) where
    abbrev N : Net
    N = view l

    abbrev N' : Net
    N' = step (view l) k a b c

    pub after-bytes : net_after_step_as m l k a b c ≡ bytes_as m N'
    unfolding net_after_step_as step_outcome_as
    after-bytes = rw s (by_bool (eqb (outcome N k a b c) 0)
        (λ t. rw t refl)
        (λ f. rw f (sym (view-bytes m l s) ∙ ap (bytes_as m) (sym (refused-same N k a b c f)))))

    pub after-net : (shaped_as m (net_after_step_as m l k a b c) ≡ true) × (view (net_after_step_as m l k a b c) ≡ N')
    after-net = stands m N' _ (step-shaped N (seen m l s) k a b c) after-bytes

    -- a part of both, where what it holds is the same
    same-part : (w at : ℕ) (x x' : List ℕ) → part w (bytes_as m N') at ≡ part w x' 0 → part w (bytes_as m N) at ≡ part w x 0 → x' ≡ x
        → part w (net_after_step_as m l k a b c) at ≡ part w l at
    same-part w at x x' h' h e = rw (after-bytes) (h' ∙ ap (λ (y : List ℕ). part w y 0) e ∙ sym h ∙ ap (λ (y : List ℕ). part w y at) (view-bytes m l s))

    plan' : plan_of N' ≡ plan_of N
    plan' = step-plan N k a b c

    entry-same : (g p : ℕ) → g < most_groups → p < most_stations → N'.entry g p ≡ N.entry g p → part entry_size (net_after_step_as m l k a b c) (entry_at m g p) ≡ part entry_size l (entry_at m g p)
    entry-same g p hg hp e = same-part entry_size (entry_at m g p) (entry_cell N g p) (entry_cell N' g p) ((bytes-hold m N').entries g p hg hp) ((bytes-hold m N).entries g p hg hp)
        (λ i. if_used (used g (plan' i).groups p (plan' i).stations) (entry_bytes (e i)))

    channel-same : (x y : ℕ) → x < most_stations → y < most_stations → N'.channel x y ≡ N.channel x y → part channel_size (net_after_step_as m l k a b c) (channel_at x y) ≡ part channel_size l (channel_at x y)
    channel-same x y hx hy e = same-part channel_size (channel_at x y) (channel_cell N x y) (channel_cell N' x y) ((bytes-hold m N').channels x y hx hy) ((bytes-hold m N).channels x y hx hy)
        (λ i. if_used (used x (plan' i).stations y (plan' i).stations) (channel_bytes (e i)))

    route-same : (p d : ℕ) → p < most_stations → d < most_stations → N'.route ≡ N.route → part 1 (net_after_step_as m l k a b c) (route_at p d) ≡ part 1 l (route_at p d)
    route-same p d hp hd e = same-part 1 (route_at p d) (route_cell N p d) (route_cell N' p d) ((bytes-hold m N').routes p d hp hd) ((bytes-hold m N).routes p d hp hd)
        (λ i. if_used (used p (plan' i).stations d (plan' i).stations) (e i p d ∷ []))

    plan-same : part 112 (net_after_step_as m l k a b c) 0 ≡ part 112 l 0
    plan-same = rw after-bytes (sym (holds-plan (plan_of N') (net_header m) _ (bytes-hold m N').plan) ∙ ap (λ (P : Plan). plan_bytes P (net_header m)) plan'
        ∙ holds-plan (plan_of N) (net_header m) _ (bytes-hold m N).plan ∙ ap (λ (y : List ℕ). part 112 y 0) (view-bytes m l s))

  pub after-plan : part 112 (net_after_step_as m l k a b c) 0 ≡ part 112 l 0
  after-plan = by_bool (shaped_as m l) plan-same (λ f. rw (not-net f))

  pub after-channels : (x y : ℕ) → x < most_stations → y < most_stations → uses (view l) k a b c x y ≡ false → part channel_size (net_after_step_as m l k a b c) (channel_at x y) ≡ part channel_size l (channel_at x y)
  after-channels x y hx hy f = by_bool (shaped_as m l) (λ s. channel-same s x y hx hy (step-channels (view l) k a b c x y f)) (λ f. rw (not-net f))

  pub after-routes : (p d : ℕ) → p < most_stations → d < most_stations → k ≢ 9 → part 1 (net_after_step_as m l k a b c) (route_at p d) ≡ part 1 l (route_at p d)
  after-routes p d hp hd n = by_bool (shaped_as m l) (λ s. route-same s p d hp hd (step-routes (view l) k a b c n)) (λ f. rw (not-net f))

  entries-same : (o p : ℕ) → o < most_groups → p < most_stations → Untouched group_in o (view l) (step (view l) k a b c)
      → part entry_size (net_after_step_as m l k a b c) (entry_at m o p) ≡ part entry_size l (entry_at m o p)
  entries-same o p h hp U = by_bool (shaped_as m l) (λ s. entry-same s o p h hp (U.entries p)) (λ f. rw (not-net f))

  pub after-groups : (o p : ℕ) → o < most_groups → p < most_stations → o ≢ group_of (view l) k a b c
      → part entry_size (net_after_step_as m l k a b c) (entry_at m o p) ≡ part entry_size l (entry_at m o p)
  after-groups o p h hp n = entries-same o p h hp (step-apart (view l) o k a b c n)

  -- and of what the bytes show
  shown : (o : ℕ) → Untouched group_in o (view l) (step (view l) k a b c) → Untouched group_in o (view l) (view (net_after_step_as m l k a b c))
  shown o U = by_bool (shaped_as m l)
      (λ s. subst (Untouched group_in o (view l)) (sym (after-net s).1) U)
      (λ f. subst (λ (x : List ℕ). Untouched group_in o (view l) (view x)) (sym (not-net f)) (record { entries = λ p. refl; messages = λ s d. refl }))

  pub after-apart : (o : ℕ) → o ≢ group_of (view l) k a b c → Untouched group_in o (view l) (view (net_after_step_as m l k a b c))
  after-apart o n = shown o (step-apart (view l) o k a b c n)

pub route-after-apart : (m : Mark) (l : List ℕ) (a b c o : ℕ) → Untouched group_in o (view l) (view (net_after_step_as m l 9 a b c))
route-after-apart m l a b c o = shown m l 9 a b c o (route-apart (view l) o a b c)

pub route-after-groups : (m : Mark) (l : List ℕ) (a b c o p : ℕ) → o < most_groups → p < most_stations
    → part entry_size (net_after_step_as m l 9 a b c) (entry_at m o p) ≡ part entry_size l (entry_at m o p)
route-after-groups m l a b c o p h hp = entries-same m l 9 a b c o p h hp (route-apart (view l) o a b c)
