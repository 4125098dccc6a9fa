-- A loss and a delivery change no byte of a net but those that they have to, in each form.
--     loss-changes, delivery-changes    nothing but in these stretches, whatever the bytes
--     loss-removes, delivery-removes    accepted: the later messages moved up, and the freed slot is clear
--     loss-sizes, delivery-sizes        how many bytes the stretches have
use mathlib.Core.Path.{◌≡◌, refl, sym, ap, subst, ◌∙◌}
use mathlib.Core.Bool.{true, cond}
use mathlib.Core.List.{List, [], ◌∷◌}
use Prim.Native.Nat.{ℕ, ◌+◌, ◌*◌, ◌-◌, ◌<◌}
use native.Mathlib.Omega.{arith}
use lib.Dec.{eqb}
use lib.ListN.{length}
use borrow.Author.Tests.{ltb-true, eq-eqb}
use Rattle.bits.specs.Parts.{part}
use Rattle.bits.specs.Stretches.{Stretch, stretch, sizes, ChangedIn}
use Rattle.bits.proofs.Cases.{by_bool, and_l}
use Rattle.bits.proofs.Stretches.{sizes-both, sizes-further, changed-none}
use Rattle.protocol.specs.Net.{Net, request, remove_at, set_channel, take_at, near?}
use Rattle.protocol.specs.Cases.{adopts}
use Rattle.protocol.specs.Rules.{oldest, lose, rules}
use Rattle.protocol.specs.Steps.{rule, action?, outcome, step}
use Rattle.protocol.proofs.Laws.Maps.{upd2-hit}
use Rattle.protocol.proofs.Shape.Actions.{near-cable}
use Rattle.protocol.proofs.Steps.Steps.{or_else-pass, Passed, accepted, by-step, step-plan}
use Rattle.layout.specs.Layout.{channel_at, channel_size, message_size}
use Rattle.layout.specs.declared.form.Mark.{Mark}
use Rattle.layout.specs.Marks.{entry_at}
use Rattle.channel.specs.Messages.{messages_of, channel_bytes}
use Rattle.changes.specs.Removal.{count_and_slots, Removed}
use Rattle.changes.proofs.Removal.{message-removed}
use Rattle.shape.specs.Shape.{shaped_as}
use Rattle.net.specs.View.{view}
use Rattle.net.specs.Encode.{bytes_as}
use Rattle.net.proofs.Forms.{seen, view-bytes, channel-is}
use Rattle.step.specs.Steps.{step_outcome_as, net_after_step_as}
use Rattle.changes.specs.Changes.{taking_out, going_out, delivering}
use Rattle.step.proofs.After.{not-net, after-bytes, after-net}
use Rattle.changes.proofs.Deliveries.{shows, below, taking, delivered, left, some, ends}

module _ (m : Mark) (l : List ℕ) (s d c : ℕ) where
  abbrev N : Net
  N = view l

  abbrev k : ℕ
  k = length ((view l).channel s d)

  -- a step that is accepted on bytes that are a net's, or changes nothing
  by_bytes : (a : ℕ) (ts : List Stretch) → (shaped_as m l ≡ true → Passed (rule N a s d c) → ChangedIn ts l (bytes_as m (rule N a s d c).next)) → ChangedIn ts l (net_after_step_as m l a s d c)
  by_bytes a ts yes· = by_bool (shaped_as m l)
      (λ h. subst (ChangedIn ts l) (sym (after-bytes m l a s d c h))
      (by-step N (λ M. ChangedIn ts l (bytes_as m M)) a s d c (yes· h) (subst (ChangedIn ts l) (sym (view-bytes m l h)) (changed-none ts l))))
      (λ f. subst (ChangedIn ts l) (sym (not-net m l a s d c f)) (changed-none ts l))

  pub delivery-changes : ChangedIn (delivering m l s d) l (net_after_step_as m l 4 s d c)
  unfolding rule rules
  delivery-changes = by_bytes 4 (delivering m l s d) (λ h P. delivered m l h s d c P)

  lost : shaped_as m l ≡ true → Passed (lose N s d c) → (s < N.stations) × (d < N.stations) × (c < k)
  unfolding lose
  lost h P = let o = P.operands in
      let near : near? N s d ≡ true = search and_l in
      let w = near-cable N (seen m l h) s d near in
      (w.0, w.1, ltb-true _ _ P.enabled)

  pub loss-changes : ChangedIn (taking_out l s d c) l (net_after_step_as m l 5 s d c)
  unfolding rule rules lose
  loss-changes = by_bytes 5 (taking_out l s d c) (λ h P. let w = lost h P in taking m l h s d w.0 w.1 c w.2)

  -- ---- accepted
  passed : (a : ℕ) → step_outcome_as m l a s d c ≡ 0 → (shaped_as m l ≡ true) × Passed (rule N a s d c) × (step N a s d c ≡ (rule N a s d c).next)
  unfolding step_outcome_as outcome step
  passed a o =
      let h = or_else-pass (shaped_as m l) 1 _ 0 (λ i. omega arith) o in
      let t = or_else-pass (action? a) 2 _ 0 (λ i. omega arith) h.1 in
      (h.0, accepted (rule N a s d c) t.1, rw (eq-eqb _ 0 h.1) refl)

  removes : (a i : ℕ) → shaped_as m l ≡ true → s < N.stations → d < N.stations → i < k → (step N a s d c).channel s d ≡ remove_at i (N.channel s d)
      → Removed message_size k i (part channel_size l (channel_at s d)) (part channel_size (net_after_step_as m l a s d c) (channel_at s d))
  removes a i h hs hd f e =
      let l' = net_after_step_as m l a s d c in
      let w = after-net m l a s d c h in
      let b = part channel_size l (channel_at s d) in
      let n : (view l').stations ≡ N.stations = (λ j. (w.1 j).stations) ∙ (λ j. (step-plan N a s d c j).stations) in
      let hs' : s < (view l').stations = rw n hs in
      let hd' : d < (view l').stations = rw n hd in
      let u = below m l h s d hs hd in
      let v = below m l' w.0 s d hs' hd' in
      let is : part channel_size l' (channel_at s d) ≡ channel_bytes (remove_at i (messages_of b)) =
      (channel-is m l' w.0 s d v.0 v.1).form
      ∙ ap channel_bytes (shows m l' w.0 s d hs' hd' ∙ (λ j. (w.1 j).channel s d) ∙ e ∙ ap (remove_at i) (sym (shows m l h s d hs hd))) in
      subst (Removed message_size k i b) (sym is)
      (subst (λ (x : ℕ). Removed message_size x i b (channel_bytes (remove_at i (messages_of b)))) (ap length (shows m l h s d hs hd))
      (message-removed b (channel-is m l h s d u.0 u.1) i (rw (shows m l h s d hs hd) f)))

  pub delivery-removes : step_outcome_as m l 4 s d c ≡ 0 → Removed message_size k 0 (part channel_size l (channel_at s d)) (part channel_size (net_after_step_as m l 4 s d c) (channel_at s d))
  unfolding rule rules
  delivery-removes o = let p = passed 4 o in
      let w = ends m l p.0 s d c p.1 in
      removes 4 0 p.0 w.0 w.1 (some m l p.0 s d c p.1) ((λ j. (p.2 j).channel s d) ∙ left m l p.0 s d c p.1)

  pub loss-removes : step_outcome_as m l 5 s d c ≡ 0 → Removed message_size k c (part channel_size l (channel_at s d)) (part channel_size (net_after_step_as m l 5 s d c) (channel_at s d))
  unfolding rule rules lose take_at set_channel
  loss-removes o = let p = passed 5 o in
      let w = lost p.0 p.1 in
      removes 5 c p.0 w.0 w.1 w.2 ((λ j. (p.2 j).channel s d) ∙ upd2-hit N.channel s d _)

  -- ---- how many bytes that is
  pub loss-sizes : (i : ℕ) → sizes (taking_out l s d i) ≡ 1 + message_size * (k - i)
  unfolding taking_out count_and_slots sizes
  loss-sizes i = sizes-further (channel_at s d) (count_and_slots message_size i k) ∙ omega arith

  abbrev at : ℕ
  at = entry_at m (oldest (view l).channel s d).group d

  request-sizes : sizes (stretch (at + 8) 2 ∷ going_out l d s) ≡ 10
  unfolding going_out count_and_slots sizes
  request-sizes = ap (λ (n : ℕ). 2 + n) (sizes-further (channel_at d s) _) ∙ omega arith

  adopted-sizes : sizes (stretch (at + 10) 2 ∷ stretch at 1 ∷ stretch (at + 4) 4 ∷ []) ≡ 7
  unfolding sizes
  adopted-sizes = refl

  waited-sizes : sizes (stretch (at + 10) 2 ∷ []) ≡ 2
  unfolding sizes
  waited-sizes = refl

  pub delivery-sizes : let x = oldest N.channel s d in
      sizes (delivering m l s d) ≡ message_size * k + cond (eqb x.kind request) 11 (cond (adopts (N.entry x.group d) s x) 8 3)
  unfolding delivering
  delivery-sizes =
      let x = oldest N.channel s d in
      sizes-both (taking_out l s d 0) _ ∙ by_bool (eqb x.kind request)
      (λ t. rw t (omega (arith, loss-sizes 0, request-sizes)))
      (λ f. rw f (by_bool (adopts (N.entry x.group d) s x) (λ t. rw t (omega (arith, loss-sizes 0, adopted-sizes))) (λ n. rw n (omega (arith, loss-sizes 0, waited-sizes)))))
