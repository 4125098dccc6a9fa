use Rattle.std.proofs.Common.{◌≡◌, ℕ, sym, ap, ◌∙◌, arith, refl, false}
use borrow.Author.Tests.{lt-ltb, ltb-true}
use Rattle.bits.specs.Masks.{has}
use Rattle.bits.proofs.Cases.{same_test, and_r, and_both}
use Rattle.protocol.specs.Net.{Net, station?, near?}
use Rattle.protocol.specs.Shaped.{Shaped}
use Rattle.layout.specs.Layout.{neighbours}
use Rattle.net.specs.View.{view}
use Rattle.net.proofs.Forms.{seen}
use Rattle.forms.specs.Plans.{plan_in}
use Rattle.forms.proofs.Plan.Shown.{plan-mask}
use Rattle.access.proofs.read.NetBytes.near.Goals as goal

-- whoever is among the neighbours of a station is one
only-stations : (N : Net) → Shaped N → (p q : ℕ) → near? N p q ≡ has (N.neighbours p) q
unfolding near? station?
only-stations N H p q = same_test _ _
    (λ t. search and_r)
    (λ t. let w = H.plan.cables p q t in and_both _ _ (and_both _ _ (lt-ltb _ _ w.0) (lt-ltb _ _ w.1)) t)

pub neighbours-requires : goal.neighbours-requires
unfolding station?
neighbours-requires c =
    let n = c.args.self.now.is_net in
    let below = ltb-true _ _ (sym c.is_station.ensures ∙ c.if-is_station.true) in
    omega (arith, c.from.ensures, below, n.stations_most)

pub returns-then-is_station : goal.returns-then-is_station
unfolding station? view plan_in
returns-then-is_station c =
    let a = c.args in
    let n = a.self.now in
    let l = n.bytes.now in
    let below = ltb-true _ _ (sym c.is_station.ensures ∙ c.if-is_station.true) in
    let mask = c.neighbours.ensures ∙ ap (neighbours l) c.from.ensures ∙ sym (plan-mask l a.p below) in
    c.has.ensures ∙ ap (λ (k : ℕ). has k a.q) mask ∙ sym (only-stations (view l) (seen _ _ n.is_net.shape) a.p a.q)

pub returns-else-is_station : goal.returns-else-is_station
unfolding near?
returns-else-is_station c =
    let a = c.args in
    let none : station? (view a.self.now.bytes.now) a.p ≡ false = sym c.is_station.ensures ∙ c.if-is_station.false in
    c.if-is_station.false ∙ rw none refl
