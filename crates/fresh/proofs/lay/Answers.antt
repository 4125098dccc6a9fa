use Rattle.std.proofs.Common.{◌≡◌, ℕ, List, length, ◌++◌, drop, replicate, refl, ap, ◌∙◌, arith}
use Rattle.bits.specs.Numbers.{bytes}
use Rattle.bits.specs.Parts.{splice}
use Rattle.bits.proofs.Parts.{put_whole}
use Rattle.layout.specs.Layout.{net_length}
use Rattle.forms.specs.Folds.{in_rows}
use Rattle.fresh.specs.Inner.Laying.{route_nil, entry_blank, plan_laid, laid}
use Rattle.fresh.proofs.lay.Goals as goal

-- the fill, the plan, the length, the routes and the entries, one after the other
pub returns : goal.returns
unfolding laid plan_laid
returns c =
    let plan = c.args.plan.now in
    let n : length c.args.net.now ≡ net_length = omega arith in
    let zeros : c.fill.new.self ≡ replicate net_length 0 = c.fill.ensures.after (λ y e. e) ∙ ap (λ (k : ℕ). replicate k 0) n in
    let put : c.copy_from_slice.new.self ++ drop (length plan) c.fill.new.self ≡ splice c.fill.new.self 0 plan =
    ap (λ (ys : List ℕ). ys ++ drop (length plan) c.fill.new.self) c.copy_from_slice.ensures.after
    ∙ put_whole 0 (length plan) c.fill.new.self plan refl (omega (arith, c.requires.0, n, c.fill.ensures.len)) in
    let front = c.put.ensures ∙ (λ i. splice ((put ∙ ap (λ (l : List ℕ). splice l 0 plan) zeros) i) 0 (bytes 4 net_length)) in
    let stations = c.from-n.ensures ∙ c.stations.ensures in
    let routed = c.make_rows.ensures ∙ (λ i. in_rows route_nil (front i) (stations i) (stations i)) in
    c.make_rows-2.ensures ∙ (λ i. in_rows entry_blank (routed i) ((c.from.ensures ∙ c.groups.ensures) i) (stations i))
