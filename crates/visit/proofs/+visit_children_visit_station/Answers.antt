use Rattle.std.proofs.Common.{◌+◌, ◌≤◌, ◌<◌, [], ◌∷◌, sym, ap, ◌∙◌, arith}
use Rattle.bits.specs.Parts.{splice}
use Rattle.protocol.specs.declared.Entry.{Entry}
use Rattle.net.specs.View.{view}
use Rattle.visit.specs.Lists.{list_length}
use Rattle.visit.proofs.Visits.{none-wrote, end-wrote, take-fit, rest-fit, both-wrote, skip-fit, skip-wrote, line-room, line-fit, line_wrote}
use Rattle.visit.proofs.+visit_children_visit_station.Goals as goal

-- ---- the list of children
pub visit_children-returns-then-j-stations : goal.visit_children-returns-then-j-stations
visit_children-returns-then-j-stations t c = let a = c.args in
    end-wrote a.net.now.bytes.now a.g a.depth a.allowance a.out.now a.p a.j a.at (c.if-j-stations.true ∙ c.stations.ensures)

pub visit_children-visit_station-next-requires : goal.visit_children-visit_station-next-requires
visit_children-visit_station-next-requires t c =
    let a = c.args in
    let F = c.requires.1 in
    let l : a.j < (view a.net.now.bytes.now).stations = omega (arith, c.requires.0, c.stations.ensures, c.if-j-stations.false) in (
      omega (arith, c.decreases, l, a.net.now.is_net.stations_most),
      take-fit a.net.now.bytes.now a.g a.depth a.allowance a.out.now a.p a.j a.at l (sym c.agree.ensures ∙ c.if-agree.true) F,
    )

pub visit_children-visit_children-requires : goal.visit_children-visit_children-requires
visit_children-visit_children-requires t c =
    let a = c.args in
    let F = c.requires.1 in
    let v = c.visit_station-next in
    let l : a.j < (view a.net.now.bytes.now).stations = omega (arith, c.requires.0, c.stations.ensures, c.if-j-stations.false) in (
      omega (arith, c.decreases, l, a.net.now.is_net.stations_most),
      (
        omega (arith, l),
        rest-fit a.net.now.bytes.now a.g a.depth a.allowance a.out.now v.new.out a.p a.j a.at v.result l (sym c.agree.ensures ∙ c.if-agree.true) F v.ensures,
      ),
    )

pub visit_children-visit_children-requires-else-agree : goal.visit_children-visit_children-requires-else-agree
visit_children-visit_children-requires-else-agree t c =
    let a = c.args in
    let F = c.requires.1 in
    let l : a.j < (view a.net.now.bytes.now).stations = omega (arith, c.requires.0, c.stations.ensures, c.if-j-stations.false) in (
      omega (arith, c.decreases, l, a.net.now.is_net.stations_most),
      (
        omega (arith, l),
        skip-fit a.net.now.bytes.now a.g a.depth a.allowance a.out.now a.p a.j a.at l (sym c.agree.ensures ∙ c.if-agree.false) F,
      ),
    )

pub visit_children-returns-then-agree : goal.visit_children-returns-then-agree
visit_children-returns-then-agree t c =
    let a = c.args in
    let v = c.visit_station-next in
    let u = c.visit_children in
    let l : a.j < (view a.net.now.bytes.now).stations = omega (arith, c.requires.0, c.stations.ensures, c.if-j-stations.false) in
    both-wrote a.net.now.bytes.now a.g a.depth a.allowance a.out.now v.new.out u.new.out a.p a.j a.at v.result u.result l (sym c.agree.ensures ∙ c.if-agree.true) v.ensures u.ensures

pub visit_children-returns-else-agree : goal.visit_children-returns-else-agree
visit_children-returns-else-agree t c =
    let a = c.args in
    let u = c.visit_children-else-agree in
    let l : a.j < (view a.net.now.bytes.now).stations = omega (arith, c.requires.0, c.stations.ensures, c.if-j-stations.false) in
    skip-wrote a.net.now.bytes.now a.g a.depth a.allowance a.out.now u.new.out a.p a.j a.at u.result l (sym c.agree.ensures ∙ c.if-agree.false) u.ensures

-- ---- the station
pub visit_station-returns-then-allowance-eq0 : goal.visit_station-returns-then-allowance-eq0
visit_station-returns-then-allowance-eq0 t c = let a = c.args in
    none-wrote a.net.now.bytes.now a.g a.depth a.allowance a.out.now a.p a.at c.if-allowance-eq0.true

pub visit_station-put_reach-requires : goal.visit_station-put_reach-requires
visit_station-put_reach-requires t c =
    let a = c.args in
    let room : a.at + 3 ≤ list_length = line-room a.net.now.bytes.now a.g a.depth a.allowance a.out.now a.p a.at c.if-allowance-eq0.false c.requires in
    omega (arith, room, c.requires.long)

pub visit_station-visit_children-requires : goal.visit_station-visit_children-requires
visit_station-visit_children-requires t c =
    let a = c.args in (
      omega (arith, c.decreases, c.if-allowance-eq0.false),
      (
        omega arith,
        line-fit a.net.now.bytes.now a.g a.depth a.allowance a.out.now c.put_reach.new.out a.p a.at c.if-allowance-eq0.false c.requires c.put_reach.auto.out,
      ),
    )

pub visit_station-returns : goal.visit_station-returns
visit_station-returns t c =
    let a = c.args in
    let put = c.put_reach.ensures ∙ ap (λ (e : Entry). splice a.out.now a.at (a.p ∷ e.parent ∷ a.depth ∷ [])) c.entry.ensures in
    line_wrote a.net.now.bytes.now a.g a.depth a.allowance a.out.now c.put_reach.new.out c.visit_children.new.out a.p a.at c.visit_children.result
    c.if-allowance-eq0.false put c.visit_children.ensures
