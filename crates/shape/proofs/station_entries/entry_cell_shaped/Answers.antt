use Rattle.std.proofs.Common.{◌+◌, sym, ◌∙◌}
use Rattle.protocol.specs.Net.{most_groups, most_stations}
use Rattle.layout.specs.Layout.{entry_size}
use Rattle.layout.specs.Marks.{entry_at}
use Rattle.layout.specs.Bounded.{zeros, used}
use Rattle.layout.proofs.Bounded.{cell-used, cell_free}
use Rattle.shape.specs.Shape.{entry_shaped, entry_shaped_at}
use Rattle.shape.proofs.station_entries.entry_cell_shaped.Goals as goal

pub returns-then-k-g : goal.returns-then-k-g
unfolding used
returns-then-k-g c =
    let a = c.args in
    let root = c.from.ensures ∙ c.root.ensures in
    c.entry_shaped.ensures
    ∙ (λ i. entry_shaped (c.neighbours.ensures i) (root i) a.p a.s.now (c.entry_at-at.ensures.0 i))
    ∙ sym (cell-used a.s.now (entry_at a.m) entry_size most_groups most_stations a.g a.n (entry_shaped_at a.s.now a.n a.m) a.k a.p c.if-k-g.true)

pub returns-else-k-g : goal.returns-else-k-g
unfolding used
returns-else-k-g c =
    let a = c.args in
    let at = c.entry_at-at.ensures.0 in
    c.zeros.ensures ∙ (λ i. zeros a.s.now (at i) (at i + entry_size))
    ∙ sym (cell_free a.s.now (entry_at a.m) entry_size most_groups most_stations a.g a.n (entry_shaped_at a.s.now a.n a.m) a.k a.p c.if-k-g.false)
