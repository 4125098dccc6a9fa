use Rattle.std.proofs.Common.{[], ◌∷◌, ◌∙◌}
use Rattle.bits.specs.Parts.{splice}
use Rattle.protocol.specs.Net.{most_groups, most_stations}
use Rattle.forms.specs.Folds.{in_rows}
use Rattle.convert.specs.Inner.Carried.{entry_carried, remarked, carried}
use Rattle.convert.proofs.carry.Goals as goal

pub returns : goal.returns
unfolding carried remarked splice
returns c = let a = c.args in
    c.make_rows.ensures
    ∙ (λ i. in_rows (entry_carried a.net.now a.m a.n) (splice (c.copy.ensures i) 7 (c.mark_byte.ensures i ∷ [])) most_groups most_stations)
