use Rattle.std.proofs.Common.{refl, rules}
use Rattle.bits.proofs.Below.{all_is}
use Rattle.bits.specs.Below.{all_below}
use Rattle.protocol.specs.Net.{most_groups, most_stations}
use Rattle.layout.specs.Bounded.{grid_pass}
use Rattle.shape.specs.Shape.{entry_cell_shaped, entries_shaped}
use Rattle.shape.proofs.station_entries.entries_shaped.Goals as goal

pub returns : goal.returns
unfolding entries_shaped grid_pass
returns c = let a = c.args in all_is _ (λ k. all_below most_stations (entry_cell_shaped a.s.now a.n a.m a.g k)) _ most_groups (λ i b f' k. search rules) _ _ refl _ c.all.ensures.ran
