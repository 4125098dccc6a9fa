use Rattle.std.proofs.Common.{refl, rules}
use Rattle.bits.proofs.Below.{fold_is}
use Rattle.protocol.specs.Net.{most_stations}
use Rattle.shape.specs.Shape.{entry_cell_shaped}
use Rattle.shape.proofs.station_entries.group_entries_shaped.Goals as goal

pub returns : goal.returns
returns c = let a = c.args in fold_is _ (entry_cell_shaped a.s.now a.n a.m a.g a.k) _ most_stations (λ ok i b f' k. search rules) _ refl _ c.fold.ensures.ran
