use Rattle.std.proofs.Common.{refl, rules}
use Rattle.bits.proofs.Below.{fold_is}
use Rattle.plan.specs.Planned.{both_ways}
use Rattle.plan.proofs.cables.all_both_ways.Goals as goal

pub returns : goal.returns
returns c = let a = c.args in fold_is _ (both_ways a.front.now.bytes.now a.p) _ a.n (λ ok i b f' k. search rules) _ refl _ c.fold.ensures.ran
