use Rattle.protocol.specs.Runs.{case_count}
use Rattle.run.proofs.Tallies.{nine-counts}
use Rattle.run.proofs.tally.put.Goals as goal

pub returns : goal.returns
unfolding case_count
returns c =
    nine-counts _ _ _ _ _ _ _ _ _ _ c.args.t c.requires c.put.ensures c.put-2.ensures c.put-3.ensures c.put-4.ensures c.put-5.ensures
    c.put-6.ensures c.put-7.ensures c.put-8.ensures c.put-9.ensures
