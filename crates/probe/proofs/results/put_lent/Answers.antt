-- One part behind the other.
-- Assumes nothing.
use Rattle.probe.specs.Results.{of_lent}
use Rattle.probe.proofs.ResultLaws.{both}
use Rattle.probe.proofs.results.put_lent.Goals as goal

pub returns : goal.returns
unfolding of_lent
returns c = both _ _ _ _ _ (both _ _ _ _ _ (both _ _ _ _ _ c.put_table.ensures c.put_table-2.ensures) c.put_length.ensures) c.put.ensures
