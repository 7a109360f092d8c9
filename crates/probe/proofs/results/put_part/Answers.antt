-- One part behind the other.
-- Assumes nothing.
use Rattle.probe.specs.Results.{of_part}
use Rattle.probe.proofs.ResultLaws.{both}
use Rattle.probe.proofs.results.put_part.Goals as goal

pub returns : goal.returns
unfolding of_part
returns c = both _ _ _ _ _ c.put_lent.ensures c.put_table.ensures
