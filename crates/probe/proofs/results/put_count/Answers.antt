-- All eight bytes.
-- Assumes nothing.
use Rattle.probe.specs.Results.{of_count}
use Rattle.probe.proofs.ResultLaws.{puts-same}
use Rattle.probe.proofs.results.put_count.Goals as goal

pub returns : goal.returns
unfolding of_count
returns c = puts-same c.args.out.now.items c.to_le_bytes.result _ c.put.new.out.items c.to_le_bytes.ensures c.put.ensures
