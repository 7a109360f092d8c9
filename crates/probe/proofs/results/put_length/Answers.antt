-- The first four bytes.
-- Assumes nothing.
use mathlib.Core.Path.{ap}
use lib.ListN.{take}
use Rattle.probe.specs.Results.{of_length}
use Rattle.probe.proofs.ResultLaws.{puts-same}
use Rattle.probe.proofs.results.put_length.Goals as goal

pub returns : goal.returns
unfolding of_length
returns c = puts-same c.args.out.now.items (take 4 c.to_le_bytes.result) _ c.put.new.out.items (ap (λ l. take 4 l) c.to_le_bytes.ensures) c.put.ensures
