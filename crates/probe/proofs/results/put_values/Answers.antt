-- The values' bytes.
-- Assumes nothing.
use mathlib.Core.Path.{ap, ◌∙◌}
use Rattle.probe.specs.Results.{of_rest}
use Rattle.probe.proofs.ResultLaws.{puts-same, three-counts}
use Rattle.probe.proofs.results.put_values.Goals as goal

pub returns : goal.returns
returns c =
    let e = c.as_flattened.ensures.value ∙ three-counts c.args.values.now _ _ _ c.told-values c.to_le_bytes.ensures c.to_le_bytes-2.ensures c.to_le_bytes-3.ensures in
    puts-same c.args.out.now.items _ _ c.put_rest.new.out.items (ap (λ b. of_rest c.args.first.now c.args.second.now b) e) c.put_rest.ensures
