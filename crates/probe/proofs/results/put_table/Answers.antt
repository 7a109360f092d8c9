-- One part behind the other.
-- Assumes nothing.
use Prim.Native.Nat.{ℕ}
use mathlib.Core.Path.{ap}
use mathlib.Core.List.{◌++◌}
use lib.ListN.{length, take}
use Rattle.probe.specs.Results.{of_length, of_numbers, of_table}
use Rattle.probe.proofs.ResultLaws.{both, puts-same, reached_is}
use Rattle.probe.proofs.results.put_table.Goals as goal

pub returns : goal.returns
unfolding of_table
returns c =
    let t = c.args.t.now in
    let n = reached_is t c.reach-n.result c.reach-n.ensures.0 c.reach-n.ensures.1 c.reach-n.ensures.2 in
    puts-same c.args.out.now.items _ _ c.put_numbers.new.out.items (ap (λ (k : ℕ). (of_length (length t) ++ of_length k) ++ of_numbers (take k t)) n)
    (both _ _ _ _ _ (both _ _ _ _ _ c.put_length.ensures c.put_length-2.ensures) c.put_numbers.ensures)
