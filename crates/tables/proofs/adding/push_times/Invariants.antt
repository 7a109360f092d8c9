-- The loop's invariant: the table holds a formula.
-- Assumes nothing.
use Rattle.table.specs.Table.{Held}
use Rattle.tables.proofs.adding.push_times.Given as goal

abbrev pub invariant-loop : goal.invariant-loop
invariant-loop g l = Held l.t l.counts
