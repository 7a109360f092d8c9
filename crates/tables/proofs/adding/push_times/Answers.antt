-- The loop's invariant: the table holds a formula.
-- Assumes nothing.
use Rattle.table.proofs.ReadyLaws.{held-done, held-full}
use Rattle.tables.proofs.adding.push_times.Goals as goal

pub loop-preserved : goal.loop-preserved
loop-preserved g c = held-done c.loop.invariant _ _ _ _ (c.push_clause.ensures c.loop.invariant.formula c.loop.invariant.holds) _ c.in-Some.is

pub returns-in-None-clause-ok : goal.returns-in-None-clause-ok
returns-in-None-clause-ok g c = held-full c.loop.invariant _ _ _ _ (c.push_clause.ensures c.loop.invariant.formula c.loop.invariant.holds) c.in-None.is
