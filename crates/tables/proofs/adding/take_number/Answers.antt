-- A literal is put; 0 closes the clause.
-- Assumes nothing.
use Rattle.std.proofs.Common.{rules}
use Rattle.table.proofs.ReadyLaws.{pended-empty}
use Rattle.tables.proofs.adding.take_number.Goals as goal

pub returns-then-x-lt2-clause-ok : goal.returns-then-x-lt2-clause-ok
returns-then-x-lt2-clause-ok g c = record { ready = c.in_ok-counts.ensures.ok; pended = pended-empty _ (search rules) }
