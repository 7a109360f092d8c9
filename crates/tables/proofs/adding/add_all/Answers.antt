-- The loop's invariant: the table stays ready, and the scratch holds a raw clause.
-- Assumes nothing.
use Rattle.std.proofs.Common.{rules}
use Rattle.table.proofs.ReadyLaws.{pended-empty}
use Rattle.tables.proofs.adding.add_all.Goals as goal

pub loop-x-init : goal.loop-x-init
loop-x-init g c = record { ready = c.requires; pended = pended-empty _ (search rules) }
