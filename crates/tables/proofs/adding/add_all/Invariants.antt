-- The loop's invariant: the table stays ready, and the scratch holds a raw clause.
-- Assumes nothing.
use Rattle.tables.specs.Going.{Going}
use Rattle.tables.proofs.adding.add_all.Given as goal

abbrev pub invariant-loop-x : goal.invariant-loop-x
invariant-loop-x g l = Going l.t l.ranks l.scratch l.s
