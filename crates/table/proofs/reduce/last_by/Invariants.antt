-- The loop's invariant: the place so far and what is left make the whole.
-- Assumes nothing.
use mathlib.Core.Path.{◌≡◌}
use lib.ListN.{drop}
use Rattle.table.specs.Ranks.{last_by}
use Rattle.table.proofs.reduce.last_by.Given as goal

abbrev pub invariant-loop-literal : goal.invariant-loop-literal
invariant-loop-literal l = last_by l.ranks l.last (drop l.literal-index l.clause) ≡ last_by l.ranks l.fn.first l.clause
