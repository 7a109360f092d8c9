-- The loop's invariant: the first is among the numbers that are left.
-- Assumes nothing.
use mathlib.Core.Path.{◌≡◌}
use lib.ListN.{drop}
use Rattle.meaning.specs.Formula.{Formula}
use Rattle.rules.specs.Simplify.{equality_permitted}
use Rattle.rules.specs.Choice.{first_b}
use Rattle.table.specs.Table.{Holds}
use Rattle.search.proofs.equalities.first_equal.Given as goal

abbrev pub invariant-loop-b : goal.invariant-loop-b
invariant-loop-b l = (φ : Formula) → Holds φ l.t l.c → first_b (equality_permitted φ l.a) l.a l.among ≡ first_b (equality_permitted φ l.a) l.a (drop l.b-index l.among)
