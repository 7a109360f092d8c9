-- The loop's invariant: the first is among the numbers that are left.
-- Assumes nothing.
use mathlib.Core.Path.{◌≡◌}
use mathlib.Core.Bool.{true}
use lib.ListN.{drop}
use Rattle.meaning.specs.Formula.{Formula}
use Rattle.meaning.specs.WellFormed.{well_formed}
use Rattle.table.specs.Table.{Holds}
use Rattle.rules.specs.Simplify.{subsume_permitted}
use Rattle.rules.specs.Choice.{first_b}
use Rattle.search.specs.Candidates.{Signed}
use Rattle.search.proofs.subsumption.first_subsumed.Given as goal

abbrev pub invariant-loop-b : goal.invariant-loop-b
invariant-loop-b l = (φ : Formula) → Holds φ l.t l.c → well_formed φ ≡ true → Signed φ l.signs l.sign l.x l.a
    → first_b (subsume_permitted φ l.a) l.a l.among ≡ first_b (subsume_permitted φ l.a) l.a (drop l.b-index l.among)
