-- The loop's invariant: of the first clauses, those that are left decide whether an equal one is there.
-- Assumes nothing.
use mathlib.Core.Path.{◌≡◌}
use lib.ListN.{take, drop}
use Rattle.table.specs.Table.{Holds}
use Rattle.meaning.specs.Formula.{Formula}
use Rattle.meaning.specs.Lists.{any_of, same}
use Rattle.table.proofs.parts.first_equal.Given as goal

abbrev pub invariant-loop-i : goal.invariant-loop-i
invariant-loop-i l = (φ : Formula) → Holds φ l.t l.c → any_of (same l.clause) (take l.until φ.clauses) ≡ any_of (same l.clause) (drop l.i (take l.until φ.clauses))
