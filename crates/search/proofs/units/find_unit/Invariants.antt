-- The loop's invariant: the candidate is among the clauses that are left.
-- Assumes nothing.
use Prim.Native.Nat.{ℕ}
use mathlib.Core.Path.{◌≡◌}
use Rattle.meaning.specs.Formula.{Formula}
use Rattle.table.specs.Table.{Holds}
use Rattle.rules.specs.Entry.{unit}
use Rattle.rules.specs.Choice.{candidate}
use Rattle.search.proofs.CandidateLaws.{candidate_from}
use Rattle.search.proofs.units.find_unit.Given as goal

abbrev pub invariant-loop-a : goal.invariant-loop-a
invariant-loop-a l = (φ : Formula) (E : ℕ) → Holds φ l.t l.c → candidate E φ unit ≡ candidate_from φ unit l.a
