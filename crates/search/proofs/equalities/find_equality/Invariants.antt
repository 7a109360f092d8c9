-- The loop's invariant: the candidate is among the clauses that are left.
-- Assumes nothing.
use Prim.Native.Nat.{ℕ}
use mathlib.Core.Path.{◌≡◌}
use Rattle.meaning.specs.Formula.{Formula}
use Rattle.table.specs.Table.{Holds}
use Rattle.rules.specs.Entry.{equality}
use Rattle.rules.specs.Choice.{candidate}
use Rattle.index.specs.Index.{Indexes}
use Rattle.search.proofs.CandidateLaws.{candidate_from}
use Rattle.search.proofs.equalities.find_equality.Given as goal

abbrev pub invariant-loop-a : goal.invariant-loop-a
invariant-loop-a l = (φ : Formula) (E : ℕ) → Holds φ l.t l.c → Indexes φ l.index → candidate E φ equality ≡ candidate_from φ equality l.a
