-- The loop's invariant: the candidate is among the variables that are left.
-- Assumes nothing.
use Prim.Native.Nat.{ℕ}
use mathlib.Core.Path.{◌≡◌}
use Rattle.meaning.specs.Formula.{Formula}
use Rattle.table.specs.Table.{Holds}
use Rattle.rules.specs.Entry.{pure}
use Rattle.rules.specs.Choice.{candidate}
use Rattle.index.specs.Build.{Tallies}
use Rattle.search.proofs.CandidateLaws.{candidate_from}
use Rattle.search.proofs.pures.find_pure.Given as goal

abbrev pub invariant-loop-i : goal.invariant-loop-i
invariant-loop-i l = (φ : Formula) (E : ℕ) → Holds φ l.t l.fn.c → Tallies φ l.tally → candidate E φ pure ≡ candidate_from φ pure l.i
