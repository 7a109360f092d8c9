-- The loop's invariant: the candidate is among the clauses that are left.
-- Assumes nothing.
use Prim.Native.Nat.{ℕ}
use mathlib.Core.Path.{◌≡◌}
use Rattle.meaning.specs.Formula.{Formula}
use Rattle.rules.specs.Entry.{strengthen}
use Rattle.rules.specs.Choice.{candidate}
use Rattle.index.specs.AtHand.{InHand}
use Rattle.search.proofs.CandidateLaws.{candidate_from}
use Rattle.search.proofs.strengthening.search_all.Given as goal

abbrev pub invariant-loop-a : goal.invariant-loop-a
invariant-loop-a l = (φ : Formula) (E : ℕ) → InHand φ l.at → candidate E φ strengthen ≡ candidate_from φ strengthen l.a
