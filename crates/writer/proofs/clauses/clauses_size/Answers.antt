-- The sizes of the lines, added up.
-- Assumes nothing.
use Prim.Native.Nat.{◌+◌}
use native.Mathlib.Omega.{arith}
use Rattle.writer.proofs.ClauseLaws.{counted_start, clause-short, counted-small, counted-turn, counted-done}
use Rattle.writer.proofs.clauses.clauses_size.Goals as goal

pub loop-i-init : goal.loop-i-init
loop-i-init c = λ φ h. counted_start _

pub clause_at-requires-clause-held : goal.clause_at-requires-clause-held
clause_at-requires-clause-held c = c.requires

pub clause_at-requires-clause-i_lt_clauses : goal.clause_at-requires-clause-i_lt_clauses
clause_at-requires-clause-i_lt_clauses c = c.loop-i-test.true

pub clause_size-n-requires : goal.clause_size-n-requires
clause_size-n-requires c = clause-short c.requires.holds c.loop-i.i c.loop-i-test.true _ (c.clause_at.ensures _ c.requires.holds)

pub overflow_add-n : goal.overflow_add-n
overflow_add-n c = let k = counted-small c.requires.holds (c.loop-i.i + 1) _ (counted-turn c.requires.holds c.loop-i.i _ (c.loop-i.invariant _ c.requires.holds) c.loop-i-test.true _ (c.clause_at.ensures _ c.requires.holds) _ c.clause_size-n.ensures) (omega arith) in omega arith

pub loop-i-preserved : goal.loop-i-preserved
loop-i-preserved c = λ φ h. counted-turn h c.loop-i.i _ (c.loop-i.invariant φ h) c.loop-i-test.true _ (c.clause_at.ensures φ h) _ c.clause_size-n.ensures

pub returns : goal.returns
returns c = λ φ h. counted-done h c.loop-i.i _ (c.loop-i.invariant φ h) (omega arith) (omega arith)
