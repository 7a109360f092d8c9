-- The lines, one after the other.
-- Assumes nothing.
use native.Mathlib.Omega.{arith}
use Rattle.lines.proofs.Writing.{going_start}
use Rattle.writer.proofs.ClauseLaws.{lines-room, lines-turn, lines-done}
use Rattle.writer.proofs.clauses.write_clauses.Goals as goal

pub loop-i-init : goal.loop-i-init
loop-i-init c = λ φ h. going_start _ _ _

pub clause_at-requires-clause-held : goal.clause_at-requires-clause-held
clause_at-requires-clause-held c = c.requires.held

pub clause_at-requires-clause-i_lt_clauses : goal.clause_at-requires-clause-i_lt_clauses
clause_at-requires-clause-i_lt_clauses c = c.loop-i-test.true

pub write_clause-at-requires : goal.write_clause-at-requires
write_clause-at-requires c = lines-room c.requires.held.holds c.loop-i.i (c.loop-i.invariant _ c.requires.held.holds) c.loop-i-test.true _ (c.clause_at.ensures _ c.requires.held.holds) (c.requires.room _ c.requires.held.holds)

pub loop-i-preserved : goal.loop-i-preserved
loop-i-preserved c = λ φ h. lines-turn h c.loop-i.i (c.loop-i.invariant φ h) c.loop-i-test.true _ (c.clause_at.ensures φ h) c.write_clause-at.ensures

pub returns : goal.returns
returns c = λ φ h. lines-done h c.loop-i.i (c.loop-i.invariant φ h) (omega arith)
