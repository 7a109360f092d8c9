-- The loop's invariant: the flags so far and the clauses that are left make the whole.
-- Assumes nothing.
use mathlib.Core.List.{[]}
use native.Mathlib.Omega.{arith}
use Rattle.table.proofs.HoldLaws.{count-clauses}
use Rattle.thinning.specs.Others.{met_if}
use Rattle.thinning.proofs.ReadLaws.{fold_last, clause-small, fold_next}
use Rattle.thinning.proofs.others.flag_met.Goals as goal

pub raise_if-requires : goal.raise_if-requires
raise_if-requires c = clause-small c.requires.readable c.loop-i.i c.loop-i-test.true _ c.clause_at.ensures

pub loop-i-preserved : goal.loop-i-preserved
loop-i-preserved c = (omega (arith, c.loop-i-test.true), λ φ h. fold_next (met_if _) [] φ.clauses c.loop-i.i c.loop-i.words (c.loop-i.invariant.1 φ h) (omega (arith, c.loop-i-test.true, count-clauses h)) _ (c.clause_at.ensures φ h) _ c.raise_if.ensures)

pub returns : goal.returns
returns c = λ φ h. fold_last (met_if _) φ.clauses c.loop-i.i c.loop-i.words (c.loop-i.invariant.1 φ h) (omega (arith, c.loop-i-test.false, count-clauses h))
