-- The loop's invariant: the clauses so far differ, and their stamps are in the filter.
-- Assumes nothing.
use mathlib.Core.Path.{ap}
use lib.ListN.{length}
use Rattle.stamps.proofs.StampLaws.{stamp-length}
use native.Mathlib.Omega.{arith}
use Rattle.table.proofs.HoldLaws.{count-clauses}
use Rattle.judging.proofs.CheckLaws.{apart_none, apart-fails, apart_next, apart-all}
use Rattle.judging.proofs.check.all_differ.Goals as goal

pub loop-i-init : goal.loop-i-init
loop-i-init c = λ φ h. apart_none φ.clauses _

pub is_repeated-requires-clause-held : goal.is_repeated-requires-clause-held
is_repeated-requires-clause-held c = c.requires

pub is_repeated-requires-clause-place : goal.is_repeated-requires-clause-place
is_repeated-requires-clause-place c = c.loop-i-test.true

pub is_repeated-requires-clause-before : goal.is_repeated-requires-clause-before
is_repeated-requires-clause-before c = λ φ h. (c.loop-i.invariant φ h).every

pub returns-then-is_repeated : goal.returns-then-is_repeated
returns-then-is_repeated c = λ φ h. apart-fails φ.clauses c.loop-i.i (omega (arith, count-clauses h, c.loop-i-test.true)) _ (c.is_repeated.ensures.value φ h) c.if-is_repeated.true

pub loop-i-preserved : goal.loop-i-preserved
loop-i-preserved c =
    λ φ h. apart_next φ.clauses c.loop-i.i (omega (arith, count-clauses h, c.loop-i-test.true)) _ (c.is_repeated.ensures.value φ h) c.if-is_repeated.false _ _ (omega (arith, ap length (c.is_repeated.ensures.filter_after φ h), stamp-length)) (c.is_repeated.ensures.filter_after φ h) (c.loop-i.invariant φ h)

pub returns : goal.returns
returns c = λ φ h. apart-all φ.clauses c.loop-i.i _ (c.loop-i.invariant φ h) (omega (arith, count-clauses h, c.loop-i-test.false))
