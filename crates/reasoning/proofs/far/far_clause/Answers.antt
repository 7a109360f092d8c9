-- The loop's invariant: the lowest is i, and as many more as come before it in what is left.
-- Assumes nothing.
use native.Mathlib.Omega.{arith}
use Rattle.permits.proofs.PlaceLaws.{entries-of}
use Rattle.reasoning.proofs.FarLaws.{far-start, far-found, far-turn, far-end}
use Rattle.reasoning.proofs.far.far_clause.Goals as goal

pub loop-i-init : goal.loop-i-init
loop-i-init c = λ φ h w e d. far-start _ φ.clauses

pub returns-then-reaches_far : goal.returns-then-reaches_far
returns-then-reaches_far c = λ φ h w e d. far-found h w _ c.loop-i.i _ d (c.loop-i.invariant φ h w e d) (omega arith) _ (c.clause_at.ensures φ h) _ (c.reaches_far.ensures φ.prefix e (entries-of φ w h.fitting)) c.if-reaches_far.true

pub loop-i-preserved : goal.loop-i-preserved
loop-i-preserved c = λ φ h w e d. far-turn h w _ c.loop-i.i _ d (c.loop-i.invariant φ h w e d) (omega arith) _ (c.clause_at.ensures φ h) _ (c.reaches_far.ensures φ.prefix e (entries-of φ w h.fitting)) c.if-reaches_far.false

pub returns : goal.returns
returns c = λ φ h w e d. omega (arith, far-end h w _ c.loop-i.i _ d (c.loop-i.invariant φ h w e d) c.loop-i-test.false)
