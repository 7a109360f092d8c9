-- The loop's invariant: where the first clauses are searched, no pair of clauses before b is permitted.
-- Assumes nothing.
use mathlib.Core.Path.{refl}
use native.Mathlib.Omega.{arith}
use Rattle.rules.specs.Simplify.{subsume_permitted}
use Rattle.meaning.proofs.Basics.{clash}
use Rattle.search.proofs.SearchedLaws.{calm-subsume, calm-turn, subsume-end}
use Rattle.search.proofs.subsumption.none_new.Goals as goal

pub loop-b-init : goal.loop-b-init
loop-b-init c = λ φ h x n q. calm-subsume φ _ q x.well

pub loop-b-preserved : goal.loop-b-preserved
loop-b-preserved c = λ φ h x n q. calm-turn (subsume_permitted φ) c.loop-b.b (c.loop-b.invariant φ h x n q) (c.is_apart.ensures φ h x n c.if-not-is_apart.false)

pub returns-then-not-is_apart : goal.returns-then-not-is_apart
returns-then-not-is_apart c = λ φ E h x n q e. clash e refl

pub returns : goal.returns
returns c = λ φ E h x n q e. subsume-end h c.loop-b.b (omega arith) E (c.loop-b.invariant φ h x n q)
