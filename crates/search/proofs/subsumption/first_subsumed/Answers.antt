-- The loop's invariant: the first is among the numbers that are left.
-- Assumes nothing.
use mathlib.Core.Path.{refl}
use native.Mathlib.Omega.{arith}
use Rattle.rules.specs.Simplify.{subsume_permitted}
use Rattle.search.proofs.FirstLaws.{b-next, b-found, b_end}
use Rattle.search.proofs.subsumption.first_subsumed.Goals as goal

pub loop-b-init : goal.loop-b-init
loop-b-init c = λ φ h w g. refl

pub overflow_cast-b : goal.overflow_cast-b
overflow_cast-b c = omega (arith, c.type_inv.among c.loop-b.b-index)

pub returns-then-is_subsumed : goal.returns-then-is_subsumed
returns-then-is_subsumed c =
    λ φ h w g. b-found (subsume_permitted φ _) _ _ c.loop-b.b-index (c.loop-b.invariant φ h w g) (omega arith) _
    (c.is_subsumed.ensures φ h w g) c.if-is_subsumed.true

pub loop-b-preserved : goal.loop-b-preserved
loop-b-preserved c =
    λ φ h w g. b-next (subsume_permitted φ _) _ _ c.loop-b.b-index (c.loop-b.invariant φ h w g) (omega arith) _
    (c.is_subsumed.ensures φ h w g) c.if-is_subsumed.false

pub returns : goal.returns
returns c = λ φ h w g. b_end (subsume_permitted φ _) _ _ c.loop-b.b-index (c.loop-b.invariant φ h w g) (omega arith)
