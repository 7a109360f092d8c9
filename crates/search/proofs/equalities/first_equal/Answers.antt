-- The loop's invariant: the first is among the numbers that are left.
-- Assumes nothing.
use mathlib.Core.Path.{refl}
use native.Mathlib.Omega.{arith}
use Rattle.rules.specs.Simplify.{equality_permitted}
use Rattle.search.proofs.FirstLaws.{b-next, b-found, b_end}
use Rattle.search.proofs.equalities.first_equal.Goals as goal

pub loop-b-init : goal.loop-b-init
loop-b-init c = λ φ h. refl

pub overflow_cast-b : goal.overflow_cast-b
overflow_cast-b c = omega (arith, c.type_inv.among c.loop-b.b-index)

pub returns-then-equality_permitted : goal.returns-then-equality_permitted
returns-then-equality_permitted c =
    λ φ h. b-found (equality_permitted φ _) _ _ c.loop-b.b-index (c.loop-b.invariant φ h) (omega arith) _
    (c.equality_permitted.ensures φ h) c.if-equality_permitted.true

pub loop-b-preserved : goal.loop-b-preserved
loop-b-preserved c =
    λ φ h. b-next (equality_permitted φ _) _ _ c.loop-b.b-index (c.loop-b.invariant φ h) (omega arith) _
    (c.equality_permitted.ensures φ h) c.if-equality_permitted.false

pub returns : goal.returns
returns c = λ φ h. b_end (equality_permitted φ _) _ _ c.loop-b.b-index (c.loop-b.invariant φ h) (omega arith)
