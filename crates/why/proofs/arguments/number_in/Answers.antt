-- The digits one after the other.
-- Assumes nothing.
use native.Mathlib.Omega.{arith}
use Rattle.why.proofs.ArgumentLaws.{rest-first, rest-next, rest-stop, rest-last}
use Rattle.why.proofs.arguments.number_in.Goals as goal

pub loop-b-init : goal.loop-b-init
loop-b-init c = record { rest = rest-first _; below = omega arith }

pub returns-in_err-n-clause-value : goal.returns-in_err-n-clause-value
returns-in_err-n-clause-value c = λ h. rw c.from_residual.ensures (rest-stop c.loop-b.n c.loop-b.b-index _ (omega arith) h c.loop-b.invariant.rest c.in_err-n.ensures.value)

pub loop-b-preserved : goal.loop-b-preserved
loop-b-preserved c = record { rest = rest-next c.loop-b.n c.loop-b.b-index _ _ (omega arith) c.loop-b.invariant.rest c.in_ok-n.ensures.value; below = c.in_ok-n.ensures.below }

pub returns-clause-value : goal.returns-clause-value
returns-clause-value c = λ h. rest-last c.loop-b.n c.loop-b.b-index _ (omega arith) h c.loop-b.invariant.rest
