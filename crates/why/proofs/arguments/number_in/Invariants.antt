-- The number so far and the digits that are left.
-- Assumes nothing.
use Prim.Native.Nat.{◌<◌}
use Rattle.why.specs.Arguments.{bad}
use Rattle.why.proofs.ArgumentLaws.{Rest}
use Rattle.why.proofs.arguments.number_in.Given as goal

abbrev pub invariant-loop-b : goal.invariant-loop-b
invariant-loop-b l = record { rest : Rest l.n l.b-index l.digits; below : l.n < bad }
