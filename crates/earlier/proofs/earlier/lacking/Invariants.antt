-- The loop's invariant: the literals that are left decide.
-- Assumes nothing.
use mathlib.Core.Path.{◌≡◌}
use lib.ListN.{drop}
use Rattle.earlier.specs.Earlier.{lacking_of}
use Rattle.earlier.proofs.earlier.lacking.Given as goal

abbrev pub invariant-loop-literal : goal.invariant-loop-literal
invariant-loop-literal l = lacking_of l.z l.other l.clause ≡ lacking_of l.z l.other (drop l.literal-index l.clause)
