-- By the limits, one after the other.
-- Assumes nothing.
use Rattle.std.proofs.Common.{arith}
use Rattle.std.proofs.lemmas.Bool.Decides.{nat_tests}
use Rattle.growth.specs.Expanding.{counts_fit}
use Rattle.growth.proofs.counts_fit.Goals as goal
use Rattle.growth.proofs.counts_fit.Goals.{then-d-lt-VARIABLES, else-d-lt-VARIABLES}

pub returns-then-d-le-CLAUSES : goal.returns-then-d-le-CLAUSES
unfolding counts_fit
returns-then-d-le-CLAUSES c = elim c.if-d-lt-VARIABLES.branch [ then-d-lt-VARIABLES w ↦ grind (arith, nat_tests) | else-d-lt-VARIABLES w ↦ grind (arith, nat_tests) ]

pub returns-else-d-le-CLAUSES : goal.returns-else-d-le-CLAUSES
unfolding counts_fit
returns-else-d-le-CLAUSES c = elim c.if-d-lt-VARIABLES.branch [ then-d-lt-VARIABLES w ↦ grind (arith, nat_tests) | else-d-lt-VARIABLES w ↦ grind (arith, nat_tests) ]
