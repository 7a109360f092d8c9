-- The phases that reading comes to: in a quantifier line the quantifier is 0, for `e`, or 1, for `a`.
-- Assumes nothing.
use Rattle.std.specs.Prelude.{◌≤◌}
use Rattle.qdimacs.specs.declared.Phase.{Phase}
use Rattle.qdimacs.specs.declared.Phase.TheVariants.{AtP, AtCnf, AtM, AtC, Line, Open, Vars, Clause, Full}

abbrev pub right_phase : Phase → Type 0
right_phase AtP = Unit {0}
right_phase AtCnf = Unit {0}
right_phase AtM = Unit {0}
right_phase AtC = Unit {0}
right_phase Line = Unit {0}
right_phase (Open q) = q ≤ 1
right_phase (Vars q) = q ≤ 1
right_phase Clause = Unit {0}
right_phase Full = Unit {0}
