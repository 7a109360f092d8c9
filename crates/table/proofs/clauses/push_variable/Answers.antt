-- One entry behind the prefix.
-- Assumes nothing.
use native.Mathlib.Omega.{arith}
use Rattle.table.proofs.HoldLaws.{bounds}
use Rattle.table.proofs.AnswerLaws.{full-variables, full-number, done-variable}
use Rattle.table.proofs.clauses.push_variable.Goals.{then-at-ge-VARIABLES-via-then-at-ge-VARIABLES, then-at-ge-VARIABLES-via-else-at-ge-VARIABLES+then-entry-gt2047}
use Rattle.table.proofs.clauses.push_variable.Goals as goal

pub returns-then-at-ge-VARIABLES : goal.returns-then-at-ge-VARIABLES
returns-then-at-ge-VARIABLES c = λ φ h. elim c.then-at-ge-VARIABLES.branch [
  | then-at-ge-VARIABLES-via-then-at-ge-VARIABLES w ↦ full-variables h _ w.if-at-ge-VARIABLES.true
  | then-at-ge-VARIABLES-via-else-at-ge-VARIABLES+then-entry-gt2047 w ↦ full-number h _ w.if-entry-gt2047.true
]

pub bounds-t-at : goal.bounds-t-at
bounds-t-at c = let b = bounds c.requires in omega arith

pub returns : goal.returns
returns c = λ φ h. done-variable h _ _ c.if-at-ge-VARIABLES.false c.if-entry-gt2047.false c.with_variable.ensures
