-- By the three limits in their order.
-- Assumes nothing.
use Rattle.reasoning.proofs.LimitLaws.{over-variables, over-clauses, over-literals, over_none}
use Rattle.reasoning.proofs.weights.limit_or.Goals as goal

pub returns-then-numbers-gt-VARIABLES : goal.returns-then-numbers-gt-VARIABLES
returns-then-numbers-gt-VARIABLES c = λ ψ i k. over-variables ψ _ i _ k _ c.if-numbers-gt-VARIABLES.true

pub returns-then-d-gt-CLAUSES : goal.returns-then-d-gt-CLAUSES
returns-then-d-gt-CLAUSES c = λ ψ i k. over-clauses ψ _ i _ k _ c.if-numbers-gt-VARIABLES.false c.if-d-gt-CLAUSES.true

pub returns-then-d-gt-LITERALS : goal.returns-then-d-gt-LITERALS
returns-then-d-gt-LITERALS c = λ ψ i k. over-literals ψ _ i _ k _ c.if-numbers-gt-VARIABLES.false c.if-d-gt-CLAUSES.false c.if-d-gt-LITERALS.true

pub returns : goal.returns
returns c = λ ψ i k. over_none ψ _ i _ k _ c.if-numbers-gt-VARIABLES.false c.if-d-gt-CLAUSES.false c.if-d-gt-LITERALS.false
