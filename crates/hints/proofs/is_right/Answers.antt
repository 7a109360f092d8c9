-- A clause that equals this one is met at the hint.
-- Assumes nothing.
use mathlib.Core.Path.{sym, ap, ◌∙◌}
use mathlib.Core.List.{[]}
use native.Mathlib.Omega.{arith}
use Rattle.meaning.specs.Lists.{same}
use Rattle.table.proofs.HoldLaws.{count-clauses}
use Rattle.table.proofs.LoopLaws.{any_at}
use Rattle.hints.proofs.is_right.Goals as goal

pub returns-then-hint-c-clause-hint_lt_clauses : goal.returns-then-hint-c-clause-hint_lt_clauses
returns-then-hint-c-clause-hint_lt_clauses c = λ e. c.if-hint-c.true

pub returns-then-hint-c-clause-clause_value : goal.returns-then-hint-c-clause-clause_value
returns-then-hint-c-clause-clause_value c = λ φ h e. any_at (same _) [] φ.clauses c.args.hint (omega (arith, count-clauses h, c.if-hint-c.true)) (ap (same _) (sym (c.clause_at.ensures φ h)) ∙ sym c.equal.ensures ∙ e)
