-- By whether an equal clause is there.
-- Assumes nothing.
use mathlib.Core.Path.{sym, ◌∙◌}
use Rattle.table.proofs.AnswerLaws.{add-there, add-new}
use Rattle.table.proofs.clauses.add_clause.Goals as goal

pub returns-then-is_present : goal.returns-then-is_present
returns-then-is_present c = λ φ h. add-there h _ (sym (c.is_present.ensures φ h) ∙ c.if-is_present.true)

pub returns : goal.returns
returns c = λ φ h. add-new h _ _ _ (sym (c.is_present.ensures φ h) ∙ c.if-is_present.false) (c.push_clause.ensures φ h)
