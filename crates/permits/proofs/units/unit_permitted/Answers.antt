-- By the length of the clause.
-- Assumes nothing.
use mathlib.Core.Path.{◌∙◌}
use borrow.Author.Tests.{le-ltb}
use Rattle.permits.proofs.ClauseLaws.{unit-absent, unit-is}
use Rattle.permits.proofs.units.unit_permitted.Goals as goal

pub returns-else-a-c : goal.returns-else-a-c
returns-else-a-c c = λ φ h. le-ltb _ _ c.if-a-c.false ∙ unit-absent h _ c.if-a-c.false

pub returns-then-a-c : goal.returns-then-a-c
returns-then-a-c c = λ φ h. unit-is h _ c.if-a-c.true _ (c.clause_at.ensures φ h)
