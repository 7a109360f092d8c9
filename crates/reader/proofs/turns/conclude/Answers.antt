-- By the test.
-- Assumes nothing.
use mathlib.Core.Path.{sym, ◌∙◌}
use Rattle.reader.specs.Reading.{concluded}
use Rattle.reader.proofs.turns.conclude.Goals as goal

pub returns-then-is_complete : goal.returns-then-is_complete
unfolding concluded
returns-then-is_complete c = rw (sym c.is_complete.ensures ∙ c.if-is_complete.true)

pub returns : goal.returns
unfolding concluded
returns c = rw (sym c.is_complete.ensures ∙ c.if-is_complete.false)
