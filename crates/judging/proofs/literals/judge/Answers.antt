-- By whether the table is good.
-- Assumes nothing.
use mathlib.Core.Path.{sym, ◌∙◌}
use Rattle.judging.proofs.LiteralLaws.{judged-good, judged-bad}
use Rattle.judging.proofs.literals.judge.Goals as goal

pub returns-then-well_formed : goal.returns-then-well_formed
returns-then-well_formed c = judged-good _ _ (sym c.well_formed-2.ensures ∙ c.if-well_formed.true)

pub returns-else-well_formed : goal.returns-else-well_formed
returns-else-well_formed c = judged-bad _ _ (sym c.well_formed-2.ensures ∙ c.if-well_formed.false)
