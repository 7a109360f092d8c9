-- The target is zeroed, the step tried, and one of the two tables zeroed after it.
-- Assumes nothing.
use mathlib.Core.Path.{◌∙◌}
use Rattle.table.proofs.HoldLaws.{bounds}
use Rattle.apply.proofs.StartLaws.{kept-held}
use Rattle.apply.proofs.StepLaws.{applied}
use Rattle.apply.proofs.between.step_between.Goals as goal

pub settle-requires : goal.settle-requires
settle-requires c = ((bounds (kept-held c.requires.0)).table, c.attempt-r.auto.target ∙ c.zero.auto.t ∙ c.requires.1)

pub returns : goal.returns
returns c = λ φ h w. applied φ _ _ _ _ _ _ _ h.table (c.attempt-r.ensures φ h w) c.settle.ensures
