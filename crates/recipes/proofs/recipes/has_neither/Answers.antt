-- A literal of the variable is one of the two.
-- Assumes nothing.
use mathlib.Core.Path.{ap, ◌∙◌}
use mathlib.Core.Bool.{not}
use Rattle.recipes.proofs.FreeLaws.{free-of}
use Rattle.recipes.proofs.recipes.has_neither.Goals as goal

pub returns : goal.returns
returns c = ap not c.has_variable.ensures ∙ free-of _ _
