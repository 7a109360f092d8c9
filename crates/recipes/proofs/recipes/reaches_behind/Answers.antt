-- Where the clause is not within the place.
-- Assumes nothing.
use mathlib.Core.Path.{ap, ◌∙◌}
use mathlib.Core.Bool.{not}
use Rattle.recipes.proofs.RecipeLaws.{reaches-not}
use Rattle.recipes.proofs.recipes.reaches_behind.Goals as goal

pub returns : goal.returns
returns c = λ q r. ap not (c.is_within.ensures q r.ranked r.good) ∙ reaches-not q _ _
