-- By the places, then by the literal.
-- Assumes nothing.
use mathlib.Core.Path.{◌∙◌}
use Rattle.recipes.proofs.RecipeLaws.{far-both, far-near}
use Rattle.recipes.proofs.recipes.is_far.Goals as goal

pub returns-then-reaches_behind : goal.returns-then-reaches_behind
returns-then-reaches_behind c = λ q r. far-both _ _ _ _ (c.reaches_behind.ensures q r) c.if-reaches_behind.true c.contains.ensures

pub returns-else-reaches_behind : goal.returns-else-reaches_behind
returns-else-reaches_behind c = λ q r. c.if-reaches_behind.false ∙ far-near _ _ _ (c.reaches_behind.ensures q r) c.if-reaches_behind.false
