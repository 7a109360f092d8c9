-- By whether it is that literal.
-- Assumes nothing.
use Rattle.recipes.proofs.RecipeLaws.{less-same, less_other}
use Rattle.recipes.proofs.recipes.left_of.Goals as goal

pub returns-then-literal-leaving : goal.returns-then-literal-leaving
returns-then-literal-leaving c = less-same _ _ c.if-literal-leaving.true

pub returns : goal.returns
returns c = less_other _ _ c.if-literal-leaving.false
