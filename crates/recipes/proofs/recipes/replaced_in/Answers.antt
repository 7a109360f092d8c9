-- By which literal it is.
-- Assumes nothing.
use Rattle.recipes.proofs.RecipeLaws.{replace-old, replace-opposite, replace-other}
use Rattle.recipes.proofs.recipes.replaced_in.Goals as goal

pub returns-then-literal-old : goal.returns-then-literal-old
returns-then-literal-old c = replace-old _ _ _ c.if-literal-old.true

pub returns-then-literal-flip : goal.returns-then-literal-flip
returns-then-literal-flip c = replace-opposite _ _ _ _ _ c.if-literal-old.false c.flip.ensures c.if-literal-flip.true c.flip-then-literal-flip.ensures

pub returns : goal.returns
returns c = replace-other _ _ _ _ c.if-literal-old.false c.flip.ensures c.if-literal-flip.false
