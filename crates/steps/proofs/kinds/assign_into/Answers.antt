-- One recipe.
-- Assumes nothing.
use Rattle.rebuilds.proofs.GivenLaws.{begun-held, begun-well}
use Rattle.recipes.proofs.TurnLaws.{about-flip}
use Rattle.steps.proofs.MadeLaws.{assigned}
use mathlib.Core.Path.{refl}
use Rattle.steps.proofs.kinds.assign_into.Goals as goal

pub rebuild-requires-clause-held : goal.rebuild-requires-clause-held
rebuild-requires-clause-held c = begun-held c.requires

pub rebuild-requires-clause-c_value : goal.rebuild-requires-clause-c_value
rebuild-requires-clause-c_value c = (begun-well c.requires, (about-flip _ _ _ c.flip.ensures refl))

pub rebuild-requires-clause-target_value : goal.rebuild-requires-clause-target_value
rebuild-requires-clause-target_value c = c.requires.empty

pub returns : goal.returns
returns c = λ φ g. assigned g _ _ _ refl c.flip.ensures (c.rebuild.ensures.built φ g.holds)
