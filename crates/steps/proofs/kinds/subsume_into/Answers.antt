-- One recipe.
-- Assumes nothing.
use Rattle.rebuilds.proofs.GivenLaws.{begun-held, begun-well}
use Rattle.steps.proofs.MadeLaws.{subsume-made}
use mathlib.Core.Path.{refl}
use Rattle.recipes.specs.Left.{about}
use Rattle.steps.proofs.kinds.subsume_into.Goals as goal

pub rebuild-requires-clause-held : goal.rebuild-requires-clause-held
rebuild-requires-clause-held c = begun-held c.requires

pub rebuild-requires-clause-c_value : goal.rebuild-requires-clause-c_value
rebuild-requires-clause-c_value c = (begun-well c.requires, (unfold about in refl))

pub rebuild-requires-clause-target_value : goal.rebuild-requires-clause-target_value
rebuild-requires-clause-target_value c = c.requires.empty

pub returns : goal.returns
returns c = λ φ g. subsume-made g _ _ (c.rebuild.ensures.built φ g.holds)
