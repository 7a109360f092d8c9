-- One recipe.
-- Assumes nothing.
use mathlib.Core.Path.{refl}
use Rattle.rules.specs.Step.{permitted}
use Rattle.rebuilds.proofs.GivenLaws.{begun-held, begun-well}
use Rattle.recipes.proofs.TurnLaws.{about-old}
use Rattle.steps.proofs.MadeLaws.{equality-made}
use Rattle.steps.proofs.kinds.equality_into.Goals as goal

pub replacement_of-swap-requires : goal.replacement_of-swap-requires
replacement_of-swap-requires c = record { held = begun-held c.requires }

pub rebuild-requires-clause-held : goal.rebuild-requires-clause-held
rebuild-requires-clause-held c = begun-held c.requires

pub rebuild-requires-clause-c_value : goal.rebuild-requires-clause-c_value
rebuild-requires-clause-c_value c = (begun-well c.requires, (about-old _ _ _ refl))

pub rebuild-requires-clause-target_value : goal.rebuild-requires-clause-target_value
rebuild-requires-clause-target_value c = c.requires.empty

pub returns : goal.returns
unfolding permitted
returns c = λ φ g p. equality-made g _ _ p _ (c.replacement_of-swap.ensures φ g.holds g.well g.ranked _ p) _ refl (c.rebuild.ensures.built φ g.holds)
