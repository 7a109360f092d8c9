-- One recipe; where the step is permitted there is a literal.
-- Assumes nothing.
use Rattle.rebuilds.proofs.GivenLaws.{begun-held, begun-well}
use Rattle.steps.proofs.MadeLaws.{strengthen-made, strengthen-never}
use mathlib.Core.Path.{refl}
use Rattle.recipes.specs.Left.{about}
use Rattle.steps.proofs.kinds.strengthen_into.Goals as goal

pub strengthening_of-requires : goal.strengthening_of-requires
strengthening_of-requires c = record { held = begun-held c.requires }

pub rebuild-requires-clause-held : goal.rebuild-requires-clause-held
rebuild-requires-clause-held c = begun-held c.requires

pub rebuild-requires-clause-c_value : goal.rebuild-requires-clause-c_value
rebuild-requires-clause-c_value c = (begun-well c.requires, (unfold about in refl))

pub rebuild-requires-clause-target_value : goal.rebuild-requires-clause-target_value
rebuild-requires-clause-target_value c = c.requires.empty

pub returns : goal.returns
returns c = λ φ g p. strengthen-made φ _ _ p _ (c.strengthening_of.ensures φ g.holds g.well g.ranked) g _ _ c.in_ok-l.was c.flip.ensures (c.rebuild.ensures.built φ g.holds)

pub returns-in_err-l : goal.returns-in_err-l
returns-in_err-l c = λ φ g p. strengthen-never φ _ _ p _ (c.strengthening_of.ensures φ g.holds g.well g.ranked) c.in_err-l.was
