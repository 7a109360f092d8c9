-- The literal of the clause becomes true.
-- Assumes nothing.
use Rattle.rebuilds.proofs.GivenLaws.{begun-held}
use Rattle.steps.proofs.MadeLaws.{unit-made}
use Rattle.steps.proofs.kinds.unit_into.Goals as goal

pub unit_literal-literal-requires : goal.unit_literal-literal-requires
unit_literal-literal-requires c = begun-held c.requires

pub returns : goal.returns
returns c = λ φ g. unit-made g _ _ (c.unit_literal-literal.ensures φ g.holds) (c.assign_into.ensures φ g)
