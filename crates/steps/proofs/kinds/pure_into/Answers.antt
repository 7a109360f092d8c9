-- The pure literal becomes true.
-- Assumes nothing.
use Rattle.rules.specs.Step.{permitted}
use Rattle.rebuilds.proofs.GivenLaws.{begun-held}
use Rattle.steps.proofs.MadeLaws.{pure-made}
use Rattle.steps.proofs.kinds.pure_into.Goals as goal

pub pure_literal-literal-requires : goal.pure_literal-literal-requires
pure_literal-literal-requires c = record { held = begun-held c.requires }

pub returns : goal.returns
unfolding permitted
returns c = λ φ g p. pure-made g _ _ (c.pure_literal-literal.ensures φ g.holds g.well g.ranked p) (c.assign_into.ensures φ g)
