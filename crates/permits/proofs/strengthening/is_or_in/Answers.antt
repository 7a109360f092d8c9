-- By the test.
-- Assumes nothing.
use mathlib.Core.Path.{◌∙◌}
use Rattle.meaning.proofs.Basics.{eqb-eq}
use Rattle.permits.proofs.StrengthenLaws.{or_same, or-in}
use Rattle.permits.proofs.strengthening.is_or_in.Goals as goal

pub returns-then-l-k : goal.returns-then-l-k
returns-then-l-k c = eqb-eq c.if-l-k.true ∙ or_same _ _ _ c.if-l-k.true

pub returns-else-l-k : goal.returns-else-l-k
returns-else-l-k c = or-in _ _ _ _ c.if-l-k.false c.contains.ensures
