-- By whether there is a literal.
-- Assumes nothing.
use mathlib.Core.Path.{ap, ◌∙◌}
use Rattle.std.specs.Prelude.{is_some}
use Rattle.steps.proofs.DecideLaws.{strengthen-some}
use Rattle.steps.proofs.deciding.strengthen_permitted.Goals as goal

pub returns : goal.returns
returns c = λ φ g. c.is_some.ensures ∙ ap is_some (c.strengthening_of.ensures φ g.holds g.well g.ranked) ∙ strengthen-some φ _ _
