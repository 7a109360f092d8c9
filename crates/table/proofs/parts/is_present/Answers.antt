-- The first clauses, as many as there are, are all.
-- Assumes nothing.
use mathlib.Core.Path.{ap, ◌∙◌}
use Rattle.meaning.specs.Lists.{any_of, same}
use Rattle.table.proofs.HoldLaws.{clauses-all}
use Rattle.table.proofs.parts.is_present.Goals as goal

pub returns : goal.returns
returns c = λ φ h. c.is_before.ensures φ h ∙ ap (any_of (same _)) (clauses-all h)
