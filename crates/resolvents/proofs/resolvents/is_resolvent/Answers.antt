-- A clause that the two do not cover is not their resolvent; for any other it is made.
-- Assumes nothing.
use mathlib.Core.Path.{sym, ◌∙◌}
use Rattle.resolvents.proofs.ResolvPending.{not_covered}
use Rattle.resolvents.proofs.resolvents.is_resolvent.Goals as goal

pub returns-then-covered : goal.returns-then-covered
returns-then-covered c = c.merges_to.ensures

pub returns-else-covered : goal.returns-else-covered
returns-else-covered c = λ q g k. c.if-covered.false ∙ sym (not_covered q _ _ _ _ (sym c.covered.ensures ∙ c.if-covered.false))
