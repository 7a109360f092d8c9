-- The literals of both clauses but the variable's are merged, and tidied.
-- Assumes nothing.
use mathlib.Core.Path.{refl}
use Rattle.resolvents.proofs.ResolvPending.{pair-pends}
use Rattle.resolvents.proofs.resolvents.resolve_pair.Goals as goal

pub returns-clause-within : goal.returns-clause-within
returns-clause-within c = c.tidy_in.ensures.within

pub returns-clause-tidied : goal.returns-clause-tidied
returns-clause-tidied c = λ q g k. c.tidy_in.ensures.tidied _ q (pair-pends _ _ _ _ _ _ refl c.merge_in-p.ensures) g k
