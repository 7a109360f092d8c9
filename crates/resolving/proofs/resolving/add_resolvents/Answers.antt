-- The clauses with the negative literal are within the part that was found.
-- Assumes nothing.
use Rattle.resolving.proofs.PairLaws.{within_of}
use Rattle.resolving.proofs.resolving.add_resolvents.Goals as goal

pub add_by_positive-requires-clause-within : goal.add_by_positive-requires-clause-within
add_by_positive-requires-clause-within c = within_of c.requires.held.holds c.requires.c_value.0 _ _ _ _ c.requires.c_value.1 c.end_with-to.ensures.lower_bound.0 c.end_with-to.ensures.lower_bound.1 c.first_with-from.ensures.f_value c.end_with-to.ensures.result_value
