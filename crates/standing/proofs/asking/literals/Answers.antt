-- The part is that of the table that the record names.
-- Assumes nothing.
use Rattle.standing.proofs.asking.literals.Goals as goal

pub returns : goal.returns
returns c = c.literals_part.ensures
