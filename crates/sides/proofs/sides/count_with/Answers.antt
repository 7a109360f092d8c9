-- Assumes nothing.
use Rattle.sides.proofs.FileLaws.{listed-count}
use Rattle.sides.proofs.sides.count_with.Goals as goal

pub returns : goal.returns
returns c = λ φ h. listed-count φ.clauses _ _ (c.clauses_with.ensures φ h)
