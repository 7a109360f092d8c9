-- The loop's invariant: the numbers that are left decide.
-- Assumes nothing.
use Rattle.earlier.specs.Earlier.{makes_with}
use Rattle.earlier.proofs.TriesLaws.{Tries}
use Rattle.earlier.proofs.earlier.any_made_with.Given as goal

abbrev pub invariant-loop-number : goal.invariant-loop-number
invariant-loop-number l = Tries (λ φ. makes_with φ l.a l.clause l.turned l.z) l.literal l.b l.at.table.now l.at.counts l.at.ranks.now l.at.index.now l.list l.number-index
