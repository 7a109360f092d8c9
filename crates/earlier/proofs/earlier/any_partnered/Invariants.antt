-- The loop's invariant: the numbers that are left decide.
-- Assumes nothing.
use Rattle.earlier.specs.Earlier.{partnered}
use Rattle.earlier.proofs.TriesLaws.{Tries}
use Rattle.earlier.proofs.earlier.any_partnered.Given as goal

abbrev pub invariant-loop-number : goal.invariant-loop-number
invariant-loop-number l = Tries (λ φ. partnered φ l.a l.clause l.turned l.b) l.literal l.d l.at.table.now l.at.counts l.at.ranks.now l.at.index.now l.list l.number-index
