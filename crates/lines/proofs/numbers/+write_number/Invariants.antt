-- The measure is the number.
-- Assumes nothing.
use Rattle.lines.proofs.numbers.+write_number.Given as goal

abbrev pub decreases-write_number : goal.decreases-write_number
decreases-write_number l = l.n
