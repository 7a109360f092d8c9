-- By what becomes of the clause.
-- Assumes nothing.
use Rattle.growth.specs.Expanding.{literals_of}
use Rattle.growth.proofs.literals_of.Goals as goal

pub returns-in-Stays : goal.returns-in-Stays
unfolding literals_of
returns-in-Stays c = rw c.in-Stays.is

pub returns-in-Loses : goal.returns-in-Loses
unfolding literals_of
returns-in-Loses c = rw (c.in-Loses.is, c.saturating_sub.ensures)

pub returns-in-Doubles : goal.returns-in-Doubles
unfolding literals_of
returns-in-Doubles c = rw c.in-Doubles.is
