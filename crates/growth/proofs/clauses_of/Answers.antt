-- By what becomes of the clause.
-- Assumes nothing.
use Rattle.growth.specs.Expanding.{clauses_of}
use Rattle.growth.proofs.clauses_of.Goals as goal

pub returns-in-Stays : goal.returns-in-Stays
unfolding clauses_of
returns-in-Stays c = rw c.in-Stays.is

pub returns-in-Loses : goal.returns-in-Loses
unfolding clauses_of
returns-in-Loses c = rw c.in-Loses.is

pub returns-in-Doubles : goal.returns-in-Doubles
unfolding clauses_of
returns-in-Doubles c = rw c.in-Doubles.is
