-- The stamp is put in, and the clause is looked for among all.
-- Assumes nothing.
use Rattle.filter.proofs.ApartLaws.{apart-stamped}
use Rattle.filter.proofs.add_stamped.Goals as goal

pub returns-clause-became : goal.returns-clause-became
returns-clause-became c = c.add_clause.ensures

pub returns-clause-by_index : goal.returns-clause-by_index
returns-clause-by_index c = λ others d k q. apart-stamped c.requires.held.holds k _ _ _ _ (c.add_clause.ensures _ c.requires.held.holds) d q _ c.stamp.ensures.filter_after
