-- Tidied; dropped, or added.
-- Assumes nothing.
use Rattle.table.proofs.CloseLaws.{close-both, close-one}
use Rattle.filter.proofs.ApartLaws.{apart-same}
use Rattle.filter.proofs.close_stamped.Goals as goal

pub returns-in-Some-clause-became : goal.returns-in-Some-clause-became
returns-in-Some-clause-became c = λ φ raw h g k d. close-one h raw _ _ (c.tidy_in.ensures.tidied raw φ.prefix d g k) _ c.in-Some.is _ _ (c.add_stamped.ensures.became φ h)

pub returns-in-Some-clause-by_index : goal.returns-in-Some-clause-by_index
returns-in-Some-clause-by_index c = c.add_stamped.ensures.by_index

pub returns-in-None-clause-became : goal.returns-in-None-clause-became
returns-in-None-clause-became c = λ φ raw h g k d. close-both h raw _ _ (c.tidy_in.ensures.tidied raw φ.prefix d g k) c.in-None.is

pub returns-in-None-clause-by_index : goal.returns-in-None-clause-by_index
returns-in-None-clause-by_index c = λ others d k q. apart-same k d q
