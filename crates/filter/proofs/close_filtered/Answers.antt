-- Tidied; dropped, or added.
-- Assumes nothing.
use Rattle.table.proofs.CloseLaws.{close-both, close-one}
use Rattle.filter.proofs.FilterLaws.{covers-same}
use Rattle.filter.proofs.close_filtered.Goals as goal

pub returns-in-Some-clause-became : goal.returns-in-Some-clause-became
returns-in-Some-clause-became c = λ φ raw h g k d. close-one h raw _ _ (c.tidy_in.ensures.tidied raw φ.prefix d g k) _ c.in-Some.is _ _ (c.add_filtered.ensures.became φ h)

pub returns-in-Some-clause-covers_2 : goal.returns-in-Some-clause-covers_2
returns-in-Some-clause-covers_2 c = c.add_filtered.ensures.covers_2

pub returns-in-None-clause-became : goal.returns-in-None-clause-became
returns-in-None-clause-became c = λ φ raw h g k d. close-both h raw _ _ (c.tidy_in.ensures.tidied raw φ.prefix d g k) c.in-None.is

pub returns-in-None-clause-covers_2 : goal.returns-in-None-clause-covers_2
returns-in-None-clause-covers_2 c = covers-same c.requires.covers
