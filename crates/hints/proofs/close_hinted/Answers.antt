-- Tidied; dropped, or added.
-- Assumes nothing.
use Rattle.table.proofs.CloseLaws.{close-both, close-one}
use Rattle.hints.proofs.close_hinted.Goals as goal

pub returns-in-Some : goal.returns-in-Some
returns-in-Some c = λ φ raw h g k d. close-one h raw _ _ (c.tidy_in.ensures.tidied raw φ.prefix d g k) _ c.in-Some.is _ _ (c.add_hinted.ensures φ h)

pub returns-in-None : goal.returns-in-None
returns-in-None c = λ φ raw h g k d. close-both h raw _ _ (c.tidy_in.ensures.tidied raw φ.prefix d g k) c.in-None.is
