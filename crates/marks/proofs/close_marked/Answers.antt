-- Tidied; dropped, or added.
-- Assumes nothing.
use Rattle.marks.proofs.WentLaws.{close-both, close-one}
use Rattle.marks.proofs.close_marked.Goals as goal

pub returns-in-Some : goal.returns-in-Some
returns-in-Some c = λ φ raw h g k d m. close-one h m raw _ _ (c.tidy_in.ensures.tidied raw φ.prefix d g k) _ c.in-Some.is _ _ _ (c.add_marked.ensures φ h m)

pub returns-in-None : goal.returns-in-None
returns-in-None c = λ φ raw h g k d m. close-both h m raw _ _ (c.tidy_in.ensures.tidied raw φ.prefix d g k) c.in-None.is
