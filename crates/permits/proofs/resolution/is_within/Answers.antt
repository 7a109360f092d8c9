-- Each literal's variable by its place.
-- Assumes nothing.
use Rattle.std.proofs.Common.{◌∙◌, sym, rules, tests}
use Rattle.std.proofs.lemmas.Iterator.{YieldsList-from_slice}
use Rattle.std.proofs.lemmas.Iterator.Search.{all_from_yields_List}
use lib.Dec.{leb}
use Rattle.meaning.specs.Formula.{var}
use Rattle.meaning.proofs.StdLists.{all_of-std}
use Rattle.permits.specs.Places.{place_of, within}
use Rattle.permits.proofs.resolution.is_within.Goals as goal

pub returns : goal.returns
unfolding within var
returns c = λ p e g. all_from_yields_List (λ l. leb (place_of p (var l)) c.args.n) _ _ _ c.all.ensures.ran (YieldsList-from_slice c.args.clause.now cc) (λ x b q k. search (rules, tests)) ∙ sym (all_of-std _ _)
