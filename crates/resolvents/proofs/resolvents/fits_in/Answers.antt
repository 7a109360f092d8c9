-- The library's test of all elements.
-- Assumes nothing.
use Rattle.std.proofs.Common.{◌∙◌, sym, rules}
use Rattle.std.proofs.lemmas.Iterator.{YieldsList-from_slice}
use Rattle.std.proofs.lemmas.Iterator.Search.{all_from_yields_List}
use Rattle.meaning.proofs.StdLists.{all_of-std}
use Rattle.resolvents.specs.Resolvent.{stays_in, fits_in}
use Rattle.resolvents.proofs.resolvents.fits_in.Goals as goal

pub returns : goal.returns
unfolding fits_in
returns c = λ q g k.
    all_from_yields_List (stays_in q c.args.clause.now c.args.out) _ _ _ c.all.ensures.ran (YieldsList-from_slice c.args.x.now cc) (λ x b p r. search rules)
    ∙ sym (all_of-std _ _)
