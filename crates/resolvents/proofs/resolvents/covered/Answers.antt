-- The library's test of all elements.
-- Assumes nothing.
use Rattle.std.proofs.Common.{◌∙◌, sym, ◌||◌, rules}
use Rattle.std.proofs.lemmas.Iterator.{YieldsList-from_slice}
use Rattle.std.proofs.lemmas.Iterator.Search.{all_from_yields_List}
use Rattle.meaning.specs.Lists.{has}
use Rattle.meaning.proofs.StdLists.{all_of-std}
use Rattle.resolvents.specs.Resolvent.{covers}
use Rattle.resolvents.proofs.resolvents.covered.Goals as goal

pub returns : goal.returns
unfolding covers
returns c =
    all_from_yields_List (λ l. has l c.args.x.now || has l c.args.y.now) _ _ _ c.all.ensures.ran (YieldsList-from_slice c.args.clause.now cc) (λ x b q k. search rules)
    ∙ sym (all_of-std _ _)
