-- What `all` answers is the definition's.
-- Assumes nothing.
use Rattle.std.proofs.Common.{◌∙◌, sym, rules, tests}
use Rattle.std.proofs.lemmas.Iterator.{YieldsList-from_slice}
use Rattle.std.proofs.lemmas.Iterator.Search.{all_from_yields_List}
use Rattle.meaning.proofs.StdLists.{all_of-std}
use Rattle.judging.specs.Layout.{ranked}
use Rattle.judging.proofs.check.all_ranked.Goals as goal

pub returns : goal.returns
returns c = all_from_yields_List (ranked c.args.ranks.now) _ _ _ c.all.ensures.ran (YieldsList-from_slice c.args.clause.now cc) (λ x b q k. search (rules, tests)) ∙ sym (all_of-std _ _)
