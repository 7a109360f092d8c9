-- What `all` answers is the definition's.
-- Assumes nothing.
use Rattle.std.proofs.Common.{◌∙◌, sym, rules, tests}
use Rattle.std.proofs.lemmas.Iterator.{YieldsList-from_slice}
use Rattle.std.proofs.lemmas.Iterator.Search.{all_from_yields_List}
use lib.Dec.{eqb}
use Rattle.meaning.proofs.StdLists.{all_of-std}
use Rattle.judging.specs.Layout.{all_zero}
use Rattle.judging.proofs.layout.all_zero.Goals as goal

pub returns : goal.returns
unfolding all_zero
returns c = all_from_yields_List (λ x. eqb x 0) _ _ _ c.all.ensures.ran (YieldsList-from_slice c.args.s.now cc) (λ x b q k. search (rules, tests)) ∙ sym (all_of-std _ _)
