-- What is left after a few entries, each by the library's chain.
-- Assumes nothing.
use Rattle.std.proofs.Common.{◌∙◌, sym, not, rules, tests}
use Rattle.std.proofs.lemmas.Iterator.{YieldsList-from_slice}
use Rattle.std.proofs.lemmas.Iterator.Adapters.{YieldsList-from_skip}
use Rattle.std.proofs.lemmas.Iterator.Search.{all_from_yields_List}
use Rattle.meaning.specs.Formula.{odd}
use Rattle.meaning.proofs.StdLists.{all_of-std}
use Rattle.rules.specs.Eliminate.{all_exist}
use Rattle.permits.proofs.ScanLaws.{even}
use Rattle.permits.proofs.expansion.all_exist.Goals as goal

pub returns : goal.returns
unfolding all_exist
returns c =
    all_from_yields_List (λ q. not (odd q)) _ _ _ c.all.ensures.ran
    (YieldsList-from_skip c.args.from (YieldsList-from_slice c.args.prefix.now cc) cc)
    (λ x b q k. search (rules, tests, even))
    ∙ sym (all_of-std _ _)
