-- The library's selection, counted.
-- Assumes nothing.
use Rattle.std.proofs.Common.{◌∙◌, sym, ap, not, length, rules, tests}
use Rattle.std.proofs.lemmas.Iterator.{YieldsList-from_slice}
use Rattle.std.proofs.lemmas.Iterator.Adapters.{YieldsList-from_skip}
use Rattle.std.proofs.lemmas.Iterator.Consumers.{YieldsList-from_filter, count_from_yields_List}
use Rattle.meaning.specs.Formula.{odd}
use Rattle.meaning.proofs.StdLists.{keep_if-std}
use Rattle.permits.specs.Variables.{existentials}
use Rattle.permits.proofs.ScanLaws.{even}
use Rattle.permits.proofs.variables.count_existentials.Goals as goal

pub returns : goal.returns
unfolding existentials
returns c =
    count_from_yields_List _ _ c.count.ensures.ran
    (YieldsList-from_filter _ (λ q. not (odd q))
    (YieldsList-from_skip c.args.from (YieldsList-from_slice c.args.prefix.now cc) cc)
    c.filter.ensures.closure (λ x b q k. search (rules, tests, even)))
    ∙ ap length (sym (keep_if-std _ _))
