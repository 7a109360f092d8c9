use Rattle.std.proofs.Common.{◌∙◌, sym, rules, tests}
use Rattle.std.proofs.lemmas.Iterator.{YieldsList-from_slice}
use Rattle.std.proofs.lemmas.Iterator.Search.{all_from_yields_List}
use Rattle.meaning.specs.Lists.{has, part_of}
use Rattle.meaning.proofs.StdLists.{all_of-std}
use Rattle.table.proofs.tests.part_of.Goals as goal

pub returns : goal.returns
unfolding part_of
returns c = all_from_yields_List (λ l. has l c.args.b.now) _ _ _ c.all.ensures.ran (YieldsList-from_slice c.args.a.now cc) (λ x b q k. search (rules, tests)) ∙ sym (all_of-std _ _)
