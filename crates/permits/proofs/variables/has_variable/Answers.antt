-- The library's test of some element.
-- Assumes nothing.
use Rattle.std.proofs.Common.{◌∙◌, sym, eqb, ◌/◌, rules, tests}
use Rattle.std.proofs.lemmas.Iterator.{YieldsList-from_slice}
use Rattle.std.proofs.lemmas.Iterator.Search.{any_from_yields_List}
use Rattle.meaning.specs.Formula.{var, is_var, mentions}
use Rattle.meaning.proofs.StdLists.{any_of-std}
use Rattle.permits.proofs.variables.has_variable.Goals as goal

pub returns : goal.returns
unfolding mentions is_var var
returns c =
    any_from_yields_List (λ l. eqb (l / 2) c.args.v) _ _ _ c.any.ensures.ran (YieldsList-from_slice c.args.list.now cc) (λ x b q k. search (rules, tests))
    ∙ sym (any_of-std _ _)
