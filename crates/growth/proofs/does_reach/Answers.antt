-- The library's test of some element.
-- Assumes nothing.
use Rattle.std.proofs.Common.{◌∙◌, sym, rules}
use Rattle.std.proofs.lemmas.Iterator.{YieldsList-from_slice}
use Rattle.std.proofs.lemmas.Iterator.Search.{any_from_yields_List}
use Rattle.meaning.proofs.StdLists.{any_of-std}
use Rattle.growth.specs.Expanding.{inner_lit, reaches}
use Rattle.growth.proofs.does_reach.Goals as goal

pub returns : goal.returns
unfolding reaches
returns c = λ p e g.
    any_from_yields_List (inner_lit p c.args.n) _ _ _ c.any.ensures.ran (YieldsList-from_slice c.args.clause.now cc) (λ x b q k. search rules)
    ∙ sym (any_of-std _ _)
