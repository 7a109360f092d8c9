-- The closure is the test of the definition.
-- Assumes nothing.
use Rattle.std.proofs.lemmas.Iterator.{YieldsList-from_slice}
use Rattle.std.proofs.lemmas.Iterator.Search.{any_from_yields_List}
use Rattle.std.proofs.Common.{◌∙◌, sym, ap, rules, tests}
use Rattle.meaning.specs.Lists.{any_of}
use Rattle.meaning.proofs.StdLists.{any_of-std}
use Rattle.rules.specs.Simplify.{subsume_permitted}
use Rattle.search.proofs.subsumption.any_part.Goals as goal

pub returns : goal.returns
returns c =
    λ φ h x at_b. let w = x.well in
    any_from_yields_List (λ a. subsume_permitted φ a c.args.b) _ _ _ c.any.ensures.ran
    (YieldsList-from_slice c.clauses_with.result.now cc) (λ a b q k. search (rules, tests))
    ∙ sym (any_of-std _ _)
    ∙ ap (any_of (λ a. subsume_permitted φ a c.args.b)) (c.clauses_with.ensures φ x)
