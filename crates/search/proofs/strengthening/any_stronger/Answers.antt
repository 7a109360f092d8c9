-- The closure is the test of the definition.
-- Assumes nothing.
use Rattle.std.proofs.lemmas.Iterator.{YieldsList-from_slice}
use Rattle.std.proofs.lemmas.Iterator.Search.{any_from_yields_List}
use Rattle.std.proofs.Common.{◌∙◌, sym, ap, rules, tests}
use Rattle.meaning.specs.Lists.{any_of}
use Rattle.meaning.proofs.StdLists.{any_of-std}
use Rattle.rules.specs.Simplify.{strengthen_permitted}
use Rattle.index.proofs.ReadLaws.{studied-indexes, study-indexed, study-in}
use Rattle.search.proofs.strengthening.any_stronger.Goals as goal

pub clauses_of-requires : goal.clauses_of-requires
clauses_of-requires c = study-indexed (study-in c.args.at.now.studied)

pub returns : goal.returns
returns c =
    λ φ s at_b. any_from_yields_List (λ a. strengthen_permitted φ a c.args.b) _ _ _ c.any.ensures.ran
    (YieldsList-from_slice c.clauses_of.result.now cc) (λ a b q k. search (rules, tests))
    ∙ sym (any_of-std _ _)
    ∙ ap (any_of (λ a. strengthen_permitted φ a c.args.b)) (c.clauses_of.ensures φ (studied-indexes s))
