-- Some literal's list has such a clause, or none has.
-- Assumes nothing.
use Rattle.std.proofs.lemmas.Iterator.{YieldsList-from_slice}
use Rattle.std.proofs.lemmas.Iterator.Search.{any_from_yields_List}
use Rattle.std.proofs.Common.{◌∙◌, sym, rules, tests}
use Rattle.meaning.specs.Lists.{any_of}
use Rattle.meaning.proofs.StdLists.{any_of-std}
use Rattle.rules.specs.Simplify.{subsume_permitted}
use Rattle.index.specs.Index.{clauses_with}
use Rattle.search.proofs.AmongLaws.{part_none}
use Rattle.search.proofs.subsumption.has_part.Goals as goal

pub returns : goal.returns
returns c =
    λ φ h x n at_b e. part_none h n _ _ at_b
    (any_of-std _ _
    ∙ sym (any_from_yields_List (λ l. any_of (λ a. subsume_permitted φ a c.args.b) (clauses_with φ.clauses l)) _ _ _ c.any.ensures.ran
    (YieldsList-from_slice c.args.y.now cc) (λ l b q k. search (rules, tests)))
    ∙ e)
