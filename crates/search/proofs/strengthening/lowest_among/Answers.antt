-- The closure is the test of the definition.
-- Assumes nothing.
use Rattle.std.proofs.lemmas.Iterator.{YieldsList-from_slice}
use Rattle.std.proofs.lemmas.Iterator.Consumers.{YieldsList-from_filter, min_from_yields_List}
use Rattle.std.proofs.Common.{◌∙◌, sym, ap, rules, tests}
use Rattle.std.specs.Prelude.{min}
use Rattle.std.specs.List.{reduce}
use Rattle.meaning.proofs.StdLists.{keep_if-std}
use Rattle.rules.specs.Simplify.{strengthen_permitted}
use Rattle.search.specs.Candidates.{lowest_of}
use Rattle.search.proofs.strengthening.lowest_among.Goals as goal

pub returns : goal.returns
unfolding lowest_of
returns c =
    λ φ s g. let e = min_from_yields_List _ _ c.min.ensures.ran
    (YieldsList-from_filter _ (strengthen_permitted φ c.args.a) (YieldsList-from_slice c.args.among.now cc) c.filter.ensures.closure (λ x r d k. search (rules, tests))) in
    c.copied.ensures ∙ e ∙ ap (reduce min) (sym (keep_if-std _ _))
