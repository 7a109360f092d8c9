-- Some variable's lists have such a clause, or none has.
-- Assumes nothing.
use Prim.Native.Nat.{◌+◌, ◌*◌, ◌/◌}
use mathlib.Core.List.{◌++◌}
use Rattle.std.proofs.lemmas.Iterator.{YieldsList-from_slice}
use Rattle.std.proofs.lemmas.Iterator.Search.{any_from_yields_List}
use Rattle.std.proofs.Common.{◌∙◌, sym, rules, tests}
use Rattle.meaning.specs.Lists.{any_of}
use Rattle.meaning.proofs.StdLists.{any_of-std}
use Rattle.rules.specs.Simplify.{strengthen_permitted}
use Rattle.index.specs.Index.{clauses_with}
use Rattle.search.proofs.StrengthenLaws.{strong-none}
use Rattle.search.proofs.strengthening.has_stronger.Goals as goal

pub returns : goal.returns
returns c =
    λ φ s at_b e. strong-none φ _ _ at_b
    (any_of-std _ _
    ∙ sym (any_from_yields_List (λ l. any_of (λ a. strengthen_permitted φ a c.args.b) (clauses_with φ.clauses (2 * (l / 2)) ++ clauses_with φ.clauses (2 * (l / 2) + 1))) _ _ _ c.any.ensures.ran
    (YieldsList-from_slice c.args.y.now cc) (λ l b q k. search (rules, tests)))
    ∙ e)
