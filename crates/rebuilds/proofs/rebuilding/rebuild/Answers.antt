-- The prefix is copied and ranked, then the clauses follow.
-- Assumes nothing.
use mathlib.Core.Path.{sym}
use native.Mathlib.Omega.{arith}
use lib.ListN.{take}
use lib.Seq.{length-take-le}
use Rattle.table.specs.Table.{Held}
use Rattle.table.proofs.HoldLaws.{bounds, held}
use Rattle.recipes.specs.Recipe.{Ready}
use Rattle.rebuilds.proofs.RawLaws.{ranked-ready, copied-good, remade-built, ready-after, source-good, shrunk-copied}
use Rattle.rebuilds.proofs.rebuilding.rebuild.Goals as goal

pub slice_bounds-rank_prefix-end : goal.slice_bounds-rank_prefix-end
slice_bounds-rank_prefix-end c =
    let copied' : Held c.copy_prefix-d.new.target c.copy_prefix-d.result = held (c.copy_prefix-d.ensures.holds c.requires.held.formula c.requires.held.holds) in
    let b = bounds copied' in omega arith

pub slice_bounds-rank_prefix-end-2 : goal.slice_bounds-rank_prefix-end-2
slice_bounds-rank_prefix-end-2 c =
    let copied' : Held c.copy_prefix-d.new.target c.copy_prefix-d.result = held (c.copy_prefix-d.ensures.holds c.requires.held.formula c.requires.held.holds) in
    let b = bounds copied' in sym (length-take-le _ _ (omega arith))

pub rank_prefix-requires : goal.rank_prefix-requires
rank_prefix-requires c =
    let copied' : Held c.copy_prefix-d.new.target c.copy_prefix-d.result = held (c.copy_prefix-d.ensures.holds c.requires.held.formula c.requires.held.holds) in
    let b = bounds copied' in omega (arith, length-take-le c.copy_prefix-d.result.variables c.copy_prefix-d.new.target (omega arith))

pub add_all-requires-clause-ready : goal.add_all-requires-clause-ready
add_all-requires-clause-ready c =
    let ready' : Ready (take c.copy_prefix-d.result.variables c.copy_prefix-d.new.target) c.rank_prefix.new.ranks = ranked-ready (c.copy_prefix-d.ensures.holds c.requires.held.formula c.requires.held.holds) (copied-good c.requires.held.holds (source-good c.requires.held.holds c.requires.c_value.0) _) _ _ c.rank_prefix.ensures in
    ready'

pub add_all-requires-clause-shrunk : goal.add_all-requires-clause-shrunk
add_all-requires-clause-shrunk c = (shrunk-copied c.requires.held.holds c.requires.c_value.0 _ (c.copy_prefix-d.ensures.holds c.requires.held.formula c.requires.held.holds), c.requires.c_value.1)

pub returns-clause-built : goal.returns-clause-built
returns-clause-built c = λ φ h. remade-built _ _ _ φ _ _ _ _ (c.add_all.ensures φ _ h (c.copy_prefix-d.ensures.holds φ h)) c.copy_prefix-d.ensures.second_value

pub returns-clause-ready : goal.returns-clause-ready
returns-clause-ready c =
    let ready' : Ready (take c.copy_prefix-d.result.variables c.copy_prefix-d.new.target) c.rank_prefix.new.ranks = ranked-ready (c.copy_prefix-d.ensures.holds c.requires.held.formula c.requires.held.holds) (copied-good c.requires.held.holds (source-good c.requires.held.holds c.requires.c_value.0) _) _ _ c.rank_prefix.ensures in
    λ d e. ready-after (c.copy_prefix-d.ensures.holds c.requires.held.formula c.requires.held.holds) ready' _ _ _ _ (c.add_all.ensures c.requires.held.formula _ c.requires.held.holds (c.copy_prefix-d.ensures.holds c.requires.held.formula c.requires.held.holds)) d e
