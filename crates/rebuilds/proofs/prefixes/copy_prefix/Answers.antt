-- The loop's invariant: the entries so far are copied.
-- Assumes nothing.
use mathlib.Core.Path.{refl, ap, ◌∙◌}
use native.Mathlib.Omega.{arith}
use lib.ListN.{length}
use lib.Seq.{length-take-le}
use Rattle.meaning.specs.WellFormed.{literals}
use Rattle.table.specs.Table.{counts_of, empty_formula}
use Rattle.table.proofs.HoldLaws.{bounds, prefix-is}
use Rattle.rebuilds.proofs.PrefixLaws.{copy_start, copy-fits, copy-turn, copy-end}
use Rattle.rebuilds.proofs.prefixes.copy_prefix.Goals as goal

pub slice_bounds-q-items-end : goal.slice_bounds-q-items-end
slice_bounds-q-items-end c = let b = bounds c.requires.held in omega (arith, length-take-le c.args.c.variables c.args.source.now (omega arith))

pub loop-q-init : goal.loop-q-init
unfolding counts_of empty_formula literals
loop-q-init c = (refl, refl, λ φ h. copy_start _ φ.prefix _ c.args.second c.requires.target_value (record { variables = c.empty.result.variables; clauses = c.empty.result.clauses; literals = c.empty.result.literals; second = c.args.second }) (rw c.empty.ensures))

pub loop-q-preserved : goal.loop-q-preserved
loop-q-preserved c = (c.keep_entry-e.auto.target ∙ c.loop-q.invariant.0, (c.keep_entry-e.ensures _ (c.loop-q.invariant.2 c.requires.held.formula c.requires.held.holds) (copy-fits c.requires.held.formula _ _ c.requires.held.holds c.loop-q.q-index (omega arith) _)).1 ∙ c.loop-q.invariant.1, λ φ h. copy-turn φ _ _ h c.loop-q.q-index (omega arith) _ _ _ (c.keep_entry-e.ensures _ (c.loop-q.invariant.2 φ h) (copy-fits φ _ _ h c.loop-q.q-index (omega arith) _)).0)

pub returns-clause-holds : goal.returns-clause-holds
returns-clause-holds c = λ φ h. copy-end _ φ.prefix c.loop-q.q-index (omega (arith, ap length (prefix-is h))) _ _ (c.loop-q.invariant.2 φ h)
