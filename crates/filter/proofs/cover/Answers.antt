-- The invariant: the stamps of the clauses so far are in.
-- Assumes nothing.
use mathlib.Core.Path.{refl, ◌∙◌}
use native.Mathlib.Omega.{arith}
use Rattle.table.proofs.HoldLaws.{bounds, count-clauses}
use Rattle.filter.proofs.FilterLaws.{covered_none, covered_next, covered-all}
use Rattle.filter.proofs.cover.Goals as goal

pub loop-i-init : goal.loop-i-init
loop-i-init c = (refl, λ φ h. covered_none φ.clauses _ c.requires.filter_len)

pub clause_at-requires-clause-held : goal.clause_at-requires-clause-held
clause_at-requires-clause-held c = c.requires.held

pub clause_at-requires-clause-i_lt_clauses : goal.clause_at-requires-clause-i_lt_clauses
clause_at-requires-clause-i_lt_clauses c = c.loop-i-test.true

pub stamp-requires : goal.stamp-requires
stamp-requires c =
    let long = c.loop-i.invariant.0 ∙ c.requires.filter_len in
    let b = bounds c.requires.held in
    (omega arith, omega arith)

pub loop-i-preserved : goal.loop-i-preserved
loop-i-preserved c = (
  c.stamp.auto.filter ∙ c.loop-i.invariant.0,
  λ φ h. covered_next (c.loop-i.invariant.1 φ h) (omega (arith, count-clauses h, c.loop-i-test.true)) _ _ (c.clause_at.ensures φ h) c.stamp.ensures.filter_after,
)

pub returns : goal.returns
returns c = covered-all (c.loop-i.invariant.1 _ c.requires.held.holds) c.requires.held.holds refl (omega (arith, count-clauses c.requires.held.holds, c.loop-i-test.false))
