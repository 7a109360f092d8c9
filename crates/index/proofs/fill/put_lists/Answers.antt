-- The loop's invariant: the clauses so far are in the lists of their literals.
-- Assumes nothing.
use mathlib.Core.Path.{◌∙◌}
use native.Mathlib.Omega.{arith}
use Rattle.table.proofs.HoldLaws.{held, holds-bounds}
use Rattle.index.proofs.FillLaws.{tallies, build-start, build-turn, build-end, turned}
use Rattle.index.proofs.fill.put_lists.Goals as goal

pub list_starts-requires : goal.list_starts-requires
list_starts-requires c = record { formula = c.requires.held_well.formula; tallies = tallies c.requires.held_well.holds c.requires.held_well.well _ c.requires.index_len.1 }

pub loop-i-init : goal.loop-i-init
loop-i-init c = (
  c.list_starts.auto.index ∙ c.requires.index_len.0,
  c.requires.held_well,
  λ φ h w. build-start h w _ (c.list_starts.ensures φ (tallies h w _ c.requires.index_len.1)),
)

pub clause_at-requires-clause-held : goal.clause_at-requires-clause-held
clause_at-requires-clause-held c = held c.loop-i.invariant.1.holds

pub clause_at-requires-clause-i_lt_clauses : goal.clause_at-requires-clause-i_lt_clauses
clause_at-requires-clause-i_lt_clauses c = omega arith

pub overflow_cast-i : goal.overflow_cast-i
overflow_cast-i c = let b = holds-bounds c.loop-i.invariant.1.holds in omega arith

pub put_clause-requires : goal.put_clause-requires
put_clause-requires c =
    turned
    (build-turn c.loop-i.invariant.1.holds c.loop-i.invariant.1.well _ _ c.loop-i.i (omega arith) (c.clause_at.ensures _ c.loop-i.invariant.1.holds)
    (c.loop-i.invariant.2 _ c.loop-i.invariant.1.holds c.loop-i.invariant.1.well))

pub loop-i-preserved : goal.loop-i-preserved
loop-i-preserved c = (
  c.put_clause.auto.index ∙ c.loop-i.invariant.0,
  c.loop-i.invariant.1,
  λ φ h w. c.put_clause.ensures _
      (build-turn h w _ _ c.loop-i.i (omega arith) (c.clause_at.ensures φ h) (c.loop-i.invariant.2 φ h w)),
)

pub returns : goal.returns
returns c = λ φ h w. build-end h w _ c.loop-i.i (omega arith) (c.loop-i.invariant.2 φ h w)
