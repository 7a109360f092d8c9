-- The loop's invariant: the clauses that are left have their signatures to come.
-- Assumes nothing.
use mathlib.Core.Path.{◌∙◌}
use native.Mathlib.Omega.{arith}
use Rattle.table.proofs.HoldLaws.{bounds, count-clauses}
use Rattle.index.proofs.SignLaws.{signed-turn, signed-end}
use Rattle.index.proofs.FillLaws.{signs-start}
use Rattle.index.proofs.signs.put_signatures.Goals as goal

pub bounds-index-2047 : goal.bounds-index-2047
bounds-index-2047 c = omega (arith, c.requires.index_len)

pub overflow_cast-start : goal.overflow_cast-start
overflow_cast-start c = omega (arith, c.type_inv.index 2047)

pub overflow_add-start : goal.overflow_add-start
overflow_add-start c = omega (arith, c.type_inv.index 2047)

pub loop-i-init : goal.loop-i-init
loop-i-init c = (c.requires.index_len, omega (arith, c.type_inv.index 2047), c.requires.held, λ φ h e. signs-start φ.clauses _ e)

pub overflow_add-start-in-loop-i : goal.overflow_add-start-in-loop-i
overflow_add-start-in-loop-i c = let b = bounds c.loop-i.invariant.2 in omega arith

pub clause_at-requires-clause-held : goal.clause_at-requires-clause-held
clause_at-requires-clause-held c = c.loop-i.invariant.2

pub clause_at-requires-clause-i_lt_clauses : goal.clause_at-requires-clause-i_lt_clauses
clause_at-requires-clause-i_lt_clauses c = omega arith

pub loop-i-preserved : goal.loop-i-preserved
loop-i-preserved c = (
  c.put_signature.auto.index ∙ c.loop-i.invariant.0,
  c.loop-i.invariant.1,
  c.loop-i.invariant.2,
  λ φ h e. rw c.put_signature.ensures
      (signed-turn φ.clauses _ c.loop-i.i _ (c.loop-i.invariant.3 φ h e) (omega (arith, count-clauses h)) _
      (rw (← c.clause_at.ensures φ h) c.signature.ensures)),
)

pub returns : goal.returns
returns c = λ φ h e. signed-end φ.clauses _ c.loop-i.i _ (c.loop-i.invariant.3 φ h e) (omega (arith, count-clauses h))
