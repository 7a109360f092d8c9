-- The loop's invariant: the clauses that are left make the whole.
-- Assumes nothing.
use native.Mathlib.Omega.{arith}
use Rattle.table.proofs.HoldLaws.{bounds, count-clauses}
use Rattle.permits.proofs.PlaceLaws.{entries-of}
use Rattle.growth.proofs.ExpandLoops.{sum-start, sum-turn, sum-end, clauses-few, literals-few, clause-few}
use Rattle.growth.proofs.expanded_size.Goals as goal

pub loop-i-init : goal.loop-i-init
loop-i-init c = (omega arith, omega arith, λ φ h w e. sum-start _ _ _ _)

pub overflow_add-clauses : goal.overflow_add-clauses
overflow_add-clauses c =
    let b = bounds c.requires in
    let f = clauses-few _ _ c.clauses_of-clauses.ensures in
    omega (arith, c.loop-i.invariant.0)

pub literals_of-literals-requires : goal.literals_of-literals-requires
literals_of-literals-requires c = clause-few c.requires.holds c.loop-i.i _ (c.clause_at-clause.ensures c.requires.formula c.requires.holds)

pub overflow_add-literals : goal.overflow_add-literals
overflow_add-literals c =
    let b = bounds c.requires in
    let f = literals-few _ _ _ c.literals_of-literals.ensures in
    let k = clause-few c.requires.holds c.loop-i.i _ (c.clause_at-clause.ensures c.requires.formula c.requires.holds) in
    omega (arith, c.loop-i.invariant.1)

pub loop-i-preserved : goal.loop-i-preserved
loop-i-preserved c =
    let f = clauses-few _ _ c.clauses_of-clauses.ensures in
    let g = literals-few _ _ _ c.literals_of-literals.ensures in
    let k = clause-few c.requires.holds c.loop-i.i _ (c.clause_at-clause.ensures c.requires.formula c.requires.holds) in (
      omega (arith, c.loop-i.invariant.0),
      omega (arith, c.loop-i.invariant.1),
      λ φ q w e. sum-turn _ _ _ φ.clauses c.loop-i.i _ _ (c.loop-i.invariant.2 φ q w e) (omega (arith, count-clauses q)) _ (c.clause_at-clause.ensures φ q) _
          (c.share_of-share.ensures φ.prefix e (entries-of φ w q.fitting)) _ _ c.clauses_of-clauses.ensures c.literals_of-literals.ensures,
    )

pub returns-clause-small : goal.returns-clause-small
returns-clause-small c =
    let b = bounds c.requires in
    record { clauses = omega (arith, c.loop-i.invariant.0); literals = omega (arith, c.loop-i.invariant.1) }

pub returns-clause-value : goal.returns-clause-value
returns-clause-value c =
    let b = bounds c.requires in
    λ φ q w e. sum-end _ _ _ φ.clauses c.loop-i.i _ _ (c.loop-i.invariant.2 φ q w e) (omega (arith, count-clauses q))
