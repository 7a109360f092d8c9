-- The loop's invariant: what is left of the clauses goes on from what is in the target.
-- Assumes nothing.
use mathlib.Core.Path.{ap, ◌∙◌}
use native.Mathlib.Omega.{arith}
use Rattle.table.proofs.HoldLaws.{held, count-clauses}
use Rattle.resolving.specs.Pairs.{of_clause}
use Rattle.rebuilds.proofs.RawLaws.{ready-as}
use Rattle.resolving.proofs.PairLaws.{each_next, each-full, each-end, within-ordered}
use Rattle.resolving.proofs.resolving.add_by_positive.Goals as goal

pub add_clause_pairs-requires-clause-held_target : goal.add_clause_pairs-requires-clause-held_target
add_clause_pairs-requires-clause-held_target c =
    let g = c.loop-i.invariant.1 c.requires.held.formula c.requires.held_target.formula c.requires.held.holds c.requires.held_target.holds in
    held g.holds

pub add_clause_pairs-requires-clause-ready : goal.add_clause_pairs-requires-clause-ready
add_clause_pairs-requires-clause-ready c =
    let g = c.loop-i.invariant.1 c.requires.held.formula c.requires.held_target.formula c.requires.held.holds c.requires.held_target.holds in
    ready-as c.requires.held_target.holds c.requires.ready g.holds g.prefix

pub add_clause_pairs-requires-clause-ordered : goal.add_clause_pairs-requires-clause-ordered
add_clause_pairs-requires-clause-ordered c = within-ordered c.requires.held.holds c.requires.within c.loop-i.i _ (c.clause_at-x.ensures _ c.requires.held.holds)

pub returns-in_err-e : goal.returns-in_err-e
returns-in_err-e c = rw c.from_residual.ensures (λ φ ψ h q. let g = c.loop-i.invariant.1 φ ψ h q in each-full (of_clause _ _ φ.clauses) ψ φ.clauses _ _ _ c.loop-i.i g (omega (arith, count-clauses h, c.loop-i-test.true)) _ (ap (of_clause _ _ φ.clauses) (c.clause_at-x.ensures φ h)) _ _ (c.add_clause_pairs.ensures φ g.formula h g.holds) c.in_err-e.was)

pub loop-i-preserved : goal.loop-i-preserved
loop-i-preserved c = (
  c.add_clause_pairs.auto.target ∙ c.loop-i.invariant.0,
  λ φ ψ h q. let g = c.loop-i.invariant.1 φ ψ h q in each_next (of_clause _ _ φ.clauses) ψ φ.clauses _ _ _ c.loop-i.i g (omega (arith, count-clauses h, c.loop-i-test.true)) _ (ap (of_clause _ _ φ.clauses) (c.clause_at-x.ensures φ h)) _ _ (c.add_clause_pairs.ensures φ g.formula h g.holds) _ c.in_ok-e.was,
)

pub returns : goal.returns
returns c = λ φ ψ h k. each-end (of_clause _ _ φ.clauses) ψ φ.clauses _ _ _ c.loop-i.i (c.loop-i.invariant.1 φ ψ h k) (omega (arith, count-clauses h, c.loop-i-test.false))
