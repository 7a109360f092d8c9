-- The loop's invariant: what is left of the clauses goes on from what is in the target, and the filter covers the target.
-- Assumes nothing.
use mathlib.Core.Path.{◌∙◌}
use native.Mathlib.Omega.{arith}
use Rattle.table.proofs.HoldLaws.{held, count-clauses}
use Rattle.rebuilds.proofs.RawLaws.{ready-as, all-next, all-full, all_end}
use Rattle.rebuilds.proofs.turning.add_each_turned.Goals as goal

pub add_turned-requires-clause-held : goal.add_turned-requires-clause-held
add_turned-requires-clause-held c =
    let g = c.loop-i.invariant.3 c.requires.held.formula c.requires.held_target.formula c.requires.held.holds c.requires.held_target.holds in
    held g.holds

pub add_turned-requires-clause-ready : goal.add_turned-requires-clause-ready
add_turned-requires-clause-ready c =
    let g = c.loop-i.invariant.3 c.requires.held.formula c.requires.held_target.formula c.requires.held.holds c.requires.held_target.holds in
    ready-as c.requires.held_target.holds c.requires.ready g.holds g.prefix

pub returns-in_err-next-clause-built : goal.returns-in_err-next-clause-built
returns-in_err-next-clause-built c = rw c.from_residual.ensures (λ φ ψ h q. let g = c.loop-i.invariant.3 φ ψ h q in all-full _ _ ψ φ.clauses _ _ _ c.loop-i.i g (omega (arith, count-clauses h, c.loop-i-test.true)) _ (c.clause_at-clause.ensures φ h) _ _ (c.add_turned.ensures.built g.formula g.holds) c.in_err-next.was)

pub loop-i-preserved : goal.loop-i-preserved
loop-i-preserved c = (
  c.add_turned.auto.target ∙ c.loop-i.invariant.0,
  c.add_turned.auto.filter ∙ c.loop-i.invariant.1,
  c.add_turned.ensures.covers_after _ c.in_ok-next.was,
  λ φ ψ h q. let g = c.loop-i.invariant.3 φ ψ h q in all-next _ _ ψ φ.clauses _ _ _ c.loop-i.i g (omega (arith, count-clauses h, c.loop-i-test.true)) _ (c.clause_at-clause.ensures φ h) _ _ (c.add_turned.ensures.built g.formula g.holds) _ c.in_ok-next.was,
)

pub returns-clause-built : goal.returns-clause-built
returns-clause-built c = λ φ ψ h k. all_end _ _ ψ φ.clauses _ _ _ c.loop-i.i (c.loop-i.invariant.3 φ ψ h k) (omega (arith, count-clauses h, c.loop-i-test.false))
