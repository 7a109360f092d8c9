-- The loop's invariant: what is left of the clauses goes on from what is in the target, and the filter covers the target but for the
-- clauses of the source before this one.
-- Assumes nothing.
use mathlib.Core.Path.{◌∙◌}
use native.Mathlib.Omega.{arith}
use Rattle.table.proofs.HoldLaws.{held, count-clauses}
use Rattle.rebuilds.proofs.RawLaws.{ready-as, all-next, all-full, all_end}
use Rattle.rebuilds.proofs.LeftLaws.{lasting, covers-next}
use Rattle.rebuilds.proofs.rebuilding.add_each.Goals as goal

pub add_one-requires-clause-held : goal.add_one-requires-clause-held
add_one-requires-clause-held c =
    let g = c.loop-i.invariant.3 c.requires.held.formula c.requires.held_target.formula c.requires.held.holds c.requires.held_target.holds in
    held g.holds

pub add_one-requires-clause-ready : goal.add_one-requires-clause-ready
add_one-requires-clause-ready c =
    let g = c.loop-i.invariant.3 c.requires.held.formula c.requires.held_target.formula c.requires.held.holds c.requires.held_target.holds in
    ready-as c.requires.held_target.holds c.requires.ready g.holds g.prefix

pub returns-in_err-next : goal.returns-in_err-next
returns-in_err-next c = rw c.from_residual.ensures (λ φ ψ h q. let g = c.loop-i.invariant.3 φ ψ h q in
    let m = c.add_one.ensures g.formula _ g.holds c.loop-i.invariant.2 (lasting h c.loop-i.i c.loop-i-test.true _ c.clause_at-clause.ensures q c.requires.shrunk.0 c.requires.shrunk.1 g.formula.prefix g.prefix) in
    all-full _ _ ψ φ.clauses _ _ _ c.loop-i.i g (omega (arith, count-clauses h, c.loop-i-test.true)) _ (c.clause_at-clause.ensures φ h) _ _ m.0 c.in_err-next.was)

pub loop-i-preserved : goal.loop-i-preserved
loop-i-preserved c =
    let h = c.requires.held.holds in let q = c.requires.held_target.holds in let g = c.loop-i.invariant.3 c.requires.held.formula c.requires.held_target.formula h q in
    let m = c.add_one.ensures g.formula _ g.holds c.loop-i.invariant.2 (lasting h c.loop-i.i c.loop-i-test.true _ c.clause_at-clause.ensures q c.requires.shrunk.0 c.requires.shrunk.1 g.formula.prefix g.prefix) in (
      c.add_one.auto.target ∙ c.loop-i.invariant.0,
      c.add_one.auto.filter ∙ c.loop-i.invariant.1,
      covers-next h c.loop-i.i c.loop-i-test.true _ c.clause_at-clause.ensures (m.1 _ c.in_ok-next.was),
      λ φ ψ h q. let g = c.loop-i.invariant.3 φ ψ h q in
          let m = c.add_one.ensures g.formula _ g.holds c.loop-i.invariant.2 (lasting h c.loop-i.i c.loop-i-test.true _ c.clause_at-clause.ensures q c.requires.shrunk.0 c.requires.shrunk.1 g.formula.prefix g.prefix) in
          all-next _ _ ψ φ.clauses _ _ _ c.loop-i.i g (omega (arith, count-clauses h, c.loop-i-test.true)) _ (c.clause_at-clause.ensures φ h) _ _ m.0 _ c.in_ok-next.was,
    )

pub returns : goal.returns
returns c = λ φ ψ h k. all_end _ _ ψ φ.clauses _ _ _ c.loop-i.i (c.loop-i.invariant.3 φ ψ h k) (omega (arith, count-clauses h, c.loop-i-test.false))
