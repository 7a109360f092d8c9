-- The loop's invariant: the clauses before are looked at.
-- Assumes nothing.
use native.Mathlib.Omega.{arith}
use Rattle.table.proofs.HoldLaws.{bounds, count-clauses}
use Rattle.thinning.proofs.ReadLaws.{few, clause-small}
use Rattle.thinning.proofs.PickLaws.{picking-start, picking-turn, picking-end}
use Rattle.thinning.proofs.picks.flag_each.Goals as goal

pub loop-i-init : goal.loop-i-init
loop-i-init g c = (omega arith, λ φ f h p. picking-start _ φ.clauses (few h) _ c.requires.none)

pub passes-requires : goal.passes-requires
passes-requires g c = c.requires.callable _ (clause-small c.requires.readable c.loop-i.i c.loop-i-test.true _ c.clause_at.ensures)

pub flag_if-requires : goal.flag_if-requires
flag_if-requires g c =
    let b = bounds c.requires.readable.held in
    omega (arith, c.loop-i-test.true)

pub loop-i-preserved : goal.loop-i-preserved
loop-i-preserved g c = (omega arith, λ φ f h p. picking-turn f φ.clauses (few h) _ c.loop-i.i (c.loop-i.invariant.1 φ f h p) (omega (arith, count-clauses h)) _ (c.clause_at.ensures φ h) (p _ _ c.passes.ensures) c.flag_if.ensures)

pub returns : goal.returns
returns g c = λ φ f h p. picking-end _ φ.clauses (few h) _ c.loop-i.i (c.loop-i.invariant.1 φ f h p) (omega (arith, c.loop-i-test.false, count-clauses h))
