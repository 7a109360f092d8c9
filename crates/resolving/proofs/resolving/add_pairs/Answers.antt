-- The loop's invariant: what is left of the clauses goes on from what is in the target, and the next one has the negative literal.
-- Assumes nothing.
use mathlib.Core.Path.{refl, ap, ◌∙◌}
use native.Mathlib.Omega.{arith}
use Rattle.meaning.specs.Lists.{has}
use Rattle.table.proofs.HoldLaws.{held, count-clauses}
use Rattle.resolving.specs.Pairs.{of_pair}
use Rattle.rebuilds.proofs.RawLaws.{ready-as}
use Rattle.resolving.proofs.PairLaws.{pair_made, pair-silent, within-few, within-ordered, each_start, each_next, each-full, each-stop}
use Rattle.resolving.proofs.IdleLaws.{going-alike, alike_as}
use Rattle.resolving.proofs.resolving.add_pairs.Goals as goal

pub next_pair-i-requires-clause-from_le_to : goal.next_pair-i-requires-clause-from_le_to
next_pair-i-requires-clause-from_le_to c = (c.requires.within.order, within-few c.requires.held.holds c.requires.within)

pub loop-i-init : goal.loop-i-init
loop-i-init c = (c.next_pair-i.ensures.lower_bound.1, refl, c.next_pair-i.ensures.result_value, λ φ ψ h k. going-alike (each_start h c.requires.within (of_pair _ _ _) (pair-silent _ _ _) k) (alike_as c.requires.within.phases _ _ _ (c.next_pair-i.ensures.alike φ h)))

pub clause_at-requires-clause-i_lt_clauses : goal.clause_at-requires-clause-i_lt_clauses
clause_at-requires-clause-i_lt_clauses c = omega (arith, c.loop-i-test.true, within-few c.requires.held.holds c.requires.within)

pub add_pair-requires-clause-held : goal.add_pair-requires-clause-held
add_pair-requires-clause-held c =
    let g = c.loop-i.invariant.3 c.requires.held.formula c.requires.held_target.formula c.requires.held.holds c.requires.held_target.holds in
    held g.holds

pub add_pair-requires-clause-ready : goal.add_pair-requires-clause-ready
add_pair-requires-clause-ready c =
    let g = c.loop-i.invariant.3 c.requires.held.formula c.requires.held_target.formula c.requires.held.holds c.requires.held_target.holds in
    ready-as c.requires.held_target.holds c.requires.ready g.holds g.prefix

pub add_pair-requires-clause-ordered : goal.add_pair-requires-clause-ordered
add_pair-requires-clause-ordered c = (c.requires.ordered, within-ordered c.requires.held.holds c.requires.within c.loop-i.i _ (c.clause_at.ensures _ c.requires.held.holds))

pub returns-in_err-e : goal.returns-in_err-e
returns-in_err-e c = rw c.from_residual.ensures (λ φ ψ h q. let g = c.loop-i.invariant.3 φ ψ h q in each-full (of_pair _ _ _) ψ φ.clauses _ _ _ c.loop-i.i g (omega (arith, count-clauses h, c.loop-i-test.true, within-few h c.requires.within)) _ (ap (of_pair _ _ _) (c.clause_at.ensures φ h)) _ _ (pair_made c.requires.within.phases _ _ (ap (has _) (c.clause_at.ensures φ h) ∙ c.loop-i.invariant.2 φ h c.loop-i-test.true) (c.add_pair.ensures g.formula g.holds)) c.in_err-e.was)

pub next_pair-i-requires-in-loop-i : goal.next_pair-i-requires-in-loop-i
next_pair-i-requires-in-loop-i c = record { held = c.requires.held; from_le_to = (omega (arith, c.loop-i-test.true), within-few c.requires.held.holds c.requires.within) }

pub loop-i-preserved : goal.loop-i-preserved
loop-i-preserved c = (
  c.next_pair-i-in-loop-i.ensures.lower_bound.1,
  c.add_pair.auto.target ∙ c.loop-i.invariant.1,
  c.next_pair-i-in-loop-i.ensures.result_value,
  λ φ ψ h q. let g = c.loop-i.invariant.3 φ ψ h q in going-alike (each_next (of_pair _ _ _) ψ φ.clauses _ _ _ c.loop-i.i g (omega (arith, count-clauses h, c.loop-i-test.true, within-few h c.requires.within)) _ (ap (of_pair _ _ _) (c.clause_at.ensures φ h)) _ _ (pair_made c.requires.within.phases _ _ (ap (has _) (c.clause_at.ensures φ h) ∙ c.loop-i.invariant.2 φ h c.loop-i-test.true) (c.add_pair.ensures g.formula g.holds)) _ c.in_ok-e.was) (alike_as c.requires.within.phases _ _ _ (c.next_pair-i-in-loop-i.ensures.alike φ h)),
)

pub returns : goal.returns
returns c = λ φ ψ h k. each-stop h c.requires.within (of_pair _ _ _) (pair-silent _ _ _) ψ _ _ _ c.loop-i.i (c.loop-i.invariant.3 φ ψ h k) (omega (arith, c.loop-i.invariant.0, c.loop-i-test.false))
