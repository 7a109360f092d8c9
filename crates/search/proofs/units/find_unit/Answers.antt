-- The loop's invariant: the candidate is among the clauses that are left.
-- Assumes nothing.
use mathlib.Core.Path.{refl}
use native.Mathlib.Omega.{arith}
use Rattle.rules.specs.Entry.{unit, uses_b}
use Rattle.rules.specs.Step.{permitted}
use Rattle.rules.specs.Choice.{costly, firsts}
use Rattle.std.specs.Prelude.{Some, None}
use Rattle.search.proofs.CandidateLaws.{from_start, only_none, only-found, by-clause, walk-next, walk-found, walk_end}
use Rattle.search.proofs.units.find_unit.Goals as goal

pub loop-a-init : goal.loop-a-init
unfolding costly
loop-a-init c = λ φ E h. from_start E φ unit refl

pub returns-then-unit_permitted : goal.returns-then-unit_permitted
unfolding uses_b permitted firsts
returns-then-unit_permitted c =
    λ φ E h. walk-found (by-clause h unit refl) E c.loop-a.a (c.loop-a.invariant φ E h) (omega arith) (Some (c.loop-a.a, 0))
    (only-found φ unit c.loop-a.a refl _ (c.unit_permitted.ensures φ h) c.if-unit_permitted.true) refl

pub loop-a-preserved : goal.loop-a-preserved
unfolding uses_b permitted firsts
loop-a-preserved c =
    λ φ E h. walk-next (by-clause h unit refl) E c.loop-a.a (c.loop-a.invariant φ E h) (omega arith) None
    (only_none φ unit c.loop-a.a refl _ (c.unit_permitted.ensures φ h) c.if-unit_permitted.false) refl

pub returns : goal.returns
unfolding firsts
returns c = λ φ E h. walk_end (by-clause h unit refl) E c.loop-a.a (c.loop-a.invariant φ E h) (omega arith)
