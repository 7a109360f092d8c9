-- The loop's invariant: the candidate is among the clauses that are left.
-- Assumes nothing.
use mathlib.Core.Path.{refl, sym, ◌∙◌}
use native.Mathlib.Omega.{arith}
use Rattle.rules.specs.Entry.{equality}
use Rattle.rules.specs.Choice.{costly, firsts}
use Rattle.search.proofs.CandidateLaws.{from_start, by-clause, walk-next, walk-found, walk_end}
use Rattle.search.proofs.equalities.find_equality.Goals as goal

pub loop-a-init : goal.loop-a-init
unfolding costly
loop-a-init c = λ φ E h x. from_start E φ equality refl

pub loop-a-preserved : goal.loop-a-preserved
unfolding firsts
loop-a-preserved c =
    λ φ E h x. walk-next (by-clause h equality refl) E c.loop-a.a (c.loop-a.invariant φ E h x) (omega arith) _
    (c.equal_to-first.ensures φ h x) (sym c.is_some.ensures ∙ c.if-is_some.false)

pub returns-then-is_some : goal.returns-then-is_some
unfolding firsts
returns-then-is_some c =
    λ φ E h x. walk-found (by-clause h equality refl) E c.loop-a.a (c.loop-a.invariant φ E h x) (omega arith) _
    (c.equal_to-first.ensures φ h x) (sym c.is_some.ensures ∙ c.if-is_some.true)

pub returns : goal.returns
unfolding firsts
returns c = λ φ E h x. walk_end (by-clause h equality refl) E c.loop-a.a (c.loop-a.invariant φ E h x) (omega arith)
