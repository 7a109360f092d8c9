-- The loop's invariant: the candidate is among the clauses that are left.
-- Assumes nothing.
use mathlib.Core.Path.{refl, sym, ◌∙◌}
use native.Mathlib.Omega.{arith}
use Rattle.rules.specs.Entry.{subsume}
use Rattle.rules.specs.Choice.{costly, firsts}
use Rattle.search.proofs.CandidateLaws.{from_start, by-clause, walk-next, walk-found, walk_end}
use Rattle.search.proofs.subsumption.search_all.Goals as goal

pub loop-a-init : goal.loop-a-init
unfolding costly
loop-a-init c = λ φ E h x n. from_start E φ subsume refl

pub loop-a-preserved : goal.loop-a-preserved
unfolding firsts
loop-a-preserved c =
    λ φ E h x n. walk-next (by-clause h subsume refl) E c.loop-a.a (c.loop-a.invariant φ E h x n) (omega arith) _
    (c.subsumed_by-first.ensures φ h x n) (sym c.is_some.ensures ∙ c.if-is_some.false)

pub returns-then-is_some : goal.returns-then-is_some
unfolding firsts
returns-then-is_some c =
    λ φ E h x n. walk-found (by-clause h subsume refl) E c.loop-a.a (c.loop-a.invariant φ E h x n) (omega arith) _
    (c.subsumed_by-first.ensures φ h x n) (sym c.is_some.ensures ∙ c.if-is_some.true)

pub returns : goal.returns
unfolding firsts
returns c = λ φ E h x n. walk_end (by-clause h subsume refl) E c.loop-a.a (c.loop-a.invariant φ E h x n) (omega arith)
