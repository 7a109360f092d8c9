-- The loop's invariant: the candidate is among the clauses that are left.
-- Assumes nothing.
use mathlib.Core.Path.{refl, sym, ◌∙◌}
use native.Mathlib.Omega.{arith}
use Rattle.rules.specs.Entry.{strengthen}
use Rattle.rules.specs.Choice.{costly, firsts}
use Rattle.search.proofs.CandidateLaws.{from_start, by-clause, walk-next, walk-found, walk_end}
use Rattle.search.proofs.strengthening.search_all.Goals as goal

pub loop-a-init : goal.loop-a-init
unfolding costly
loop-a-init c = λ φ E s. from_start E φ strengthen refl

pub loop-a-preserved : goal.loop-a-preserved
unfolding firsts
loop-a-preserved c =
    λ φ E s. walk-next (by-clause s.holds strengthen refl) E c.loop-a.a (c.loop-a.invariant φ E s) (omega arith) _
    (c.strengthened_by-first.ensures φ s) (sym c.is_some.ensures ∙ c.if-is_some.false)

pub returns-then-is_some : goal.returns-then-is_some
unfolding firsts
returns-then-is_some c =
    λ φ E s. walk-found (by-clause s.holds strengthen refl) E c.loop-a.a (c.loop-a.invariant φ E s) (omega arith) _
    (c.strengthened_by-first.ensures φ s) (sym c.is_some.ensures ∙ c.if-is_some.true)

pub returns : goal.returns
unfolding firsts
returns c = λ φ E s. walk_end (by-clause s.holds strengthen refl) E c.loop-a.a (c.loop-a.invariant φ E s) (omega arith)
