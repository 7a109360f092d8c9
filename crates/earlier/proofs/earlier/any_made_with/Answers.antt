-- The loop's invariant: the numbers that are left decide.
-- Assumes nothing.
use Rattle.index.proofs.ReadLaws.{study-in}
use native.Mathlib.Omega.{arith}
use Rattle.index.proofs.ReadLaws.{study-indexed}
use Rattle.earlier.proofs.TriesLaws.{tries-start, tries-low, tries-found, tries-turn, tries-end}
use Rattle.earlier.proofs.earlier.any_made_with.Goals as goal

pub clauses_with-list-requires : goal.clauses_with-list-requires
clauses_with-list-requires c = study-indexed (study-in c.args.at.now.studied)

pub loop-number-init : goal.loop-number-init
loop-number-init c = tries-start _ c.clauses_with-list.ensures _ _

pub overflow_cast-j : goal.overflow_cast-j
overflow_cast-j c = omega (arith, c.type_inv.list c.loop-number.number-index)

pub is_made_with-requires-clause-j_bound : goal.is_made_with-requires-clause-j_bound
is_made_with-requires-clause-j_bound c = tries-low _ c.clauses_with-list.ensures (study-in c.args.at.now.studied) c.loop-number.number-index (omega arith)

pub returns-then-is_made_with : goal.returns-then-is_made_with
returns-then-is_made_with c = tries-found _ c.clauses_with-list.ensures _ _ c.loop-number.number-index c.loop-number.invariant (omega arith) _ c.is_made_with.ensures c.if-is_made_with.true

pub loop-number-preserved : goal.loop-number-preserved
loop-number-preserved c =
    tries-turn _ c.clauses_with-list.ensures _ _ c.loop-number.number-index c.loop-number.invariant (omega arith) _ c.is_made_with.ensures c.if-is_made_with.false

pub returns : goal.returns
returns c = tries-end _ c.clauses_with-list.ensures _ _ c.loop-number.number-index c.loop-number.invariant (omega arith)
