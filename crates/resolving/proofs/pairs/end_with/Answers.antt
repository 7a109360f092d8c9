-- The loop's invariant: nothing comes of the clauses behind, where only clauses with the literal count.
-- Assumes nothing.
use mathlib.Core.Path.{◌∙◌, sym}
use native.Mathlib.Omega.{arith}
use Rattle.table.proofs.HoldLaws.{count-clauses}
use Rattle.resolving.proofs.PairLaws.{each_none, silent-back}
use Rattle.resolving.proofs.pairs.end_with.Goals as goal

pub loop-i-init : goal.loop-i-init
loop-i-init c = (c.requires.from_le_clauses, omega arith, λ φ f h s. each_none f φ.clauses c.args.c.clauses (omega (arith, count-clauses h)))

pub loop-i-preserved : goal.loop-i-preserved
loop-i-preserved c = (omega (arith, c.loop-i-test.true), omega (arith, c.loop-i.invariant.1), λ φ f h s. silent-back _ φ.clauses c.loop-i.i (omega (arith, c.loop-i-test.true)) (omega (arith, count-clauses h, c.loop-i.invariant.1)) _ (c.clause_at.ensures φ h) (sym c.contains.ensures ∙ c.if-contains.false) f s (c.loop-i.invariant.2 φ f h s))
