-- The loop's invariant: what comes of clauses with the literal only comes of those that are left.
-- Assumes nothing.
use mathlib.Core.Path.{◌∙◌, sym}
use native.Mathlib.Omega.{arith}
use Rattle.table.proofs.HoldLaws.{count-clauses}
use Rattle.resolving.proofs.PairLaws.{silent-next}
use Rattle.resolving.proofs.pairs.first_with.Goals as goal

pub loop-i-preserved : goal.loop-i-preserved
loop-i-preserved c = (omega (arith, c.loop-i-test.true), λ φ f h s. c.loop-i.invariant.1 φ f h s ∙ silent-next _ φ.clauses c.loop-i.i (omega (arith, count-clauses h, c.loop-i-test.true)) _ (c.clause_at.ensures φ h) (sym c.contains.ensures ∙ c.if-contains.false) f s)
