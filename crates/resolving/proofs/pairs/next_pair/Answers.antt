-- The loop's invariant: nothing comes of the pairs that were passed over.
-- Assumes nothing.
use mathlib.Core.Path.{◌∙◌}
use Rattle.resolving.specs.Pairs.{of_pair}
use native.Mathlib.Omega.{arith}
use Rattle.table.proofs.HoldLaws.{count-clauses}
use Rattle.resolving.proofs.IdleLaws.{alike_next}
use Rattle.resolving.proofs.pairs.next_pair.Goals as goal

pub loop-i-preserved : goal.loop-i-preserved
loop-i-preserved c = (omega (arith, c.loop-i.invariant.0), omega (arith, c.loop-i-test.true), λ φ h ψ. c.loop-i.invariant.2 φ h ψ ∙ alike_next (of_pair _ _ _) φ.clauses c.loop-i.i (omega (arith, c.loop-i-test.true, c.requires.from_le_to.1, count-clauses h)) _ (c.clause_at.ensures φ h) (c.resolves.ensures.idle c.if-resolves.false) ψ)
