-- The loop's invariant: the places below l have their starts, the others their counts.
-- Assumes nothing.
use native.Mathlib.Omega.{arith}
use lib.ListN.{length-set}
use Rattle.index.specs.Build.{tally_of}
use Rattle.index.proofs.TallyLaws.{tally-length, tally-room}
use Rattle.index.proofs.StartLaws.{sum-start, sum_fits, sum-turn, sum-end}
use Rattle.index.proofs.starts.list_starts.Goals as goal

pub loop-l-init : goal.loop-l-init
unfolding tally_of
loop-l-init c = (tally-length c.requires.tallies, c.requires, λ φ h. sum-start _ _ h.counts)

pub overflow_add-sum : goal.overflow_add-sum
overflow_add-sum c =
    let f = sum_fits _ _ c.loop-l.l _ (c.loop-l.invariant.2 c.loop-l.invariant.1.formula c.loop-l.invariant.1.tallies) (omega arith) in
    omega (arith, f, tally-room c.loop-l.invariant.1.tallies)

pub loop-l-preserved : goal.loop-l-preserved
loop-l-preserved c = (simp length-set c.loop-l.invariant.0, c.loop-l.invariant.1, λ φ h. sum-turn _ _ c.loop-l.l _ (c.loop-l.invariant.2 φ h) (omega arith))

pub returns : goal.returns
returns c = λ φ h. sum-end _ _ c.loop-l.l _ (c.loop-l.invariant.2 φ h) (omega arith)
