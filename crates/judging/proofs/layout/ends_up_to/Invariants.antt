-- The loop's invariant: the ends that are left decide, from the last one on.
-- Assumes nothing.
use mathlib.Core.Path.{◌≡◌}
use lib.ListN.{drop}
use Rattle.judging.specs.Layout.{ends_up_to}
use Rattle.judging.proofs.layout.ends_up_to.Given as goal

abbrev pub invariant-loop-e : goal.invariant-loop-e
invariant-loop-e l = ends_up_to 0 l.s l.last ≡ ends_up_to l.k (drop l.e-index l.s) l.last
