-- What is left of the prefix decides.
-- Assumes nothing.
use Prim.Native.Nat.{◌+◌, ◌*◌}
use mathlib.Core.Path.{◌≡◌}
use lib.ListN.{drop}
use Rattle.meaning.specs.Lists.{has}
use Rattle.why.specs.Places.{prefix_counted}
use Rattle.why.proofs.prefix.is_universal.Given as goal

abbrev pub invariant-loop-i : goal.invariant-loop-i
invariant-loop-i l = has (2 * l.v + 1) (prefix_counted l.first l.second l.c) ≡ has (2 * l.v + 1) (drop l.i (prefix_counted l.first l.second l.c))
