use mathlib.Core.Path.{◌≡◌}
use Prim.Native.Nat.{max}
use lib.ListN.{drop}
use Rattle.qdimacs.specs.Write.{largest}
use Rattle.lines.proofs.prefixes.largest_variable.Given as goal

-- the larger of m and the largest of what is left is that of the whole
abbrev pub invariant-loop-e : goal.invariant-loop-e
invariant-loop-e l = largest l.prefix ≡ max l.m (largest (drop l.e-index l.prefix))
