use mathlib.Core.Path.{◌≡◌}
use mathlib.Core.Bool.{not}
use Prim.Native.Nat.{◌+◌}
use lib.Dec.{eqb}
use lib.ListN.{drop}
use Rattle.qdimacs.specs.Bytes.{span}
use Rattle.scan.specs.Scan.{run_end, passes}
use Rattle.scan.proofs.bytes.skip.Given as goal

-- what is passed and the count in what is left make the whole count
abbrev pub invariant-loop-i : goal.invariant-loop-i
invariant-loop-i g l = let k = not (eqb g.row.BLANK 0) in run_end k l.text l.from ≡ l.i + span (passes k) (drop l.i l.text)
