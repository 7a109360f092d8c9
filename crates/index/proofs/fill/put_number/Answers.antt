-- Two stores.
-- Assumes nothing.
use native.Mathlib.Omega.{arith}
use lib.ListN.{length-set}
use mathlib.Core.Path.{refl}
use Rattle.index.specs.Build.{with_number}
use Rattle.index.proofs.fill.put_number.Goals as goal

pub bounds-index-l-2 : goal.bounds-index-l-2
bounds-index-l-2 c = simp length-set (omega arith)

pub returns : goal.returns
unfolding with_number
returns c = refl
