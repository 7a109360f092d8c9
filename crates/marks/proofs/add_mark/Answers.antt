-- The two stores are those of the law.
-- Assumes nothing.
use native.Mathlib.Omega.{arith}
use lib.ListN.{length-set}
use Rattle.marks.proofs.PushLaws.{marks-pushed}
use Rattle.marks.proofs.add_mark.Goals as goal

pub bounds-marks-slot-2 : goal.bounds-marks-slot-2
bounds-marks-slot-2 c = simp length-set (omega arith)

pub returns : goal.returns
returns c = λ cs x h e q. marks-pushed cs x _ _ _ h c.requires.2 e q
