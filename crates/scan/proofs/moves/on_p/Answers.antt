use Rattle.qdimacs.specs.Decide.{on_p}
use Rattle.scan.proofs.Arms.{not-p}
use Rattle.scan.proofs.moves.on_p.Goals as goal

pub returns-in-P : goal.returns-in-P
unfolding on_p
returns-in-P c = rw c.in-P.is

pub returns-in_default : goal.returns-in_default
returns-in_default c = not-p _ c.in_default.not-P
