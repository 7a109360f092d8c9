use Rattle.qdimacs.specs.Decide.{on_cnf}
use Rattle.scan.proofs.Arms.{not-cnf}
use Rattle.scan.proofs.moves.on_cnf.Goals as goal

pub returns-in-Cnf : goal.returns-in-Cnf
unfolding on_cnf
returns-in-Cnf c = rw c.in-Cnf.is

pub returns-in_default : goal.returns-in_default
returns-in_default c = not-cnf _ c.in_default.not-Cnf
