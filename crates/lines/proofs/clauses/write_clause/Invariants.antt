use lib.ListN.{drop}
use Rattle.qdimacs.specs.Write.{clause_line}
use Rattle.lines.proofs.Writing.{Going}
use Rattle.lines.proofs.clauses.write_clause.Given as goal

-- the line of what is left, written at `at`, makes the whole line
abbrev pub invariant-loop-l : goal.invariant-loop-l
invariant-loop-l l = Going (clause_line l.clause) (clause_line (drop l.l-index l.clause)) l.start l.at l.initial.out l.out
