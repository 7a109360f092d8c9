use Rattle.lines.proofs.Writing.{Going}
use lib.ListN.{drop}
use Rattle.qdimacs.specs.Write.{line_rest}
use Rattle.lines.proofs.prefixes.write_prefix.Given as goal

-- what follows the entry `last`, written at `at`, makes all that follows the first entry
abbrev pub invariant-loop-e : goal.invariant-loop-e
invariant-loop-e l = Going (line_rest l.initial.last l.rest) (line_rest l.last (drop l.e-index l.rest)) l.initial.at l.at l.initial.out l.out
