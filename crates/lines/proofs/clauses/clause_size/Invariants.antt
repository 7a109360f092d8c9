use mathlib.Core.Path.{◌≡◌}
use Prim.Native.Nat.{◌+◌, ◌*◌, ◌≤◌}
use lib.ListN.{length, drop}
use Rattle.qdimacs.specs.Write.{clause_line}
use Rattle.lines.proofs.clauses.clause_size.Given as goal

-- n bytes for the literals that are passed, at most seven for each
abbrev pub invariant-loop-l : goal.invariant-loop-l
invariant-loop-l l = (l.n + length (clause_line (drop l.l-index l.clause)) ≡ length (clause_line l.clause)) × (l.n ≤ 7 * l.l-index)
