use mathlib.Core.Path.{◌≡◌}
use Prim.Native.Nat.{◌+◌, ◌*◌, ◌≤◌}
use lib.ListN.{length, drop}
use Rattle.qdimacs.specs.Write.{line_rest, prefix_lines}
use Rattle.lines.proofs.prefixes.prefix_size.Given as goal

-- n bytes for the entries that are passed, at most ten for each with the end of the last line
abbrev pub invariant-loop-e : goal.invariant-loop-e
invariant-loop-e l = (l.n + length (line_rest l.last (drop l.e-index l.rest)) ≡ length (prefix_lines l.prefix)) × (l.n + 2 ≤ 10 * (l.e-index + 1))
