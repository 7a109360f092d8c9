-- There is room for what is left, and what is left makes the whole.
-- Assumes nothing.
use Prim.Native.Nat.{◌+◌, ◌*◌, ◌≤◌}
use mathlib.Core.Path.{◌≡◌}
use mathlib.Core.List.{◌++◌}
use lib.ListN.{length}
use Rattle.std.specs.Slice.Iter.{chunks_rest, chunks_size}
use Rattle.probe.specs.Results.{of_numbers}
use Rattle.probe.proofs.results.put_numbers.Given as goal

abbrev pub invariant-loop-part : goal.invariant-loop-part
invariant-loop-part l = (chunks_size l.part-iterator ≡ 128) × (length l.out.items + 2 * length (chunks_rest l.part-iterator) ≤ 160000) × (l.out.items ++ of_numbers (chunks_rest l.part-iterator) ≡ l.initial.out.items ++ of_numbers l.numbers)
