-- The loop's invariant: what is left of both clauses decides.
-- Assumes nothing.
use native.Mathlib.Omega.{arith}
use Rattle.meaning.specs.Lists.{part_of}
use Rattle.walks.proofs.WalkLaws.{ahead-start, part_end, part-over, part-both, part-one, part-fails}
use Rattle.walks.proofs.is_part.Goals as goal

pub loop-k-init : goal.loop-k-init
loop-k-init c = (omega arith, λ up too. ahead-start part_of _ _ up too)

pub returns-then-x-i : goal.returns-then-x-i
returns-then-x-i c = λ up too. part_end c.loop-k.i c.loop-k.k-index (c.loop-k.invariant.1 up too) c.if-x-i.true

pub loop-k-preserved-then-l-k : goal.loop-k-preserved-then-l-k
loop-k-preserved-then-l-k c = (omega arith, λ up too. part-both c.loop-k.i c.loop-k.k-index (c.loop-k.invariant.1 up too) c.if-x-i.false (omega arith) c.if-l-k.true)

pub returns-then-l-k-2 : goal.returns-then-l-k-2
returns-then-l-k-2 c = λ up too. part-fails c.loop-k.i c.loop-k.k-index (c.loop-k.invariant.1 up too) c.if-x-i.false (omega arith) c.if-l-k-2.true

pub loop-k-preserved : goal.loop-k-preserved
loop-k-preserved c = (
  omega arith,
  λ up too. part-one c.loop-k.i c.loop-k.k-index (c.loop-k.invariant.1 up too) c.if-x-i.false (omega arith) c.if-l-k.false c.if-l-k-2.false,
)

pub returns : goal.returns
returns c = λ up too. part-over c.loop-k.i c.loop-k.k-index (c.loop-k.invariant.1 up too) (omega arith)
