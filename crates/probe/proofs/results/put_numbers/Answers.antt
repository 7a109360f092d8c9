-- A block of numbers in each turn.
-- Assumes nothing.
use Prim.Native.Nat.{◌+◌, ◌*◌}
use mathlib.Core.Path.{◌≡◌, ap, ◌∙◌}
use native.Mathlib.Omega.{arith}
use lib.ListN.{length, take, length-append}
use Rattle.std.specs.Slice.Iter.{chunks_rest}
use Rattle.probe.proofs.ResultLaws.{length-numbers, part_put, numbers-end}
use Rattle.probe.proofs.results.put_numbers.Goals as goal

pub returns-then-remaining_capacity-numbers : goal.returns-then-remaining_capacity-numbers
returns-then-remaining_capacity-numbers c h = absurd (omega (arith, h, length-numbers c.args.numbers.now, c.if-remaining_capacity-numbers.true, c.remaining_capacity.ensures))

pub loop-part-preserved : goal.loop-part-preserved
loop-part-preserved c =
    let steps = c.in-Some.ensures.steps in
    let part = c.in-Some.part.now in
    let rest = chunks_rest c.next.new.self in
    let long : length (chunks_rest c.loop-part.part-iterator) ≡ length part + length rest = ap length steps.1.0 ∙ length-append part rest in
    let block : length (take (2 * length part) c.fill_block.new.block) ≡ 2 * length part = ap length c.fill_block.ensures ∙ length-numbers part in
    let put = c.put.ensures (omega (arith, c.loop-part.invariant.1, long, block)) in
    let more : length c.put.new.out.items ≡ length c.loop-part.out.items + 2 * length part = ap length put ∙ length-append c.loop-part.out.items (take (2 * length part) c.fill_block.new.block) ∙ ap (λ k. length c.loop-part.out.items + k) block in (
      steps.0 ∙ c.loop-part.invariant.0,
      omega (arith, c.loop-part.invariant.1, long, more),
      part_put c.args.out.now.items c.args.numbers.now c.loop-part.out.items part (chunks_rest c.loop-part.part-iterator) rest c.put.new.out.items (take (2 * length part) c.fill_block.new.block) c.loop-part.invariant.2 steps.1.0 c.fill_block.ensures put,
    )

pub returns : goal.returns
returns c h = numbers-end c.args.out.now.items c.args.numbers.now c.loop-part.out.items (chunks_rest c.loop-part.part-iterator) c.loop-part.invariant.2 c.in-None.ensures.steps.1.0
