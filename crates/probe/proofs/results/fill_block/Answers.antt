-- One more number in each turn.
-- Assumes nothing.
use Prim.Native.Nat.{ℕ, ◌*◌}
use mathlib.Core.Path.{◌≡◌, refl, ap, ◌∙◌}
use mathlib.Core.List.{List, [], ◌∷◌}
use native.Mathlib.Omega.{arith}
use lib.ListN.{length, get_or, take}
use lib.Seq.{take_all}
use Rattle.probe.specs.Results.{of_numbers}
use Rattle.probe.proofs.ResultLaws.{fill_more}
use Rattle.probe.proofs.results.fill_block.Goals as goal

pub loop-i-init : goal.loop-i-init
unfolding of_numbers
loop-i-init c = refl

pub loop-i-preserved : goal.loop-i-preserved
loop-i-preserved c =
    let room = c.fits-block in
    fill_more c.loop-i.block c.args.numbers.now c.loop-i.i _ _ c.loop-i-test.true (omega arith) c.loop-i.invariant (ap (λ (l : List ℕ). get_or l 0 0 ∷ get_or l 1 0 ∷ []) c.to_le_bytes.ensures)

pub returns : goal.returns
returns c =
    let n = length c.args.numbers.now in
    let e : n ≡ c.loop-i.i = omega arith in
    ap (λ (k : ℕ). take (2 * k) c.loop-i.block) e ∙ c.loop-i.invariant ∙ ap of_numbers (take_all c.loop-i.i c.args.numbers.now c.loop-i-test.false)
