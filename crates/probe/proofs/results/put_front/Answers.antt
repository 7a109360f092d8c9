-- One part behind the other.
-- Assumes nothing.
use Prim.Native.Nat.{ℕ}
use mathlib.Core.Path.{ap}
use mathlib.Core.List.{[], ◌∷◌}
use Rattle.probe.specs.Results.{of_front}
use Rattle.probe.proofs.ResultLaws.{both, puts-same}
use Rattle.probe.proofs.results.put_front.Goals as goal

pub returns : goal.returns
unfolding of_front
returns c =
    let head = puts-same c.args.out.now.items _ _ c.put.new.out.items (ap (λ (b : ℕ). c.args.answer ∷ b ∷ []) c.from.ensures) c.put.ensures in
    both _ _ _ _ _ (both _ _ _ _ _ (both _ _ _ _ _ (both _ _ _ _ _ head c.put_count.ensures) c.put_count-2.ensures) c.put_count-3.ensures) c.put_count-4.ensures
