-- The loop over a clause's literals that collects the bits of their opposites: each bit comes by a shift.
-- Assumes nothing.
use Prim.Native.Nat.{ℕ, ◌+◌, ◌*◌, ◌%◌, ◌^◌, ◌<◌}
use mathlib.Core.Path.{◌≡◌}
use mathlib.Core.List.{List, foldl}
use native.Mathlib.Omega.{arith}
use lib.Bits.{bit_or}
use lib.ListN.{length, get_or, drop}
use Rattle.meaning.specs.Formula.{opposite}
use Rattle.meaning.proofs.Folds.{fold-turn}
use Rattle.stamps.proofs.BitLaws.{bit_is}
use Rattle.resolving.specs.Pairs.{opposite_on}

pub bits-turn : (c : List ℕ) (i s : ℕ) {r : ℕ} → r ≡ foldl opposite_on s (drop i c) → i < length c → (k : ℕ) → k ≡ opposite (get_or c i 0)
    → r ≡ foldl opposite_on (bit_or s (1 * 2 ^ (k % 64) % 18446744073709551616)) (drop (i + 1) c)
unfolding opposite_on
bits-turn c i s inv h k e = rw (e, bit_is (opposite (get_or c i 0) % 64) (omega arith)) (fold-turn opposite_on 0 c i s inv h)
