-- Scans of a prefix from an index on: its existentials, its universals, the first universal. For the loops the turn and the ends.
-- Assumes nothing.
use Prim.Native.Nat.{ℕ, ◌+◌, ◌%◌, ◌≤◌, ◌<◌}
use mathlib.Core.Path.{◌≡◌}
use mathlib.Core.Bool.{true, not}
use mathlib.Core.List.{List}
use lib.ListN.{length, get_or, drop, drop_of_length-le}
use lib.Dec.{eqb}
use lib.Seq.{drop-cons}
use native.Mathlib.Numerals.{add-one}
use native.Mathlib.Omega.{arith}
use Rattle.std.proofs.Common.{tests}
use Rattle.meaning.specs.Formula.{odd}
use Rattle.rules.specs.Eliminate.{all_exist, universals_first, from_universal}
use Rattle.meaning.proofs.Literals.{odd-of, even-of}

pub even : (q : ℕ) → eqb (q % 2) 0 ≡ not (odd q)
unfolding odd
even q = grind (arith, tests)

module _ (p : List ℕ) (i : ℕ) (h : i < length p) where
  pub first_stops : get_or p i 0 % 2 ≡ 0 → universals_first (drop i p) ≡ all_exist (drop (i + 1) p)
  unfolding universals_first
  first_stops e = rw (add-one, drop-cons p i 0, even-of (get_or p i 0) e)

  pub first-turn : (get_or p i 0 % 2 ≡ 0 → ⊥) → universals_first (drop i p) ≡ universals_first (drop (i + 1) p)
  unfolding universals_first
  first-turn e = rw (add-one, drop-cons p i 0, odd-of (get_or p i 0) (omega arith))

  pub from-stops : get_or p i 0 % 2 ≡ 1 → from_universal (drop i p) ≡ drop i p
  unfolding from_universal
  from-stops e = rw (drop-cons p i 0, odd-of (get_or p i 0) e)

  pub from-turn : (get_or p i 0 % 2 ≡ 1 → ⊥) → from_universal (drop i p) ≡ from_universal (drop (i + 1) p)
  unfolding from_universal
  from-turn e = rw (add-one, drop-cons p i 0, even-of (get_or p i 0) (omega arith))

module _ (p : List ℕ) (i : ℕ) (h : length p ≤ i) where
  pub first-end : universals_first (drop i p) ≡ true
  unfolding universals_first
  first-end = rw (drop_of_length-le p {i = i} h)

  pub from_end : from_universal (drop i p) ≡ drop (length p) p
  unfolding from_universal
  from_end = rw (drop_of_length-le p {i = i} h, drop_of_length-le p {i = length p} (omega arith))
