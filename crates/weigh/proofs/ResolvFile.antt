-- What the index tells of the pairs: the clauses of one, and how many there are.
-- Assumes nothing.
use Prim.Native.Nat.{ℕ, ◌+◌, ◌*◌, ◌/◌, ◌%◌, ◌≤◌, ◌<◌}
use mathlib.Core.Path.{◌≡◌, sym, ap, ◌∙◌}
use mathlib.Core.List.{List, []}
use lib.ListN.{length, get_or}
use native.Mathlib.Omega.{arith}
use native.Mathlib.Nat.{zero-mul, suc-mul, mul-le-mul, div-lt_iff_lt-mul, div-eq_of_lt, mod-eq_of_lt, mul-add-div_right, mul-add-mod_self_right}
use native.Mathlib.Numerals.{add-one}
use Rattle.meaning.specs.Formula.{Formula, plain, negated}
use Rattle.rules.specs.Eliminate.{with_lit}
use Rattle.index.specs.Index.{Indexes}
use Rattle.weigh.specs.Resolving.{raw_resolvents, pairs, positive_at, negative_at, Placed, PairOf}
use Rattle.weigh.specs.declared.pairing.Pair.{Pair}
use Rattle.sides.proofs.FileLaws.{listed-few}
use Rattle.weigh.proofs.ResolvPairs.{pairs-length, some-negative}

-- The clauses of a pair ----------------------------------------------------------------------------------------------------
pub placed_first : (n : ℕ) → Placed n (record { number = 0; row = 0; column = 0 })
placed_first n = record { whole = omega (arith, zero-mul n); inside = λ h. h }

module _ (n : ℕ) (p : Pair) (g : Placed n p) (some : 0 < n) where
  -- the next in the row, or the first of the next row
  pub placed-next : p.column + 1 < n → Placed n (record { number = p.number + 1; row = p.row; column = p.column + 1 })
  placed-next h = record { whole = omega (arith, g.whole); inside = λ z. h }

  pub placed_row : n ≤ p.column + 1 → Placed n (record { number = p.number + 1; row = p.row + 1; column = 0 })
  placed_row h =
      let e : (p.row + 1) * n ≡ p.row * n + n = rw add-one (suc-mul p.row n ∙ omega arith) in
      record { whole = omega (arith, g.whole, g.inside some, e); inside = λ z. some }

  row_is : p.number / n ≡ p.row
  row_is = rw (g.whole, mul-add-div_right {m = n} some p.row p.column, div-eq_of_lt (g.inside some)) (omega arith)

  column-is : p.number % n ≡ p.column
  column-is = rw (g.whole, mul-add-mod_self_right p.row n p.column, mod-eq_of_lt (g.inside some))

pub pair_of : (φ : Formula) (a n : ℕ) (p : Pair) → n ≡ length (with_lit (2 * a + 1) φ.clauses) → p.number < pairs φ a → Placed n p
    → PairOf φ a p
unfolding negated
pair_of φ a n p e h g = record { there = h; placed = rw (← e) g }

module _ (φ : Formula) (a : ℕ) (p : Pair) (g : PairOf φ a p) where
  pub some_pairs : 0 < length (with_lit (2 * a + 1) φ.clauses)
  unfolding pairs raw_resolvents negated
  some_pairs = some-negative a (with_lit (plain a) φ.clauses) (with_lit (negated a) φ.clauses) p.number g.there

  pub pair-whole : (n : ℕ) → n ≡ length (with_lit (2 * a + 1) φ.clauses) → p.number ≡ p.row * n + p.column
  unfolding negated
  pair-whole n e = rw e g.placed.whole

  pub pair_row : p.row ≡ p.number / length (with_lit (2 * a + 1) φ.clauses)
  unfolding negated
  pair_row = sym (row_is (length (with_lit (2 * a + 1) φ.clauses)) p g.placed some_pairs)

  pub pair-column : p.column ≡ p.number % length (with_lit (2 * a + 1) φ.clauses)
  unfolding negated
  pair-column = sym (column-is (length (with_lit (2 * a + 1) φ.clauses)) p g.placed some_pairs)

  pub positive-there : p.row < length (with_lit (2 * a) φ.clauses)
  unfolding pairs raw_resolvents plain negated
  positive-there =
      rw pair_row
      ((div-lt_iff_lt-mul some_pairs).1 (omega (arith, g.there, pairs-length a (with_lit (plain a) φ.clauses) (with_lit (negated a) φ.clauses))))

  pub negative-there : p.column < length (with_lit (2 * a + 1) φ.clauses)
  unfolding negated
  negative-there = g.placed.inside some_pairs

  pub positive-is : get_or (with_lit (2 * a) φ.clauses) p.row [] ≡ positive_at φ a p.number
  unfolding positive_at plain negated
  positive-is = ap (λ (i : ℕ). get_or (with_lit (2 * a) φ.clauses) i []) pair_row

  pub negative-is : get_or (with_lit (2 * a + 1) φ.clauses) p.column [] ≡ negative_at φ a p.number
  unfolding negative_at plain negated
  negative-is = ap (λ (i : ℕ). get_or (with_lit (2 * a + 1) φ.clauses) i []) pair-column

-- How many pairs there are -----------------------------------------------------------------------------------------------
pub pairs-few : {φ : Formula} {index : List ℕ} → Indexes φ index → (a : ℕ) → pairs φ a ≤ 4190209
unfolding pairs raw_resolvents
pairs-few {φ} {index} h a =
    omega (
      arith,
      pairs-length a (with_lit (plain a) φ.clauses) (with_lit (negated a) φ.clauses),
      mul-le-mul (listed-few h (plain a)) (listed-few h (negated a)),
    )

pub pairs-are : (φ : Formula) (a m n : ℕ) → m ≡ length (with_lit (2 * a) φ.clauses) → n ≡ length (with_lit (2 * a + 1) φ.clauses)
    → m * n ≡ pairs φ a
unfolding pairs raw_resolvents plain negated
pairs-are φ a m n e d = rw (e, d) (sym (pairs-length a (with_lit (plain a) φ.clauses) (with_lit (negated a) φ.clauses)))
