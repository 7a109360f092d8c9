-- Step 6, resolve, resolvent by resolvent: what the k-th of them is, and the result with the first k only.
-- Assumes nothing.
use Rattle.std.specs.Prelude.{◌≡◌, ℕ, ◌+◌, ◌*◌, ◌/◌, ◌%◌, ◌≤◌, ◌<◌, Bool, true, List, [], length, get_or, take, drop}
use Rattle.meaning.specs.Lists.{any_of}
use Rattle.meaning.specs.Formula.{Formula, plain, negated, mentions, drop_var, right_of}
use Rattle.meaning.specs.WellFormed.{weight}
use Rattle.meaning.specs.Tidy.{Tidied, tidy, build_on}
use Rattle.rules.specs.Eliminate.{with_lit, without_var, resolvents, from_universal}
use Rattle.table.specs.Table.{counts_of}
use Rattle.table.specs.declared.Counts.{Counts}
use Rattle.resolvents.specs.Resolvent.{resolvent, becomes}
use Rattle.weigh.specs.declared.pairing.Pair.{Pair}

-- The prefix that is left, and the clauses that stay -----------------------------------------------------------------
abbrev pub rest_of : Formula → ℕ → List ℕ
rest_of φ a = drop_var a φ.prefix

abbrev pub stay_of : Formula → ℕ → List (List ℕ)
stay_of φ a = without_var a φ.clauses

-- n entries stand left of the first universal right of a; where there is none, n are all or more
abbrev pub FirstUniversal : Formula → ℕ → ℕ → Type 0
FirstUniversal φ a n = mentions φ.prefix a ≡ true → from_universal (right_of a φ.prefix) ≡ drop n φ.prefix

-- The pairs ----------------------------------------------------------------------------------------------------------
-- "by positive clause, then negative": the clauses of pair k
unfoldable pub positive_at : Formula → ℕ → ℕ → List ℕ
positive_at φ a k = get_or (with_lit (plain a) φ.clauses) (k / length (with_lit (negated a) φ.clauses)) []

unfoldable pub negative_at : Formula → ℕ → ℕ → List ℕ
negative_at φ a k = get_or (with_lit (negated a) φ.clauses) (k % length (with_lit (negated a) φ.clauses)) []

-- what becomes of pair k
unfoldable pub resolvent_at : Formula → ℕ → ℕ → Tidied
resolvent_at φ a k = tidy (rest_of φ a) (resolvent a (positive_at φ a k) (negative_at φ a k))

-- all resolvents in order, raw, and how many pairs there are
unfoldable pub raw_resolvents : Formula → ℕ → List (List ℕ)
raw_resolvents φ a = resolvents a (with_lit (plain a) φ.clauses) (with_lit (negated a) φ.clauses)

unfoldable pub pairs : Formula → ℕ → ℕ
pairs φ a = length (raw_resolvents φ a)

-- pair p, told by its number and by those of its clauses, where n clauses are negative
pub record Placed (n : ℕ) (p : Pair) : Type 0 where
  pub whole : p.number ≡ p.row * n + p.column
  pub inside : 0 < n → p.column < n

pub record PairOf (φ : Formula) (a : ℕ) (p : Pair) : Type 0 where
  pub there : p.number < pairs φ a
  pub placed : Placed (length (with_lit (negated a) φ.clauses)) p

-- The result, step by step -------------------------------------------------------------------------------------------
-- the result with the first k resolvents only
unfoldable pub resolved_to : Formula → ℕ → ℕ → Formula
resolved_to φ a k =
    record { prefix = rest_of φ a; clauses = build_on (rest_of φ a) (stay_of φ a) (take k (raw_resolvents φ a)) }

-- one of the first k resolvents is the clause c
unfoldable pub came_before : Formula → ℕ → ℕ → List ℕ → Bool
came_before φ a k c = any_of (λ raw. becomes c (tidy (rest_of φ a) raw)) (take k (raw_resolvents φ a))

-- one of the resolvents of the clause x with the first m negative clauses is the clause c
unfoldable pub any_gives : Formula → ℕ → List ℕ → ℕ → List ℕ → Bool
any_gives φ a x m c =
    any_of (λ y. becomes c (tidy φ.prefix (resolvent a x y))) (take m (with_lit (negated a) φ.clauses))

-- one of the resolvents of the positive clause i with the first m negative ones is the clause c
unfoldable pub row_gives : Formula → ℕ → ℕ → ℕ → List ℕ → Bool
row_gives φ a i m c =
    any_of (λ raw. becomes c (tidy (rest_of φ a) raw)) (take m (drop (i * length (with_lit (negated a) φ.clauses)) (raw_resolvents φ a)))

-- after k pairs: small enough counts for sums
pub record Bounded (k : ℕ) (d : Counts) : Type 0 where
  pub variables : d.variables ≤ 1023
  pub clauses : d.clauses ≤ 2047 + k
  pub all-literals : d.literals ≤ 8191 + 1023 * k

-- the counts of the result with some of the resolvents: with all of them, unless these reach the bound already
pub record CountedTo (φ : Formula) (a below : ℕ) (d : Counts) : Type 0 where
  pub some : ℕ
  pub counted : d ≡ counts_of (resolved_to φ a some) d.second
  pub whole : weight (resolved_to φ a some) < below → some ≡ pairs φ a
