-- The ranks of a prefix: for each variable its place and its quantifier in one number. The code reduces clauses by them;
-- over a good prefix that is document 01's reduction (proofs).
-- Assumes nothing.
use Rattle.std.specs.Prelude.{◌≡◌, ℕ, suc, ◌+◌, ◌*◌, ◌/◌, ◌%◌, max, Bool, true, ◌&&◌, ◌||◌, not, cond, List, [], ◌∷◌, map, ltb, leb, get_or}
use Rattle.meaning.specs.Lists.{all_of, keep_if, up_from}
use Rattle.meaning.specs.Formula.{var, odd, is_var, mentions}
use Rattle.meaning.specs.WellFormed.{good_prefix, max_variables}

-- twice the place of the variable's entry, where the first entry has the place k, and 1 more for a universal; 0 for no entry
unfoldable pub rank_from : ℕ → List ℕ → ℕ → ℕ
rank_from k [] v = 0
rank_from k (q ∷ p) v = cond (is_var v q) (2 * k + q % 2) (rank_from (suc k) p v)

-- the ranks of the variables 0 to 1,023; the leftmost entry has the place 1
unfoldable pub ranks_of : List ℕ → List ℕ
ranks_of p = map (rank_from 1 p) (up_from 0 1024)

-- an entry that may be added to the prefix: its variable is 1 to 1,023 and not there yet
unfoldable pub rankable : List ℕ → ℕ → Bool
rankable p q = ltb 0 (var q) && (leb (var q) max_variables && not (mentions p (var q)))

-- every entry may be added after those before it: a good prefix with its numbers in range
unfoldable pub good_entries : List ℕ → Bool
good_entries p = good_prefix p && all_of (λ q. leb (var q) max_variables) p

-- what ranking a prefix says and leaves
pub record Ranked (p : List ℕ) (r : Bool) (ranks : List ℕ) : Type 0 where
  pub answer : r ≡ good_entries p
  pub table : r ≡ true → ranks ≡ ranks_of p

-- the literal's variable has a place in the ranks
unfoldable pub small : ℕ → Bool
small l = leb (var l) max_variables

-- Reduction by ranks -------------------------------------------------------------------------------------------
-- the rank and the place of a literal's variable
unfoldable pub rank_at : List ℕ → ℕ → ℕ
rank_at ranks l = get_or ranks (var l) 0

unfoldable pub place_at : List ℕ → ℕ → ℕ
place_at ranks l = rank_at ranks l / 2

-- the rightmost place of e and of the existentials of a clause
unfoldable pub later_by : List ℕ → ℕ → ℕ → ℕ
later_by ranks e l = cond (odd (rank_at ranks l)) e (max e (place_at ranks l))

unfoldable pub last_by : List ℕ → ℕ → List ℕ → ℕ
last_by ranks e [] = e
last_by ranks e (l ∷ c) = last_by ranks (later_by ranks e l) c

-- what is no universal stays, and so does a universal left of place e
unfoldable pub stays_by : List ℕ → ℕ → ℕ → Bool
stays_by ranks e l = not (odd (rank_at ranks l)) || ltb (place_at ranks l) e

unfoldable pub reduced_by : List ℕ → List ℕ → List ℕ
reduced_by ranks c = keep_if (stays_by ranks (last_by ranks 0 c)) c
