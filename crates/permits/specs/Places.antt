-- The places of variables in a prefix.
-- Assumes nothing.
use Rattle.std.specs.Prelude.{ℕ, suc, Bool, ◌||◌, not, cond, List, [], ◌∷◌, leb}
use Rattle.meaning.specs.Lists.{all_of, has}
use Rattle.meaning.specs.Formula.{Formula, var, is_var}

-- the place of the variable's entry, where the first entry has the place k; 0 for no entry
unfoldable pub place_from : ℕ → List ℕ → ℕ → ℕ
place_from k [] v = 0
place_from k (q ∷ p) v = cond (is_var v q) k (place_from (suc k) p v)

-- the leftmost entry has the place 1
unfoldable pub place_of : List ℕ → ℕ → ℕ
place_of p v = place_from 1 p v

-- no variable of the clause stands behind place n; none, if the clause has the literal l; so in all clauses
unfoldable pub within : List ℕ → ℕ → List ℕ → Bool
within p n c = all_of (λ l. leb (place_of p (var l)) n) c

unfoldable pub near : List ℕ → ℕ → ℕ → List ℕ → Bool
near p l n c = not (has l c) || within p n c

unfoldable pub side_within : Formula → ℕ → ℕ → Bool
side_within φ l n = all_of (near φ.prefix l n) φ.clauses
