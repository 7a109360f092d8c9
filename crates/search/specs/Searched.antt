-- Clauses that were searched: kinds 3 and 4 have no candidate among them. After most steps the first clauses of the result are such, since
-- they stood in a formula in which both kinds were looked for in vain. Then only the clauses behind them need a look.
-- Assumes nothing.
use Rattle.std.specs.Prelude.{ℕ, ◌≡◌, Bool, true, false, List, take}
use Rattle.meaning.specs.Lists.{any_of, part_of, same}
use Rattle.meaning.specs.Formula.{Formula}
use Rattle.walks.specs.Walks.{some_strengthens}

-- none of the clauses is a part of another, and none strengthens one. p is the prefix
pub record Searched (p : List ℕ) (cs : List (List ℕ)) : Type 0 where
  pub no-part : (x y : List ℕ) → any_of (same x) cs ≡ true → any_of (same y) cs ≡ true → same x y ≡ false → part_of x y ≡ false
  pub no-stronger : (x y : List ℕ) → any_of (same x) cs ≡ true → any_of (same y) cs ≡ true → some_strengthens p x y ≡ false

-- the first m clauses of the formula were searched
unfoldable pub SearchedTo : Formula → ℕ → Type 0
SearchedTo φ m = Searched φ.prefix (take m φ.clauses)

-- a test of two numbers fails for b with any other, on either side
pub record Alone (t : ℕ → ℕ → Bool) (b : ℕ) : Type 0 where
  pub left : (d : ℕ) → t b d ≡ false
  pub right : (a : ℕ) → t a b ≡ false
