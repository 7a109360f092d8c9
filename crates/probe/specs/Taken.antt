-- A table that was taken from the input: the lengths are not too large, and the table has the numbers of the bytes.
-- Assumes nothing.
use Rattle.std.specs.Prelude.{ℕ, ◌+◌, ◌*◌, ◌≤◌, List, length}
use Rattle.shows.specs.Numbers.{Filled}

-- `used` of `size` numbers stand in the bytes raw, and `more` bytes behind them
pub record Taken (t raw : List ℕ) (size used more : ℕ) : Type 0 where
  pub table : size ≤ length t
  pub given : used ≤ size
  pub bytes : 2 * used + more ≤ length raw
  pub filled : Filled raw used size t
