-- The existential entries of a prefix.
-- Assumes nothing.
use Rattle.std.specs.Prelude.{ℕ, not, List, length}
use Rattle.meaning.specs.Lists.{keep_if}
use Rattle.meaning.specs.Formula.{odd}

-- how many entries are existential
unfoldable pub existentials : List ℕ → ℕ
existentials p = length (keep_if (λ q. not (odd q)) p)
