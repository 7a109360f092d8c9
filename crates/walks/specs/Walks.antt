-- What walking two clauses together finds.
-- Assumes nothing.
use Rattle.std.specs.Prelude.{ℕ, Bool, List}
use Rattle.meaning.specs.Lists.{any_of}
use Rattle.rules.specs.Simplify.{strengthens}

-- some literal of the clause x strengthens the clause y
unfoldable pub some_strengthens : List ℕ → List ℕ → List ℕ → Bool
some_strengthens p x y = any_of (strengthens p x y) x
