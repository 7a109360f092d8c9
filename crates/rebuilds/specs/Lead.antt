-- The clauses up to the first that changes, copied as they stand. What the answers mean. q is the new prefix.
-- Assumes nothing.
use Rattle.std.specs.Prelude.{ℕ, Bool, List, Option, Some, None, drop}
use Rattle.meaning.specs.Formula.{Formula}
use Rattle.table.specs.Answer.{Built}
use Rattle.table.specs.declared.Counts.{Counts}
use Rattle.rebuilds.specs.Raws.{with_raws, Going}
use Rattle.recipes.specs.Recipe.{raws_by}
use Rattle.recipes.specs.declared.Which.{Which}
use Rattle.recipes.specs.declared.Turn.{Turn}

-- what becomes of all clauses was to come to ψ: it is on the way from clause i on, or does not fit
unfoldable pub Led : Which → Turn → List (List ℕ) → Formula → Bool → Option (ℕ × Counts) → List ℕ → Type 0
Led w u cs ψ s (Some p) t' = Going ψ (raws_by w u ψ.prefix 0 cs) (raws_by w u ψ.prefix p.0 (drop p.0 cs)) s t' p.1
Led w u cs ψ s None t' = Built (with_raws ψ (raws_by w u ψ.prefix 0 cs)) s None t'
