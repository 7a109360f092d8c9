-- Step 7: the copies, entries at the right end of a prefix, and the clauses by recipes.
-- Assumes nothing.
use Rattle.std.specs.Prelude.{ℕ, ◌+◌, ◌*◌, not, List, ◌++◌, map, take}
use Rattle.meaning.specs.Lists.{keep_if, up_from}
use Rattle.meaning.specs.Formula.{Formula, plain, mentions}
use Rattle.recipes.specs.Recipe.{raws_by}
use Rattle.recipes.specs.declared.Which.TheVariants.{Near, Far}
use Rattle.recipes.specs.declared.Turn.TheVariants.{Same, Drop, Copy}

-- more entries at the right end
unfoldable pub with_entries : Formula → List ℕ → Formula
with_entries ψ es = record { prefix = ψ.prefix ++ es; clauses = ψ.clauses }

-- entries of the smallest variables from v on, among m numbers, that are not in the prefix p: at most so many
unfoldable pub copies_from : List ℕ → ℕ → ℕ → ℕ → List ℕ
copies_from p left v m = map plain (take left (keep_if (λ w. not (mentions p w)) (up_from v m)))

-- The clauses by recipes, for the universal v: the inner existentials stand behind place s of the new prefix q, each with its
-- copy n places further right. "then f with u false; then f with u true and every existential right of u renamed"
unfoldable pub halves_by : ℕ → ℕ → ℕ → List ℕ → List (List ℕ) → List (List ℕ)
halves_by v s n q cs = raws_by (Far s (2 * v + 1)) (Drop (2 * v)) q 0 cs ++ raws_by (Far s (2 * v)) (Copy (2 * v + 1) s n) q 0 cs

-- "First the other clauses"
unfoldable pub expanded_by : ℕ → ℕ → ℕ → List ℕ → List (List ℕ) → List (List ℕ)
expanded_by v s n q cs = raws_by (Near s) Same q 0 cs ++ halves_by v s n q cs
