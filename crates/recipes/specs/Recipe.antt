-- Recipes: which clauses of the source are taken, and what becomes of their literals. q is the new prefix.
-- Assumes nothing.
use Rattle.std.specs.Prelude.{◌≡◌, ℕ, suc, ◌+◌, ◌-◌, ◌*◌, ◌%◌, Bool, true, ◌&&◌, not, cond, List, [], ◌∷◌, ◌++◌, eqb, ltb, get_or}
use Rattle.meaning.specs.Lists.{any_of, has}
use Rattle.meaning.specs.Formula.{Formula, var, opposite, drop_var}
use Rattle.rules.specs.Simplify.{replace_lit}
use Rattle.table.specs.Ranks.{ranks_of, good_entries}
use Rattle.table.specs.Pending.{in_range}
use Rattle.permits.specs.Places.{place_of}
use Rattle.recipes.specs.declared.Which.{Which}
use Rattle.recipes.specs.declared.Which.TheVariants.{All, But, Without, Free, Near, Far}
use Rattle.recipes.specs.declared.Turn.{Turn}
use Rattle.recipes.specs.declared.Turn.TheVariants.{Same, Drop, DropAt, Replace, Copy}

-- the ranks are those of the prefix
pub record Ready (q ranks : List ℕ) : Type 0 where
  pub good : good_entries q ≡ true
  pub ranked : ranks ≡ ranks_of q

-- they are those of some prefix
pub record Readied (ranks : List ℕ) : Type 0 where
  pub prefix : List ℕ
  pub ready : Ready prefix ranks

-- a variable of the clause stands behind place s
unfoldable pub reaches : List ℕ → ℕ → List ℕ → Bool
reaches q s c = any_of (λ l. ltb s (place_of q (var l))) c

-- neither the literal nor its opposite is there
unfoldable pub neither : ℕ → List ℕ → Bool
neither l c = not (has l c) && not (has (opposite l) c)

-- clause i is taken
unfoldable pub taken : Which → List ℕ → ℕ → List ℕ → Bool
taken All q i c = true
taken (But b) q i c = not (eqb i b)
taken (Without l) q i c = not (has l c)
taken (Free l) q i c = neither l c
taken (Near s) q i c = not (reaches q s c)
taken (Far s l) q i c = reaches q s c && not (has l c)

-- a literal less: 0 is none
unfoldable pub less : ℕ → ℕ → ℕ
less l k = cond (eqb k l) 0 k

-- the same phase of the variable n places further right
unfoldable pub copy_of : List ℕ → ℕ → ℕ → ℕ
copy_of q n k = 2 * var (get_or q (place_of q (var k) - 1 + n) 0) + k % 2

unfoldable pub copied : List ℕ → ℕ → ℕ → ℕ → ℕ
copied q s n k = cond (ltb s (place_of q (var k))) (copy_of q n k) k

-- what becomes of the literal k of clause i
unfoldable pub turned : Turn → List ℕ → ℕ → ℕ → ℕ
turned Same q i k = k
turned (Drop l) q i k = less l k
turned (DropAt b l) q i k = cond (eqb i b) (less l k) k
turned (Replace l m) q i k = replace_lit l m k
turned (Copy l s n) q i k = cond (eqb k l) 0 (copied q s n k)

-- the literal, where it is one
unfoldable pub some_of : ℕ → List ℕ
some_of k = cond (in_range k) (k ∷ []) []

-- the raw clause that clause i becomes
unfoldable pub fed : Turn → List ℕ → ℕ → List ℕ → List ℕ
fed t q i [] = []
fed t q i (k ∷ c) = some_of (turned t q i k) ++ fed t q i c

unfoldable pub raw_by : Which → Turn → List ℕ → ℕ → List ℕ → List (List ℕ)
raw_by w t q i c = cond (taken w q i c) (fed t q i c ∷ []) []

-- and all clauses from clause i on
unfoldable pub raws_by : Which → Turn → List ℕ → ℕ → List (List ℕ) → List (List ℕ)
raws_by w t q i [] = []
raws_by w t q i (c ∷ cs) = raw_by w t q i c ++ raws_by w t q (suc i) cs

-- the raw result of a recipe: the prefix without a variable, and what becomes of the clauses
unfoldable pub remade : Which → Turn → ℕ → Formula → Formula
remade w t v φ = record { prefix = drop_var v φ.prefix; clauses = raws_by w t (drop_var v φ.prefix) 0 φ.clauses }
