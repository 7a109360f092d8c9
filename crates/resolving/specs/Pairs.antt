-- The resolvents, clause by clause. l is the plain literal of the variable and m the negated one.
-- Assumes nothing.
use Rattle.std.specs.Prelude.{ℕ, ◌+◌, ◌%◌, ◌^◌, ◌≤◌, ◌<◌, ◌≡◌, true, false, cond, length, drop}
use mathlib.Core.List.{List, [], ◌∷◌, ◌++◌, foldl}
use Rattle.std.specs.Int.Bits.{bit_or}
use Rattle.meaning.specs.Lists.{has}
use Rattle.meaning.specs.Formula.{Formula, opposite}
use Rattle.meaning.specs.WellFormed.{well_formed}
use Rattle.merging.specs.Merging.{joined}
use Rattle.rebuilds.specs.Raws.{with_raws}

-- what comes of each clause, one after the other
unfoldable pub each_of : (List ℕ → List (List ℕ)) → List (List ℕ) → List (List ℕ)
each_of f [] = []
each_of f (c ∷ cs) = f c ++ each_of f cs

-- of x, which has l, and y: a resolvent where y has m
unfoldable pub of_pair : ℕ → ℕ → List ℕ → List ℕ → List (List ℕ)
of_pair l m x y = cond (has m y) (joined l m x y ∷ []) []

-- of x and all clauses
unfoldable pub of_clause : ℕ → ℕ → List (List ℕ) → List ℕ → List (List ℕ)
of_clause l m cs x = cond (has l x) (each_of (of_pair l m x) cs) []

-- l and m are the two literals of a variable
pub record Phases (l m : ℕ) : Type 0 where
  pub low : l < 2047
  pub next : m ≡ l + 1
  pub back : opposite m ≡ l

-- whatever formula they are added to, the raw clauses change nothing; two lists of them come to the same
abbrev pub Idle : List (List ℕ) → Type 0
Idle raws = (ψ : Formula) → with_raws ψ raws ≡ ψ

abbrev pub Alike : List (List ℕ) → List (List ℕ) → Type 0
Alike xs ys = (ψ : Formula) → with_raws ψ xs ≡ with_raws ψ ys

-- nothing comes of a clause without m
abbrev pub Silent : ℕ → (List ℕ → List (List ℕ)) → Type 0
Silent m f = (y : List ℕ) → has m y ≡ false → f y ≡ []

-- Of the formula, which is well formed, the clauses with m are among those from one to another: whatever comes of clauses with m only comes
-- of these.
pub record Within (l m : ℕ) (φ : Formula) (from to : ℕ) : Type 0 where
  pub well : well_formed φ ≡ true
  pub phases : Phases l m
  pub order : from ≤ to
  pub few : to ≤ length φ.clauses
  pub skips : (f : List ℕ → List (List ℕ)) → Silent m f → each_of f φ.clauses ≡ each_of f (drop from φ.clauses)
  pub ends : (f : List ℕ → List (List ℕ)) → Silent m f → each_of f (drop to φ.clauses) ≡ []

-- the opposites of a clause's literals, as 64 bits: each by its last six
unfoldable pub opposite_on : ℕ → ℕ → ℕ
opposite_on bits l = bit_or bits (2 ^ (opposite l % 64))

unfoldable pub opposite_bits : List ℕ → ℕ
opposite_bits c = foldl opposite_on 0 c
