-- Clauses that a step leaves as they were. v is the variable that is dropped, 0 where none is.
-- Assumes nothing.
use Rattle.std.specs.Prelude.{◌≡◌, ℕ, Bool, true, false, ◌&&◌, not, List, ◌++◌, eqb}
use Rattle.meaning.specs.Lists.{all_of, any_of, same}
use Rattle.meaning.specs.Formula.{Formula, var, odd, mentions, drop_var}
use Rattle.meaning.specs.Tidy.{kept, tidy}
use Rattle.meaning.specs.WellFormed.{well_formed}
use Rattle.recipes.specs.Recipe.{fed}
use Rattle.recipes.specs.declared.Turn.{Turn}
use Rattle.recipes.specs.declared.Turn.TheVariants.{Same, Drop, DropAt, Replace, Copy}

-- a turn for every clause changes literals of v only; one for a single clause, and one that leaves no clause, may change any
unfoldable pub about : Turn → ℕ → Bool
about Same v = true
about (Drop l) v = eqb (var l) v
about (DropAt b l) v = true
about (Replace l m) v = eqb (var l) v
about (Copy l s n) v = true

-- clause i is left as it was: it has no literal of v, and the turn is not about this clause
unfoldable pub left : Turn → ℕ → ℕ → List ℕ → Bool
left Same v i c = not (mentions c v)
left (Drop l) v i c = not (mentions c v)
left (DropAt b l) v i c = not (eqb i b) && not (mentions c v)
left (Replace l m) v i c = not (mentions c v)
left (Copy l s n) v i c = false

-- no clause is left as it was
unfoldable pub leaves_none : Turn → Bool
leaves_none Same = false
leaves_none (Drop l) = false
leaves_none (DropAt b l) = false
leaves_none (Replace l m) = false
leaves_none (Copy l s n) = true

-- the clause is none of the others, and what becomes of it is the clause, where it is left as it was. q is the new prefix
pub record Lasts (t : Turn) (v : ℕ) (q : List ℕ) (others : List (List ℕ)) (i : ℕ) (c : List ℕ) : Type 0 where
  pub apart : any_of (same c) others ≡ false
  pub stays : left t v i c ≡ true → tidy q (fed t q i c) ≡ kept c

-- the new prefix q is that of the well formed formula φ without v, with more existentials at the right end
pub record Shrunk (v : ℕ) (q : List ℕ) (φ : Formula) : Type 0 where
  pub well : well_formed φ ≡ true
  pub more : List ℕ
  pub prefix : q ≡ drop_var v φ.prefix ++ more
  pub exist : all_of (λ e. not (odd e)) more ≡ true
