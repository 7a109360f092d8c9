-- Tidying, and building a list of clauses (document 01, "Tidy"). Reading and every step are: a new prefix, a list of raw
-- clauses (any lists of literals), and then `build`.
-- Assumes nothing.
use Rattle.std.specs.Prelude.{ℕ, Bool, ◌||◌, not, cond, List, [], ◌∷◌, ◌++◌, eqb, ltb}
use Rattle.meaning.specs.Lists.{any_of, keep_if, has, same}
use Rattle.meaning.specs.Formula.{Formula, var, opposite, universal, any_exist, right_of}

-- "Tidying drops repeats": the literals in ascending order, each once
unfoldable pub insert_new : ℕ → List ℕ → List ℕ
insert_new l [] = l ∷ []
insert_new l (k ∷ c) = cond (ltb l k) (l ∷ k ∷ c) (cond (eqb l k) (k ∷ c) (k ∷ insert_new l c))

unfoldable pub ascending : List ℕ → List ℕ
ascending [] = []
ascending (l ∷ c) = insert_new l (ascending c)

-- "drops a clause with both phases"
unfoldable pub both_phases : List ℕ → Bool
both_phases c = any_of (λ l. has (opposite l) c) c

-- "every universal in it has an existential of the clause to its right": so for the literal l of the clause c
unfoldable pub stays : List ℕ → List ℕ → ℕ → Bool
stays p c l = not (universal p (var l)) || any_exist (right_of (var l) p) c

-- "then removes universals with no existential to their right"
unfoldable pub reduce : List ℕ → List ℕ → List ℕ
reduce p c = keep_if (stays p c) c

-- what becomes of a clause
pub data Tidied : Type 0 where
  dropped : Tidied
  kept : List ℕ → Tidied

unfoldable pub tidy_sorted : List ℕ → List ℕ → Tidied
tidy_sorted p c = cond (both_phases c) dropped (kept (reduce p c))

unfoldable pub tidy : List ℕ → List ℕ → Tidied
tidy p c = tidy_sorted p (ascending c)

-- "Every list below is built in order; a clause equal to one already in the new list is dropped."
unfoldable pub add_tidied : List (List ℕ) → Tidied → List (List ℕ)
add_tidied cs dropped = cs
add_tidied cs (kept c) = cond (any_of (same c) cs) cs (cs ++ (c ∷ []))

unfoldable pub build_on : List ℕ → List (List ℕ) → List (List ℕ) → List (List ℕ)
build_on p cs [] = cs
build_on p cs (r ∷ raws) = build_on p (add_tidied cs (tidy p r)) raws

unfoldable pub build : List ℕ → List (List ℕ) → List (List ℕ)
build p raws = build_on p [] raws

-- a formula with raw clauses, tidied
unfoldable pub tidied : Formula → Formula
tidied r = record { prefix = r.prefix; clauses = build r.prefix r.clauses }
