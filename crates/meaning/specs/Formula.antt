-- Literals, prefix entries, clauses and formulas (document 01, "Table and limits"). All are the numbers of the work table.
-- Assumes nothing.
use Rattle.std.specs.Prelude.{ℕ, ◌+◌, ◌-◌, ◌*◌, ◌/◌, ◌%◌, Bool, ◌&&◌, not, cond, List, [], ◌∷◌, eqb}
use Rattle.meaning.specs.Lists.{any_of, keep_if, has}

-- A prenex CNF formula: the prefix, outermost variable first, and the clauses, each a list of literals.
pub record Formula : Type 0 where
  pub prefix : List ℕ
  pub clauses : List (List ℕ)

-- "A prefix entry is 2v (existential) or 2v+1 (universal); a literal is 2v (plain) or 2v+1 (negated)."
unfoldable pub plain : ℕ → ℕ
plain v = 2 * v

unfoldable pub negated : ℕ → ℕ
negated v = 2 * v + 1

-- the variable of a literal or of an entry
unfoldable pub var : ℕ → ℕ
var l = l / 2

-- a negated literal; a universal entry
unfoldable pub odd : ℕ → Bool
odd l = eqb (l % 2) 1

-- the opposite literal
unfoldable pub opposite : ℕ → ℕ
opposite l = cond (odd l) (l - 1) (l + 1)

-- the entry, or the literal, is of the variable v
unfoldable pub is_var : ℕ → ℕ → Bool
is_var v q = eqb (var q) v

-- one of the entries, or of the literals, is of the variable v
unfoldable pub mentions : List ℕ → ℕ → Bool
mentions p v = any_of (is_var v) p

-- a prefix, or a clause, without the variable v
unfoldable pub drop_var : ℕ → List ℕ → List ℕ
drop_var v = keep_if (λ q. not (is_var v q))

-- v is an existential, or a universal, of the prefix
unfoldable pub existential : List ℕ → ℕ → Bool
existential p v = has (2 * v) p

unfoldable pub universal : List ℕ → ℕ → Bool
universal p v = has (2 * v + 1) p

-- "Here only left (outer) and right (inner) are used": the part of the prefix to the right of v
unfoldable pub right_of : ℕ → List ℕ → List ℕ
right_of v [] = []
right_of v (q ∷ p) = cond (is_var v q) p (right_of v p)

-- an existential of the clause stands in this part of the prefix
unfoldable pub any_exist : List ℕ → List ℕ → Bool
any_exist p c = any_of (λ q. not (odd q) && mentions c (var q)) p
