-- The steps of kinds 1 to 5 (document 01, "Steps"): for each the test `..Permitted` and the raw result `..Raw`, which is the new
-- prefix and the new clauses before they are tidied.
-- Assumes nothing.
use Rattle.std.specs.Prelude.{ℕ, zero, suc, Bool, true, false, ◌&&◌, not, cond, List, [], ◌∷◌, ◌++◌, map, eqb, ltb, length, get_or}
use Rattle.meaning.specs.Lists.{any_of, keep_if, has, part_of, without, same, first_passing}
use Rattle.meaning.specs.Formula.{Formula, var, plain, negated, opposite, mentions, drop_var, existential, universal, right_of}

-- clause a of the formula, and whether it is there
unfoldable pub clause_at : List (List ℕ) → ℕ → List ℕ
clause_at cs a = get_or cs a []

unfoldable pub is_clause : List (List ℕ) → ℕ → Bool
is_clause cs a = ltb a (length cs)

-- A literal becomes true: "Clauses with it go, its opposite is removed, rest tidied, variable dropped." -------
unfoldable pub without_lit : ℕ → List (List ℕ) → List (List ℕ)
without_lit l = keep_if (λ c. not (has l c))

unfoldable pub assign : ℕ → List (List ℕ) → List (List ℕ)
assign l cs = map (without (opposite l)) (without_lit l cs)

unfoldable pub becomes_true : ℕ → Formula → Formula
becomes_true l φ = record { prefix = drop_var (var l) φ.prefix; clauses = assign l φ.clauses }

-- 1. "Unit (clause a): its one literal becomes true." --------------------------------------------------------
unfoldable pub unit_clause : List ℕ → Bool
unit_clause [] = false
unit_clause (l ∷ []) = true
unit_clause (l ∷ k ∷ c) = false

unfoldable pub unit_permitted : Formula → ℕ → Bool
unit_permitted φ a = is_clause φ.clauses a && unit_clause (clause_at φ.clauses a)

unfoldable pub unit_raw : Formula → ℕ → Formula
unit_raw φ a = becomes_true (get_or (clause_at φ.clauses a) 0 0) φ

-- 2. "Pure (variable a): absent, it is dropped. Existential in one phase only: that literal becomes true. Universal in one
-- phase only: that literal becomes false. The rest is as in 1." ----------------------------------------------
unfoldable pub occurs : ℕ → List (List ℕ) → Bool
occurs l cs = any_of (has l) cs

unfoldable pub pure_permitted : Formula → ℕ → Bool
pure_permitted φ a = mentions φ.prefix a && not (occurs (plain a) φ.clauses && occurs (negated a) φ.clauses)

-- the literal that occurs (if none does, the negated one)
unfoldable pub pure_lit : List (List ℕ) → ℕ → ℕ
pure_lit cs a = cond (occurs (plain a) cs) (plain a) (negated a)

unfoldable pub pure_raw : Formula → ℕ → Formula
pure_raw φ a = cond (universal φ.prefix a) (becomes_true (opposite (pure_lit φ.clauses a)) φ) (becomes_true (pure_lit φ.clauses a) φ)

-- 3. "Subsume (a, b differ): clause a is a part of b; b goes." -----------------------------------------------
unfoldable pub subsume_permitted : Formula → ℕ → ℕ → Bool
subsume_permitted φ a b =
    is_clause φ.clauses a && (is_clause φ.clauses b && (not (eqb a b) && part_of (clause_at φ.clauses a) (clause_at φ.clauses b)))

-- the list with its element b replaced by the elements of new
unfoldable pub replace_at : List (List ℕ) → ℕ → List (List ℕ) → List (List ℕ)
replace_at [] b new = []
replace_at (c ∷ cs) zero new = new ++ cs
replace_at (c ∷ cs) (suc b) new = c ∷ replace_at cs b new

unfoldable pub subsume_raw : Formula → ℕ → Formula
subsume_raw φ b = record { prefix = φ.prefix; clauses = replace_at φ.clauses b [] }

-- 4. "Strengthen (a, b): a has an existential literal whose opposite is in b, and all a's others are in b. The opposite leaves
-- b, which is tidied and keeps its place." -------------------------------------------------------------------
unfoldable pub strengthens : List ℕ → List ℕ → List ℕ → ℕ → Bool
strengthens p c d l = existential p (var l) && (has (opposite l) d && part_of (without l c) d)

unfoldable pub strengthen_permitted : Formula → ℕ → ℕ → Bool
strengthen_permitted φ a b =
    is_clause φ.clauses a && (is_clause φ.clauses b && any_of (strengthens φ.prefix (clause_at φ.clauses a) (clause_at φ.clauses b)) (clause_at φ.clauses a))

-- that literal of a; in a tidy clause there is only one
unfoldable pub strengthen_lit : Formula → ℕ → ℕ → ℕ
strengthen_lit φ a b = first_passing (strengthens φ.prefix (clause_at φ.clauses a) (clause_at φ.clauses b)) (clause_at φ.clauses a)

unfoldable pub strengthen_raw : Formula → ℕ → ℕ → Formula
strengthen_raw φ a b =
    record { prefix = φ.prefix; clauses = replace_at φ.clauses b (without (opposite (strengthen_lit φ a b)) (clause_at φ.clauses b) ∷ []) }

-- 5. "Equality (a < b): two two-literal clauses, each the other's literals negated. The right-hand variable is replaced by what
-- the pair says it equals, everywhere; all clauses are tidied; the variable is dropped." ----------------------
unfoldable pub opposite_pair : List ℕ → List ℕ → Bool
opposite_pair [] d = false
opposite_pair (k ∷ []) d = false
opposite_pair (k ∷ l ∷ []) d = same d (opposite k ∷ opposite l ∷ [])
opposite_pair (k ∷ l ∷ m ∷ c) d = false

unfoldable pub equality_permitted : Formula → ℕ → ℕ → Bool
equality_permitted φ a b =
    ltb a b && (is_clause φ.clauses b && opposite_pair (clause_at φ.clauses a) (clause_at φ.clauses b))

-- the literal k becomes the literal l, and the opposite of k that of l
unfoldable pub replace_lit : ℕ → ℕ → ℕ → ℕ
replace_lit k l i = cond (eqb i k) l (cond (eqb i (opposite k)) (opposite l) i)

unfoldable pub replaced : ℕ → ℕ → Formula → Formula
replaced k l φ = record { prefix = drop_var (var k) φ.prefix; clauses = map (map (replace_lit k l)) φ.clauses }

-- the pair (k l) and its opposite say: k equals the opposite of l
unfoldable pub equality_of : ℕ → ℕ → Formula → Formula
equality_of k l φ = cond (mentions (right_of (var k) φ.prefix) (var l)) (replaced l (opposite k) φ) (replaced k (opposite l) φ)

unfoldable pub equality_raw : Formula → ℕ → Formula
equality_raw φ a = equality_of (get_or (clause_at φ.clauses a) 0 0) (get_or (clause_at φ.clauses a) 1 0) φ
