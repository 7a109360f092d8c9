-- The steps of kinds 6 and 7 (document 01, "Steps"): for each the test `..Permitted` and the raw result `..Raw`.
-- Assumes nothing.
use Rattle.std.specs.Prelude.{ℕ, ◌+◌, Bool, true, ◌&&◌, not, cond, List, [], ◌∷◌, ◌++◌, map, length, take}
use Rattle.meaning.specs.Lists.{all_of, keep_if, has, without, up_from}
use Rattle.meaning.specs.Formula.{Formula, var, odd, plain, negated, is_var, mentions, drop_var, existential, universal, right_of, any_exist}
use Rattle.rules.specs.Simplify.{assign}

-- 6. "Resolve (variable a): existential x, where every other variable in a clause with x stands left of the first universal
-- right of x, if there is one. x is dropped." ----------------------------------------------------------------
-- the clauses with a literal, and those without a variable
unfoldable pub with_lit : ℕ → List (List ℕ) → List (List ℕ)
with_lit l = keep_if (has l)

unfoldable pub without_var : ℕ → List (List ℕ) → List (List ℕ)
without_var v = keep_if (λ c. not (mentions c v))

-- this part of the prefix, from its first universal on
unfoldable pub from_universal : List ℕ → List ℕ
from_universal [] = []
from_universal (q ∷ p) = cond (odd q) (q ∷ p) (from_universal p)

-- no variable of the clause stands in this part of the prefix
unfoldable pub avoids : List ℕ → List ℕ → Bool
avoids p c = all_of (λ l. not (mentions p (var l))) c

-- the condition, for the clauses with the literal l
unfoldable pub near_side : Formula → ℕ → Bool
near_side φ l = all_of (avoids (from_universal (right_of (var l) φ.prefix))) (with_lit l φ.clauses)

unfoldable pub resolve_permitted : Formula → ℕ → Bool
resolve_permitted φ a = existential φ.prefix a && (near_side φ (plain a) && near_side φ (negated a))

-- "Clauses without x stay in order; then resolvents by positive clause, then negative, both-phase ones left out, tidied."
unfoldable pub resolvents_of : ℕ → List ℕ → List (List ℕ) → List (List ℕ)
resolvents_of a c [] = []
resolvents_of a c (d ∷ ds) = (without (plain a) c ++ without (negated a) d) ∷ resolvents_of a c ds

unfoldable pub resolvents : ℕ → List (List ℕ) → List (List ℕ) → List (List ℕ)
resolvents a [] ds = []
resolvents a (c ∷ cs) ds = resolvents_of a c ds ++ resolvents a cs ds

unfoldable pub resolve_raw : Formula → ℕ → Formula
resolve_raw φ a =
    record { prefix = drop_var a φ.prefix; clauses = without_var a φ.clauses ++ resolvents a (with_lit (plain a) φ.clauses) (with_lit (negated a) φ.clauses) }

-- 7. "Expand (variable a): universal u with no existential followed by a universal to its right." --------------
unfoldable pub all_exist : List ℕ → Bool
all_exist = all_of (λ q. not (odd q))

unfoldable pub universals_first : List ℕ → Bool
universals_first [] = true
universals_first (q ∷ p) = cond (odd q) (universals_first p) (all_exist p)

unfoldable pub expand_permitted : Formula → ℕ → Bool
expand_permitted φ a = universal φ.prefix a && universals_first (right_of a φ.prefix)

-- the existentials right of u, as entries
unfoldable pub inner : ℕ → List ℕ → List ℕ
inner a p = keep_if (λ q. not (odd q)) (right_of a p)

-- "Copies take the smallest numbers not in the prefix before the step": the n smallest are among 1 .. length p + n
unfoldable pub fresh : List ℕ → ℕ → List ℕ
fresh p n = take n (keep_if (λ v. not (mentions p v)) (up_from 1 (length p + n)))

-- "in prefix order": the variable of the i-th entry becomes the i-th number
unfoldable pub rename_var : List ℕ → List ℕ → ℕ → ℕ
rename_var [] fs v = v
rename_var (e ∷ es) [] v = v
rename_var (e ∷ es) (f ∷ fs) v = cond (is_var v e) f (rename_var es fs v)

unfoldable pub rename_lit : List ℕ → List ℕ → ℕ → ℕ
rename_lit es fs l = cond (odd l) (negated (rename_var es fs (var l))) (plain (rename_var es fs (var l)))

-- "Let f be the clauses with a variable right of u that is existential": f, and the other clauses
unfoldable pub touching : List ℕ → List (List ℕ) → List (List ℕ)
touching es = keep_if (λ c. any_exist es c)

unfoldable pub others : List ℕ → List (List ℕ) → List (List ℕ)
others es = keep_if (λ c. not (any_exist es c))

-- "First the other clauses; then f with u false; then f with u true and every existential right of u renamed, those in no
-- clause too. Copies .. stand at the right end. u is dropped." es: the existentials right of u; fs: the numbers of their copies
unfoldable pub expand_with : Formula → ℕ → List ℕ → List ℕ → Formula
expand_with φ a es fs =
    record {
      prefix = drop_var a φ.prefix ++ map plain fs;
      clauses = others es φ.clauses ++ (assign (negated a) (touching es φ.clauses) ++ map (map (rename_lit es fs)) (assign (plain a) (touching es φ.clauses)));
    }

unfoldable pub expand_raw : Formula → ℕ → Formula
expand_raw φ a = expand_with φ a (inner a φ.prefix) (fresh φ.prefix (length (inner a φ.prefix)))
