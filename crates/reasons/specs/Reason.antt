-- Why a variable is left (request 2, "Say why this one is left"): the reason for a variable v of the prefix of a formula φ, with the
-- allowance E. What a reason says of the formula, without any search, stands in Statement.antt.
-- Assumes nothing.
use Rattle.std.specs.Prelude.{ℕ, suc, Bool, true, false, ◌&&◌, not, cond, List, [], ◌∷◌, leb, length}
use Rattle.meaning.specs.Lists.{all_of, first_passing}
use Rattle.meaning.specs.Formula.{Formula, var, odd, mentions, universal, right_of}
use Rattle.meaning.specs.WellFormed.{max_variables, max_clauses, max_literals, literals, weight}
use Rattle.rules.specs.Simplify.{clause_at}
use Rattle.rules.specs.Eliminate.{from_universal, avoids}
use Rattle.rules.specs.Entry.{resolve, expand, entry}
use Rattle.rules.specs.Step.{permitted, result_of}
use Rattle.rules.specs.Choice.{costly, light, allowed_call}
use Rattle.rules.specs.Run.{true_end, false_end, finished, out_of_room, Next, over, step, next}

-- the limits, "of variables, clauses, literals"
pub data Limit : Type 0 where
  of_variables of_clauses of_literals : Limit

-- The reasons, each with the values that it names:
-- verdict: TRUE or FALSE; next_entry: the run's next log entry; own_entry: the entry of the step on the variable, which counts;
-- too_far_right i y u, of an existential: clause i has the variable y, which does not stand left of the universal u;
-- not_lighter, of an existential: the weight, and the weight after resolving;
-- between e w, of a universal: the existential e and the universal w after it stand to its right;
-- too_heavy, of a universal: the weight, and the weight after expanding, which is more than E over it;
-- over_limit: the limit that the result of the step on the variable would pass first.
pub data Reason : Type 0 where
  verdict : Bool → Reason
  next_entry own_entry : ℕ → Reason
  too_far_right : ℕ → ℕ → ℕ → Reason
  not_lighter between too_heavy : ℕ → ℕ → Reason
  over_limit : Limit → Reason

-- Clauses and variables that block -----------------------------------------------------------------------------
-- "the first universal right of x"
unfoldable pub universal_after : Formula → ℕ → ℕ
universal_after φ x = var (first_passing odd (right_of x φ.prefix))

-- the leftmost existential right of u
unfoldable pub existential_after : Formula → ℕ → ℕ
existential_after φ u = var (first_passing (λ q. not (odd q)) (right_of u φ.prefix))

-- "too far right" for x is what kind 6 forbids: the part of the prefix from the first universal right of x on
unfoldable pub far_part : Formula → ℕ → List ℕ
far_part φ x = from_universal (right_of x φ.prefix)

-- the clause has x, and a variable of that part
unfoldable pub reaches_far : List ℕ → ℕ → List ℕ → Bool
reaches_far far x c = mentions c x && not (avoids far c)

-- the index of the first clause that passes; how many there are, if none does
unfoldable pub first_index : (List ℕ → Bool) → List (List ℕ) → ℕ
first_index f [] = 0
first_index f (c ∷ cs) = cond (f c) 0 (suc (first_index f cs))

-- "the lowest clause with a variable too far right"
unfoldable pub far_clause : Formula → ℕ → ℕ
far_clause φ x = first_index (reaches_far (far_part φ x) x) φ.clauses

-- the leftmost variable of a clause in this part of the prefix
unfoldable pub leftmost_in : List ℕ → List ℕ → ℕ
leftmost_in p c = var (first_passing (λ q. mentions c (var q)) p)

-- "its leftmost such variable"
unfoldable pub far_variable : Formula → ℕ → ℕ
far_variable φ x = leftmost_in (far_part φ x) (clause_at φ.clauses (far_clause φ x))

-- Limits ---------------------------------------------------------------------------------------------------------
-- the formula does not pass the limit; "a copy numbered over 1,023 passes that of variables"
unfoldable pub within : Limit → Formula → Bool
within of_variables ψ = leb (length ψ.prefix) max_variables && all_of (λ q. leb (var q) max_variables) ψ.prefix
within of_clauses ψ = leb (length ψ.clauses) max_clauses
within of_literals ψ = leb (literals ψ.clauses) max_literals

-- "the first limit it would pass, of variables, clauses, literals"
unfoldable pub first_limit : Formula → Limit
first_limit ψ = cond (not (within of_variables ψ)) of_variables (cond (not (within of_clauses ψ)) of_clauses of_literals)

-- The reason -----------------------------------------------------------------------------------------------------
-- "Where kind 6 or 7 on the variable counts, the answer is that step's entry." "For an existential x: the lowest clause with a
-- variable too far right, its leftmost such variable and the first universal right of x; else both weights, when resolving wouldn't
-- lower it; else the first limit it would pass"
unfoldable pub why_existential : ℕ → Formula → ℕ → Reason
why_existential E φ x =
    cond (allowed_call E φ resolve x 0) (own_entry (entry resolve x 0))
    (cond (not (permitted φ resolve x 0)) (too_far_right (far_clause φ x) (far_variable φ x) (universal_after φ x))
    (cond (not (light E resolve (weight φ) (weight (result_of φ resolve x 0)))) (not_lighter (weight φ) (weight (result_of φ resolve x 0)))
    (over_limit (first_limit (result_of φ resolve x 0)))))

-- "For a universal: the leftmost existential and the first universal after it that block it; else the rise against E; else the limit."
unfoldable pub why_universal : ℕ → Formula → ℕ → Reason
why_universal E φ u =
    cond (allowed_call E φ expand u 0) (own_entry (entry expand u 0))
    (cond (not (permitted φ expand u 0)) (between (existential_after φ u) (universal_after φ (existential_after φ u)))
    (cond (not (light E expand (weight φ) (weight (result_of φ expand u 0)))) (too_heavy (weight φ) (weight (result_of φ expand u 0)))
    (over_limit (first_limit (result_of φ expand u 0)))))

unfoldable pub why_left : ℕ → Formula → ℕ → Reason
why_left E φ v = cond (universal φ.prefix v) (why_universal E φ v) (why_existential E φ v)

-- "Before these: a formula with a verdict gives the verdict, one with a candidate of kinds 1 to 5 gives the run's next log entry."
-- By what is next in the run
unfoldable pub reason_at : ℕ → Formula → ℕ → Next → Reason
reason_at E φ v (over true_end) = verdict true
reason_at E φ v (over false_end) = verdict false
reason_at E φ v (over finished) = why_left E φ v
reason_at E φ v (over out_of_room) = why_left E φ v
reason_at E φ v (step k a b) = cond (costly k) (why_left E φ v) (next_entry (entry k a b))

unfoldable pub reason_of : ℕ → Formula → ℕ → Reason
reason_of E φ v = reason_at E φ v (next E φ)
