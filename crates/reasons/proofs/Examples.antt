-- A reason of each kind, computed. No small formula has a limit as its reason: to pass a limit by a step that is light enough it has to
-- weigh over a thousand itself (E is at most 1,000). So the first limit is computed apart. Assumes nothing.
use mathlib.Core.Path.{◌≡◌, refl}
use Prim.Native.Nat.{ℕ}
use mathlib.Core.Bool.{true, false}
use mathlib.Core.List.{List, [], ◌∷◌, map}
use lib.ListN.{replicate}
use Rattle.meaning.specs.Lists.{all_of, any_of, keep_if, has, part_of, without, same, first_passing, up_from}
use Rattle.meaning.specs.Formula.{Formula, plain, negated, var, odd, opposite, is_var, mentions, drop_var, existential, universal, right_of, any_exist}
use Rattle.meaning.specs.Game.{empty_clause, no_clause}
use Rattle.meaning.specs.Tidy.{insert_new, ascending, both_phases, stays, reduce, tidy_sorted, tidy, add_tidied, build_on, build, tidied}
use Rattle.meaning.specs.WellFormed.{literals, fits, weight}
use Rattle.rules.specs.Simplify.{clause_at, is_clause, without_lit, assign, becomes_true, unit_clause, unit_permitted, unit_raw, occurs, pure_permitted, pure_lit, pure_raw, subsume_permitted, replace_at, subsume_raw, strengthens, strengthen_permitted, strengthen_lit, strengthen_raw, opposite_pair, equality_permitted, replace_lit, replaced, equality_of, equality_raw}
use Rattle.rules.specs.Eliminate.{with_lit, without_var, from_universal, avoids, near_side, resolve_permitted, resolvents_of, resolvents, resolve_raw, all_exist, universals_first, expand_permitted, inner, fresh, rename_var, rename_lit, touching, others, expand_with, expand_raw}
use Rattle.rules.specs.Entry.{unit, resolve, expand, code, uses_b, entry}
use Rattle.rules.specs.Step.{permitted, raw_of, result_of}
use Rattle.rules.specs.Choice.{costly, light, wanted, allowed_call, blocked_call, indices, variables, firsts, seconds, or_else, first_b, first_pair, lighter, lightest, candidate, any_blocked, take_found, choose_of, choose}
use Rattle.rules.specs.Run.{next_of, next}
use Rattle.reasons.specs.Reason.{of_variables, of_clauses, of_literals, Reason, verdict, next_entry, own_entry, too_far_right, not_lighter, between, too_heavy, universal_after, existential_after, far_part, reaches_far, first_index, far_clause, leftmost_in, far_variable, within, first_limit, why_existential, why_universal, why_left, reason_at, reason_of}

abbrev make : List ℕ → List (List ℕ) → Formula
make p cs = record { prefix = p; clauses = cs }

record Row : Type 0 where
  formula : Formula
  allowance : ℕ
  variable : ℕ
  reason : Reason

-- `e 3 4 a 2 e 1`, (3 -4)(-1 4)(-1 -2 -3)(1 2)
abbrev far : Formula
far = make (6 ∷ 8 ∷ 5 ∷ 2 ∷ []) ((6 ∷ 9 ∷ []) ∷ (3 ∷ 8 ∷ []) ∷ (3 ∷ 5 ∷ 7 ∷ []) ∷ (2 ∷ 4 ∷ []) ∷ [])

-- `e 1 a 2 e 3`, (1 3)(-1 -2 -3)(2 3)
abbrev further : Formula
further = make (2 ∷ 5 ∷ 6 ∷ []) ((2 ∷ 6 ∷ []) ∷ (3 ∷ 5 ∷ 7 ∷ []) ∷ (4 ∷ 6 ∷ []) ∷ [])

-- `e 1 2 3 4 5`: 1 is the sum of 2 and 3, and that of 4 and 5 (modulo 2)
abbrev sums : Formula
sums = make (2 ∷ 4 ∷ 6 ∷ 8 ∷ 10 ∷ []) ((3 ∷ 4 ∷ 6 ∷ []) ∷ (3 ∷ 5 ∷ 7 ∷ []) ∷ (2 ∷ 4 ∷ 7 ∷ []) ∷ (2 ∷ 5 ∷ 6 ∷ []) ∷ (3 ∷ 8 ∷ 10 ∷ []) ∷ (3 ∷ 9 ∷ 11 ∷ []) ∷ (2 ∷ 8 ∷ 11 ∷ []) ∷ (2 ∷ 9 ∷ 10 ∷ []) ∷ [])

-- `a 1 e 2 3`, (1 -2)(2 3)(-1 -3)
abbrev one : Formula
one = make (3 ∷ 4 ∷ 6 ∷ []) ((2 ∷ 5 ∷ []) ∷ (4 ∷ 6 ∷ []) ∷ (3 ∷ 7 ∷ []) ∷ [])

-- `a 5 2 e 3 a 1 e 4`, (3 5)(2 3 -5)(-2 4 -5)(-1 -4)(1 -3 -4)
abbrev blocks : Formula
blocks = make (11 ∷ 5 ∷ 6 ∷ 3 ∷ 8 ∷ []) ((6 ∷ 10 ∷ []) ∷ (4 ∷ 6 ∷ 11 ∷ []) ∷ (5 ∷ 8 ∷ 11 ∷ []) ∷ (3 ∷ 9 ∷ []) ∷ (2 ∷ 7 ∷ 9 ∷ []) ∷ [])

abbrev rows : List Row
rows =
    -- no clause; an empty clause
    record { formula = make (2 ∷ []) []; allowance = 0; variable = 1; reason = verdict true } ∷
    record { formula = make (2 ∷ []) ([] ∷ []); allowance = 0; variable = 1; reason = verdict false } ∷
    -- `e 1 2`, (1 2)(-2): whatever the variable, the run's next entry is unit of clause 1
    record { formula = make (2 ∷ 4 ∷ []) ((2 ∷ 4 ∷ []) ∷ (5 ∷ []) ∷ []); allowance = 0; variable = 1; reason = next_entry (entry unit 1 0) } ∷
    -- resolving 4 counts, though the run would take 2
    record { formula = sums; allowance = 0; variable = 4; reason = own_entry (entry resolve 4 0) } ∷
    -- expanding 1 takes the weight from 12 to 14: it counts with E = 2, and not with E = 1
    record { formula = one; allowance = 2; variable = 1; reason = own_entry (entry expand 1 0) } ∷
    record { formula = one; allowance = 1; variable = 1; reason = too_heavy 12 14 } ∷
    -- clause 0 has 3 with 4, which stands left of the universal 2; clause 1 has not 3; clause 2 has it with 1 and 2, which do not stand
    -- left of 2. Of these the leftmost is the universal itself
    record { formula = far; allowance = 0; variable = 3; reason = too_far_right 2 2 2 } ∷
    record { formula = far; allowance = 0; variable = 4; reason = too_far_right 1 1 2 } ∷
    -- clause 0 has 1 with 3, which stands right of 2
    record { formula = further; allowance = 0; variable = 1; reason = too_far_right 0 3 2 } ∷
    record { formula = sums; allowance = 0; variable = 1; reason = not_lighter 37 44 } ∷
    -- right of 5 stand the universal 2, then the existential 3, which is the leftmost, and the universal 1
    record { formula = blocks; allowance = 1000; variable = 5; reason = between 3 1 } ∷
    []

examples : map (λ (r : Row). reason_of r.allowance r.formula r.variable) rows ≡ map (λ (r : Row). r.reason) rows
unfolding reason_of reason_at why_left why_universal why_existential first_limit within far_variable leftmost_in far_clause first_index reaches_far far_part existential_after universal_after next next_of choose choose_of take_found any_blocked candidate lightest lighter first_pair first_b or_else seconds firsts variables indices blocked_call allowed_call wanted light costly result_of raw_of permitted entry uses_b code expand_raw expand_with others touching rename_lit rename_var fresh inner expand_permitted universals_first all_exist resolve_raw resolvents resolvents_of resolve_permitted near_side avoids from_universal without_var with_lit equality_raw equality_of replaced replace_lit equality_permitted opposite_pair strengthen_raw strengthen_lit strengthen_permitted strengthens subsume_raw replace_at subsume_permitted pure_raw pure_lit pure_permitted occurs unit_raw unit_permitted unit_clause becomes_true assign without_lit is_clause clause_at weight fits literals tidied build build_on add_tidied tidy tidy_sorted reduce stays both_phases ascending insert_new no_clause empty_clause any_exist right_of universal existential drop_var mentions is_var opposite odd var negated plain up_from first_passing same without part_of has keep_if any_of all_of
examples = refl

-- formulas that pass the limits: a variable numbered 1,024; 2,048 clauses; 8,192 literals; and all three
abbrev wide : List Formula
wide =
    make (2048 ∷ []) [] ∷
    make (2 ∷ []) (replicate 2048 (2 ∷ [])) ∷
    make (2 ∷ []) (replicate 8192 2 ∷ []) ∷
    make (2048 ∷ []) (replicate 8192 (2 ∷ [])) ∷
    []

limits : map first_limit wide ≡ of_variables ∷ of_clauses ∷ of_literals ∷ of_variables ∷ []
unfolding first_limit within literals all_of var
limits = refl
