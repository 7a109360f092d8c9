-- The four shortcuts that document 01 warns of, each shown to be another step than ours, by the formulas of P7, P8 and P9 and one
-- for subsumption. (The whole table of worked examples is in the crate `edges`.) Assumes nothing.
use mathlib.Core.Path.{◌≡◌, refl}
use Prim.Native.Nat.{ℕ}
use mathlib.Core.List.{List, [], ◌∷◌, map}
use Rattle.meaning.specs.Lists.{all_of, any_of, keep_if, has, part_of, without, same, up_from}
use Rattle.meaning.specs.Formula.{Formula, plain, negated, var, odd, opposite, is_var, mentions, drop_var, existential, universal, right_of, any_exist}
use Rattle.meaning.specs.Tidy.{insert_new, ascending, both_phases, stays, reduce, tidy_sorted, tidy, add_tidied, build_on, build, tidied}
use Rattle.meaning.specs.WellFormed.{literals, fits}
use Rattle.rules.specs.Simplify.{clause_at, is_clause, without_lit, assign, becomes_true, occurs, pure_permitted, pure_lit, pure_raw, subsume_permitted, replace_at, subsume_raw}
use Rattle.rules.specs.Eliminate.{with_lit, without_var, from_universal, avoids, near_side, resolve_permitted, resolvents_of, resolvents, resolve_raw, all_exist, universals_first, expand_permitted, inner, fresh, rename_var, rename_lit, touching, others, expand_with, expand_raw}
use Rattle.rules.specs.Entry.{Kind, pure, subsume, resolve, expand, code, uses_b, entry, kind_at, call_of, read_entry}
use Rattle.rules.specs.Step.{permitted, raw_of, result_of, not_permitted, StepAnswer, refused, stepped, in_room, step_call, step_of}

abbrev make : List ℕ → List (List ℕ) → Formula
make p cs = record { prefix = p; clauses = cs }

record Row : Type 0 where
  formula : Formula
  kind : Kind
  a : ℕ
  b : ℕ
  gives : StepAnswer

abbrev rows : List Row
rows =
    -- `a 1 e 2`, (1 2)(-1 -2), expand 1: the existential is renamed
    record { formula = make (3 ∷ 4 ∷ []) ((2 ∷ 4 ∷ []) ∷ (3 ∷ 5 ∷ []) ∷ []); kind = expand; a = 1; b = 0; gives = stepped (make (4 ∷ 6 ∷ []) ((4 ∷ []) ∷ (7 ∷ []) ∷ [])) } ∷
    -- `a 1 e 2`, (1 2)(1 -2), pure 1: the universal's literal becomes false
    record { formula = make (3 ∷ 4 ∷ []) ((2 ∷ 4 ∷ []) ∷ (2 ∷ 5 ∷ []) ∷ []); kind = pure; a = 1; b = 0; gives = stepped (make (4 ∷ []) ((4 ∷ []) ∷ (5 ∷ []) ∷ [])) } ∷
    -- `e 1 a 2 e 3`, (2 -3)(-2 3)(-1 3)(1 -3), resolve 1: 3 stands right of the universal 2
    record { formula = make (2 ∷ 5 ∷ 6 ∷ []) ((4 ∷ 7 ∷ []) ∷ (5 ∷ 6 ∷ []) ∷ (3 ∷ 6 ∷ []) ∷ (2 ∷ 7 ∷ []) ∷ []); kind = resolve; a = 1; b = 0; gives = refused not_permitted } ∷
    -- `e 1 2`, (1 2)(1), subsume 0, 1: clause 0 is no part of clause 1
    record { formula = make (2 ∷ 4 ∷ []) ((2 ∷ 4 ∷ []) ∷ (2 ∷ []) ∷ []); kind = subsume; a = 0; b = 1; gives = refused not_permitted } ∷
    []

shortcuts : map (λ (r : Row). step_of r.formula (entry r.kind r.a r.b)) rows ≡ map (λ (r : Row). r.gives) rows
unfolding step_of step_call in_room result_of raw_of permitted read_entry call_of kind_at entry uses_b code expand_raw expand_with others touching rename_lit rename_var fresh inner expand_permitted universals_first all_exist resolve_raw resolvents resolvents_of resolve_permitted near_side avoids from_universal without_var with_lit subsume_raw replace_at subsume_permitted pure_raw pure_lit pure_permitted occurs becomes_true assign without_lit is_clause clause_at literals fits tidied build build_on add_tidied tidy tidy_sorted reduce stays both_phases ascending insert_new any_exist right_of universal existential drop_var mentions is_var opposite odd var negated plain up_from same without part_of has keep_if any_of all_of
shortcuts = refl
