-- The reason of a variable by its step of kind 6 or 7: not permitted, too heavy, or by the limits.
-- Assumes nothing.
use Prim.Native.Nat.{ℕ, ◌+◌, ◌≤◌, ◌<◌}
use mathlib.Core.Path.{◌≡◌, sym, ap, ◌∙◌}
use mathlib.Core.Bool.{Bool, true, false}
use mathlib.Core.List.{List}
use native.Mathlib.Omega.{arith}
use borrow.Author.Tests.{lt-ltb, le-ltb, le-leb, lt-leb}
use Rattle.meaning.specs.Formula.{Formula, mentions, universal}
use Rattle.meaning.specs.WellFormed.{well_formed, fits, weight}
use Rattle.rules.specs.Eliminate.{resolve_permitted, expand_permitted}
use Rattle.rules.specs.Entry.{subsume, resolve, expand, code, entry}
use Rattle.rules.specs.Step.{permitted, result_of}
use Rattle.rules.specs.Choice.{costly, light, wanted, allowed_call}
use Rattle.table.specs.Table.{Holds}
use Rattle.table.specs.declared.Counts.{Counts}
use Rattle.table.specs.Ranks.{ranks_of}
use Rattle.index.specs.Build.{HeldWell}
use Rattle.choice.specs.Chosen.{Ranks}
use Rattle.growth.specs.Weights.{NoneSubsumed, Summable}
use Rattle.reasons.specs.Reason.{universal_after, existential_after, far_clause, far_variable, why_existential, why_universal, why_left}
use Rattle.reasons.specs.Statement.{Quiet}
use Rattle.meaning.proofs.Basics.{by_cases}
use Rattle.meaning.proofs.Prefix.{exists-mentioned}
use Rattle.reasons.proofs.Left.{existential-counts, existential-far, existential-heavy, existential-limit, universal-counts, universal-between, universal-heavy, universal-limit}
use Rattle.reasons.proofs.Between.{between-true}
use Rattle.table.proofs.HoldLaws.{holds-bounds}
use Rattle.reasoning.specs.AtHand.{HeldQuiet}
use Rattle.reasoning.specs.Whys.{why_as, limit_or}
use Rattle.reasoning.specs.declared.Why.{Why}
use Rattle.reasoning.specs.declared.Why.TheVariants.{TooFarRight, NotLighter, Between, TooHeavy}

-- the counts of a formula that is held are small numbers
pub held-sums : {φ : Formula} {t : List ℕ} {c : Counts} → Holds φ t c → Summable c
held-sums {φ} {t} {c} h =
    let b = holds-bounds h in
    record { variables = omega (arith, b.variables); clauses = omega (arith, b.clauses); all-literals = omega (arith, b.literals) }

pub quiet-well : {t : List ℕ} {c : Counts} → HeldQuiet t c → HeldWell t c
quiet-well k = record { formula = k.formula; holds = k.holds; well = k.well }

-- no step of kind 3: no clause is a part of another
pub quiet-apart : (φ : Formula) → Quiet φ → NoneSubsumed φ
unfolding permitted code
quiet-apart φ q a b = q.none subsume a b (omega arith)

-- what is at hand for a universal
pub left-ranks : {φ : Formula} {t : List ℕ} {c : Counts} {ranks : List ℕ} → Holds φ t c → well_formed φ ≡ true → Quiet φ → ranks ≡ ranks_of φ.prefix → Ranks φ t c ranks
left-ranks {φ} h w q e = record { holds = h; well = w; ranked = e; apart = quiet-apart φ q }

-- An existential ---------------------------------------------------------------------------------------------------
module _ (E : ℕ) (φ : Formula) (x : ℕ) where
  pub far-is : (b : Bool) → b ≡ resolve_permitted φ x → b ≡ false → (r : Why) → r ≡ TooFarRight (far_clause φ x) (far_variable φ x) (universal_after φ x)
      → r ≡ why_as (why_existential E φ x)
  unfolding why_as permitted
  far-is b is e r q = q ∙ sym (ap why_as (existential-far E φ x (sym is ∙ e)))

  module _ (ok : resolve_permitted φ x ≡ true) (m n : ℕ) (before : m ≡ weight φ) (after : n ≡ weight (result_of φ resolve x 0)) where
    pub resolve-heavy : m ≤ n → NotLighter m n ≡ why_as (why_existential E φ x)
    unfolding why_as permitted light
    resolve-heavy h =
        rw (before, after)
        (sym (ap why_as (existential-heavy E φ x ok (le-ltb (weight (result_of φ resolve x 0)) (weight φ) (rw (← before, ← after) h)))))

    pub resolve-limit : n < m → (e : ℕ) → e ≡ entry resolve x 0 → (r : Why) → r ≡ limit_or (result_of φ resolve x 0) e → r ≡ why_as (why_existential E φ x)
    unfolding limit_or why_as
    resolve-limit h e i r q =
        q ∙ by_cases (fits (result_of φ resolve x 0))
        (λ f. rw (f, i) (sym (ap why_as (existential-counts E φ x (counts f)))))
        (λ f. rw f (sym (ap why_as (existential-limit E φ x may lighter f))))
      where
        may : permitted φ resolve x 0 ≡ true
        may = unfold permitted in ok

        lighter : light E resolve (weight φ) (weight (result_of φ resolve x 0)) ≡ true
        lighter = unfold light in lt-ltb (weight (result_of φ resolve x 0)) (weight φ) (rw (← before, ← after) h)

        counts : fits (result_of φ resolve x 0) ≡ true → allowed_call E φ resolve x 0 ≡ true
        counts f = unfold allowed_call wanted costly in rw (may, lighter, f)

-- A universal --------------------------------------------------------------------------------------------------------
module _ (E : ℕ) (φ : Formula) (u : ℕ) where
  module _ (w : well_formed φ ≡ true) (b : Bool) (is : b ≡ expand_permitted φ u) (no : b ≡ false) where
    forbidden : permitted φ expand u 0 ≡ false
    unfolding permitted
    forbidden = sym is ∙ no

    -- the existential that is found stands in the prefix
    between-there : Quiet φ → universal φ.prefix u ≡ true → mentions φ.prefix (existential_after φ u) ≡ true
    between-there q h = exists-mentioned φ.prefix (existential_after φ u) (between-true φ w u q h forbidden).leftmost.exists

    pub between_is : Quiet φ → universal φ.prefix u ≡ true → (e v : ℕ) → e ≡ existential_after φ u → (mentions φ.prefix e ≡ true → v ≡ universal_after φ e)
        → Between e v ≡ why_as (why_universal E φ u)
    unfolding why_as
    between_is q h e v i k =
        let j : v ≡ universal_after φ (existential_after φ u) = k (ap (mentions φ.prefix) i ∙ between-there q h) ∙ ap (universal_after φ) i in
        rw (i, j) (sym (ap why_as (universal-between E φ u forbidden)))

  module _ (ok : expand_permitted φ u ≡ true) (m n : ℕ) (before : m ≡ weight φ) (after : n ≡ weight (result_of φ expand u 0)) where
    pub expand-heavy : m + E < n → TooHeavy m n ≡ why_as (why_universal E φ u)
    unfolding why_as permitted light
    expand-heavy h =
        rw (before, after)
        (sym (ap why_as (universal-heavy E φ u ok (lt-leb (weight (result_of φ expand u 0)) (weight φ + E) (rw (← before, ← after) h)))))

    pub expand-limit : n ≤ m + E → (e : ℕ) → e ≡ entry expand u 0 → (r : Why) → r ≡ limit_or (result_of φ expand u 0) e → r ≡ why_as (why_universal E φ u)
    unfolding limit_or why_as
    expand-limit h e i r q =
        q ∙ by_cases (fits (result_of φ expand u 0))
        (λ f. rw (f, i) (sym (ap why_as (universal-counts E φ u (counts f)))))
        (λ f. rw f (sym (ap why_as (universal-limit E φ u may lighter f))))
      where
        may : permitted φ expand u 0 ≡ true
        may = unfold permitted in ok

        lighter : light E expand (weight φ) (weight (result_of φ expand u 0)) ≡ true
        lighter = unfold light in le-leb (weight (result_of φ expand u 0)) (weight φ + E) (rw (← before, ← after) h)

        counts : fits (result_of φ expand u 0) ≡ true → allowed_call E φ expand u 0 ≡ true
        counts f = unfold allowed_call wanted costly in rw (may, lighter, f)

-- The variable, by its quantifier --------------------------------------------------------------------------------------
module _ (E : ℕ) (φ : Formula) (v : ℕ) (b : Bool) (is : b ≡ universal φ.prefix v) where
  pub left-universal : b ≡ true → (r : Why) → r ≡ why_as (why_universal E φ v) → r ≡ why_as (why_left E φ v)
  unfolding why_left
  left-universal e r q = rw (← is, e) q

  pub left-existential : b ≡ false → (r : Why) → r ≡ why_as (why_existential E φ v) → r ≡ why_as (why_left E φ v)
  unfolding why_left
  left-existential e r q = rw (← is, e) q
