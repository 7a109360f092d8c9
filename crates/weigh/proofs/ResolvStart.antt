-- Where weighing begins and ends: the counts without the variable, and the step's weight from its result's.
-- Assumes nothing.
use Prim.Native.Nat.{ℕ, ◌+◌, ◌-◌, ◌*◌, ◌≤◌, ◌<◌}
use mathlib.Core.Path.{◌≡◌, refl, sym, ap, ◌∙◌}
use mathlib.Core.Bool.{Bool, true, false, ◌&&◌, not, cond}
use mathlib.Core.List.{List, ◌∷◌}
use lib.ListN.{length, drop, length-append}
use lib.Dec.{ltb, leb}
use borrow.Author.Tests.{le-ltb, ltb-true, ltb-false}
use native.Mathlib.Omega.{arith}
use Rattle.meaning.specs.Lists.{all_of}
use Rattle.meaning.specs.Formula.{Formula, var, is_var, mentions, drop_var, existential, plain, negated}
use Rattle.meaning.specs.Tidy.{build_on}
use Rattle.meaning.specs.WellFormed.{good_prefix, well_formed, fits, literals, weight}
use Rattle.rules.specs.Eliminate.{with_lit, from_universal, resolve_permitted}
use Rattle.rules.specs.Entry.{resolve}
use Rattle.rules.specs.Step.{permitted, result_of}
use Rattle.permits.specs.Places.{place_of, side_within}
use Rattle.permits.proofs.AndLaws.{and_second, and_none}
use Rattle.permits.proofs.PlaceLaws.{entries-of, large-out, place-right}
use Rattle.permits.proofs.SideLaws.{resolve-large}
use Rattle.index.specs.Study.{Studied}
use Rattle.table.specs.Table.{counts_of}
use Rattle.table.specs.declared.Counts.{Counts}
use Rattle.growth.specs.Weights.{weighed, weighed_step}
use Rattle.growth.specs.declared.Weighed.{Weighed}
use Rattle.growth.specs.declared.Weighed.TheVariants.{Over}
use Rattle.sides.specs.Sides.{Filed}
use Rattle.weigh.specs.Resolving.{rest_of, stay_of, resolved_to, Bounded, FirstUniversal}
use Rattle.meaning.proofs.Basics.{by_cases, clash}
use Rattle.meaning.proofs.Lists.{all-keep-le}
use Rattle.meaning.proofs.Parts.{good_of, room_of}
use Rattle.meaning.proofs.Prefix.{exists-mentioned}
use Rattle.rules.proofs.Permitted.{resolve-says}
use Rattle.rules.proofs.Place.{place}
use Rattle.table.proofs.HoldLaws.{holds-bounds, count-variables, count-clauses, count-literals}
use Rattle.weigh.proofs.ResolvResult.{resolved-grows}
use Rattle.weigh.proofs.ResolvStay.{stay-clauses, stay-literals}

-- The condition, by its two sides ------------------------------------------------------------------------------------------
module _ (φ : Formula) (a n : ℕ) (p : Bool) where
  pub sides-second : (r : Bool) → p ≡ side_within φ (2 * a) n → p ≡ true → r ≡ side_within φ (2 * a + 1) n
      → r ≡ (side_within φ (plain a) n && side_within φ (negated a) n)
  unfolding plain negated
  sides-second r e t q = and_second (side_within φ (2 * a) n) (side_within φ (2 * a + 1) n) p r e t q

  pub sides-none : p ≡ side_within φ (2 * a) n → p ≡ false → false ≡ (side_within φ (plain a) n && side_within φ (negated a) n)
  unfolding plain negated
  sides-none e t = and_none (side_within φ (2 * a) n) (side_within φ (2 * a + 1) n) p e t

-- the first universal right of a variable, by its place
pub first-there : (φ : Formula) (a n : ℕ) → FirstUniversal φ a n → mentions φ.prefix a ≡ true
    → from_universal (drop (place_of φ.prefix a) φ.prefix) ≡ drop n φ.prefix
first-there φ a n h m = ap from_universal (place-right φ.prefix a m) ∙ h m

pub first-at : (φ : Formula) (a m n : ℕ) (p : List ℕ) → p ≡ φ.prefix → m ≡ place_of φ.prefix a → from_universal (drop m p) ≡ drop n p
    → FirstUniversal φ a n
first-at φ a m n p e at f =
    λ k. ap from_universal (sym (place-right φ.prefix a k)) ∙ rw (← at, ← e) f

-- The start --------------------------------------------------------------------------------------------------------------
drop-length : (p : List ℕ) (v : ℕ) → good_prefix p ≡ true → mentions p v ≡ true → length p ≡ length (drop_var v p) + 1
drop-length p v g m =
    let k = place p v g m in
    ap length k.whole ∙ length-append k.left (k.entry ∷ k.right)
    ∙ sym (ap (λ (q : List ℕ). length q + 1) k.rest ∙ ap (λ (n : ℕ). n + 1) (length-append k.left k.right) ∙ omega arith)

pub some-variables : {φ : Formula} {t : List ℕ} {c : Counts} {index : List ℕ} → Filed φ t c index → (a : ℕ) → mentions φ.prefix a ≡ true
    → 0 < c.variables
some-variables {φ} {t} {c} {index} f a m = omega (arith, drop-length φ.prefix a (good_of φ f.indexes.well) m, count-variables f.holds)

module _ {φ : Formula} {t : List ℕ} {c : Counts} {index : List ℕ} (f : Filed φ t c index) (a m n : ℕ) where
  module _ (is_m : m ≡ length (with_lit (2 * a) φ.clauses)) (is-n : n ≡ length (with_lit (2 * a + 1) φ.clauses)) where
    pub left-clauses : c.clauses ≡ length (stay_of φ a) + (m + n)
    unfolding plain negated
    left-clauses = omega (arith, count-clauses f.holds, stay-clauses φ f.indexes.well a)

  module _ (is_m : m ≡ literals (with_lit (2 * a) φ.clauses)) (is-n : n ≡ literals (with_lit (2 * a + 1) φ.clauses)) where
    pub left-literals : c.literals ≡ literals (stay_of φ a) + (m + n)
    unfolding plain negated
    left-literals = omega (arith, count-literals f.holds, stay-literals φ f.indexes.well a)

-- the counts when the clauses with the variable are gone: m clauses with n literals
abbrev pub left_counts : Counts → ℕ → ℕ → Counts
left_counts c m n = record { variables = c.variables - 1; clauses = c.clauses - m; literals = c.literals - n; second = c.second }

module _ {φ : Formula} {t : List ℕ} {c : Counts} {index : List ℕ} (f : Filed φ t c index) (m n : ℕ) where
  pub left-bounded : Bounded 0 (left_counts c m n)
  left-bounded =
      let b = holds-bounds f.holds in
      record { variables = omega (arith, b.variables); clauses = omega (arith, b.clauses); all-literals = omega (arith, b.literals) }

  pub left-counts : (a : ℕ) → mentions φ.prefix a ≡ true → c.clauses ≡ length (stay_of φ a) + m → c.literals ≡ literals (stay_of φ a) + n
      → left_counts c m n ≡ counts_of (resolved_to φ a 0) c.second
  unfolding counts_of resolved_to build_on
  left-counts a i e d =
      let v : c.variables - 1 ≡ length (rest_of φ a) = omega (
        arith,
        drop-length φ.prefix a (good_of φ f.indexes.well) i,
        count-variables f.holds,
      ) in
      let x : c.clauses - m ≡ length (stay_of φ a) = omega arith in
      let y : c.literals - n ≡ literals (stay_of φ a) = omega arith in
      λ j. record { variables = v j; clauses = x j; literals = y j; second = c.second }

-- The end ----------------------------------------------------------------------------------------------------------------
pub rest-small : (φ : Formula) → fits φ ≡ true → (a k : ℕ) → all_of (λ q. leb (var q) 1023) (resolved_to φ a k).prefix ≡ true
unfolding resolved_to drop_var
rest-small φ h a k = all-keep-le (λ q. leb (var q) 1023) (λ q. not (is_var a q)) φ.prefix (room_of φ h).numbers

pub permitted-there : (φ : Formula) (a : ℕ) → resolve_permitted φ a ≡ true → mentions φ.prefix a ≡ true
permitted-there φ a ok = exists-mentioned φ.prefix a (resolve-says φ a ok).exists

pub permitted-small : {φ : Formula} {t : List ℕ} {c : Counts} {ranks index : List ℕ} → Studied φ t c ranks index → (a : ℕ)
    → resolve_permitted φ a ≡ true → a < 1024
permitted-small {φ} {t} {c} {ranks} {index} g a ok =
    by_cases (ltb a 1024) (λ t. ltb-true a 1024 t)
    (λ t. let h = ltb-false a 1024 t in clash ok (sym (resolve-large φ a (entries-of φ g.well g.holds.fitting) (omega arith))))

-- an existential is in the prefix, and small
module _ {φ : Formula} {t : List ℕ} {c : Counts} {ranks index : List ℕ} (g : Studied φ t c ranks index) (a : ℕ) (b : Bool)
    (is : b ≡ existential φ.prefix a) where
  pub existing-there : b ≡ true → mentions φ.prefix a ≡ true
  existing-there e = exists-mentioned φ.prefix a (sym is ∙ e)

  pub existing-small : b ≡ true → a < 1024
  existing-small e =
      by_cases (ltb a 1024) (λ t. ltb-true a 1024 t)
      (λ t. let h = ltb-false a 1024 t in
      clash (existing-there e) (large-out φ.prefix a (entries-of φ g.well g.holds.fitting) (omega arith)))

  pub step_other : b ≡ false → (below : ℕ) → Over ≡ weighed_step below φ resolve a
  unfolding weighed_step permitted resolve_permitted
  step_other e below = rw (← is, e)

-- what is left without the variable is no heavier than the result
pub step-floor : (φ : Formula) → well_formed φ ≡ true → (a below n : ℕ) → n ≡ weight (resolved_to φ a 0) → below ≤ n
    → Over ≡ weighed_step below φ resolve a
unfolding weighed_step permitted weighed
step-floor φ w a below n e h =
    let o : ltb (weight (result_of φ resolve a 0)) below ≡ false =
    le-ltb (weight (result_of φ resolve a 0)) below (omega (arith, resolved-grows φ w a 0)) in
    rw o (either (resolve_permitted φ a))
  where
    either : (b : Bool) → Over ≡ cond b Over Over
    either true = refl
    either false = refl

module _ (below : ℕ) (φ : Formula) (a : ℕ) (b : Bool) (is : b ≡ resolve_permitted φ a) where
  pub step-none : b ≡ false → Over ≡ weighed_step below φ resolve a
  unfolding weighed_step permitted
  step-none e = rw (← is, e)

  pub step-some : b ≡ true → (r : Weighed) → r ≡ weighed below (result_of φ resolve a 0) → r ≡ weighed_step below φ resolve a
  unfolding weighed_step permitted
  step-some e r q = rw (← is, e) q
