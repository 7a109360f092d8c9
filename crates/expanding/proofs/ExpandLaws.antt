-- From the new prefix and the clauses by recipes to the result of expanding.
-- Assumes nothing.
use Prim.Native.Nat.{ℕ, ◌+◌, ◌-◌, ◌*◌, ◌≤◌, ◌<◌}
use mathlib.Core.Path.{◌≡◌, refl, sym, ap, ◌∙◌}
use mathlib.Core.Bool.{Bool, true, ◌&&◌, not}
use mathlib.Core.List.{List, [], ◌∷◌, map}
use lib.Dec.{leb}
use lib.ListN.{length, take, drop}
use native.Mathlib.Omega.{arith}
use Rattle.meaning.specs.Lists.{all_of}
use Rattle.meaning.specs.Formula.{Formula, var, odd, plain, mentions, drop_var}
use Rattle.meaning.specs.Tidy.{build, tidied}
use Rattle.meaning.specs.WellFormed.{good_prefix, well_formed, fits, max_variables}
use Rattle.rules.specs.Eliminate.{inner, fresh, expand_with, expand_raw}
use Rattle.rules.specs.Entry.{expand}
use Rattle.rules.specs.Step.{permitted, raw_of, result_of}
use Rattle.table.specs.Table.{decode, Holds}
use Rattle.table.specs.Answer.{Built}
use Rattle.table.specs.declared.Counts.{Counts}
use Rattle.std.specs.Prelude.{Option, Some, None}
use Rattle.permits.specs.Places.{place_of}
use Rattle.rebuilds.specs.Given.{Given}
use Rattle.rebuilds.specs.Raws.{bare, with_raws}
use Rattle.recipes.specs.Recipe.{raws_by}
use Rattle.recipes.specs.Left.{Shrunk}
use Rattle.expanding.specs.Copies.{with_entries, halves_by, expanded_by}
use Rattle.permits.specs.Variables.{existentials}
use Rattle.recipes.specs.declared.Which.TheVariants.{Near, Far}
use Rattle.recipes.specs.declared.Turn.TheVariants.{Same, Drop, Copy}
use Rattle.meaning.proofs.Basics.{clash, and_r}
use Rattle.meaning.proofs.Lists.{all_append, all-le, all-all, all_map}
use Rattle.meaning.proofs.Literals.{var-of-plain, odd-of-plain}
use Rattle.meaning.proofs.Parts.{good_of, room_of, bound_all}
use Rattle.meaning.proofs.Prefix.{forall-mentioned}
use Rattle.rules.proofs.Fresh.{fresh-above}
use Rattle.rules.proofs.Permitted.{ExpandSays, expand-says}
use Rattle.table.proofs.HoldLaws.{prefix-is, count-variables}
use Rattle.permits.proofs.PlaceLaws.{entries-of, large-out}
use Rattle.rebuilds.proofs.BuildLaws.{raws-not, built-not, built-full, built-done, built-second, then-full, then-done}
use Rattle.rebuilds.proofs.RawLaws.{shrunk-more}
use Rattle.recipes.proofs.FedLaws.{numbers-in}
use Rattle.expanding.proofs.ExpandPrefix.{split-of, good_new, inner-many, inner-few}
use Rattle.expanding.proofs.ExpandClauses.{expanded-are}

-- One recipe after another ----------------------------------------------------------------------------------------------
module _ (v s n : ℕ) (ψ : Formula) (cs : List (List ℕ)) (b : Bool) (r : Option Counts) (t : List ℕ) where
  -- with the other clauses; with the clauses where v is false; and what comes last
  abbrev others-in : Formula
  others-in = with_raws ψ (raws_by (Near s) Same ψ.prefix 0 cs)

  abbrev false-in : Formula
  false-in = with_raws ψ (raws_by (Far s (2 * v + 1)) (Drop (2 * v)) ψ.prefix 0 cs)

  abbrev true-raws : List ℕ → List (List ℕ)
  true-raws q = raws_by (Far s (2 * v)) (Copy (2 * v + 1) s n) q 0 cs

  pub halves-full : Built false-in b r t → r ≡ None → (t' : List ℕ) → Built (with_raws ψ (halves_by v s n ψ.prefix cs)) b None t'
  unfolding halves_by
  halves-full k q t' = then-full ψ (raws_by (Far s (2 * v + 1)) (Drop (2 * v)) ψ.prefix 0 cs) b r t k true-raws q t'

  pub halves-done : Built false-in b r t → (e : Counts) → r ≡ Some e → (r' : Option Counts) (t' : List ℕ)
      → Built (with_raws false-in (true-raws false-in.prefix)) e.second r' t' → Built (with_raws ψ (halves_by v s n ψ.prefix cs)) b r' t'
  unfolding halves_by
  halves-done k e q r' t' m = then-done ψ (raws_by (Far s (2 * v + 1)) (Drop (2 * v)) ψ.prefix 0 cs) b r t k true-raws e q r' t' m

  pub expanded-full : Built others-in b r t → r ≡ None → (t' : List ℕ) → Built (with_raws ψ (expanded_by v s n ψ.prefix cs)) b None t'
  unfolding expanded_by
  expanded-full k q t' = then-full ψ (raws_by (Near s) Same ψ.prefix 0 cs) b r t k (λ p. halves_by v s n p cs) q t'

  pub expanded-done : Built others-in b r t → (e : Counts) → r ≡ Some e → (r' : Option Counts) (t' : List ℕ)
      → Built (with_raws others-in (halves_by v s n others-in.prefix cs)) e.second r' t'
      → Built (with_raws ψ (expanded_by v s n ψ.prefix cs)) b r' t'
  unfolding expanded_by
  expanded-done k e q r' t' m = then-done ψ (raws_by (Near s) Same ψ.prefix 0 cs) b r t k (λ p. halves_by v s n p cs) e q r' t' m

plain-even : (vs : List ℕ) → all_of (λ q. not (odd q)) (map plain vs) ≡ true
unfolding all_of
plain-even [] = refl
plain-even (v ∷ vs) = rw (odd-of-plain v) (plain-even vs)

-- The result --------------------------------------------------------------------------------------------------------------
module _ {φ : Formula} {source : List ℕ} {c : Counts} {ranks : List ℕ} (g : Given φ source c ranks) (a : ℕ) where
  abbrev p : List ℕ
  p = φ.prefix

  -- what is there of the result before its clauses: the prefix
  abbrev pub front : ℕ → Formula
  front n = with_entries (bare (drop_var a p)) (map plain (fresh p n))

  -- it is the source's without the universal, and existentials
  pub expand-shrunk : well_formed (decode source c) ≡ true → (n : ℕ) {t : List ℕ} {e : Counts} → Holds (front n) t e → Shrunk a (take e.variables t) (decode source c)
  unfolding with_entries bare
  expand-shrunk w n {t} {e} h =
      shrunk-more g.holds w a (map plain (fresh p n)) (plain-even (fresh p n)) (take e.variables t) (prefix-is h)

  module _ (m n : ℕ) (place : m ≡ place_of p a) (count : n ≡ existentials (drop m (take c.variables source))) where
    counted : n ≡ existentials (drop m p)
    counted = count ∙ ap (λ (q : List ℕ). existentials (drop m q)) (prefix-is g.holds)

    pub expand-few : {t : List ℕ} {d : Counts} → Holds (bare (drop_var a p)) t d → n ≤ d.variables
    unfolding bare
    expand-few {t} {d} h = omega (arith, count-variables h, inner-few p a m n (good_of φ g.well) place counted)

    pub expand-good : good_prefix (front n).prefix ≡ true
    unfolding with_entries bare
    expand-good = good_new p a n (good_of φ g.well)

    small : fits (front n) ≡ true → all_of (λ v. leb 1 v && leb v max_variables) (fresh p n) ≡ true
    unfolding with_entries bare
    small f =
        all-all (λ v. leb 1 v) (λ v. leb v max_variables) (fresh p n) (fresh-above p n)
        (all-le (λ v. leb (var (plain v)) max_variables) (λ v. leb v max_variables) (fresh p n) (λ v h. rw (var-of-plain v) at h)
        (sym (all_map (λ q. leb (var q) max_variables) plain (fresh p n))
        ∙ and_r (all_of (λ q. leb (var q) max_variables) (drop_var a p)) (all_of (λ q. leb (var q) max_variables) (map plain (fresh p n)))
        (sym (all_append (λ q. leb (var q) max_variables) (drop_var a p) (map plain (fresh p n))) ∙ (room_of (front n) f).numbers)))

    module _ (ok : permitted φ expand a 0 ≡ true) where
      says : ExpandSays φ a
      unfolding permitted
      says = expand-says φ a ok

      there : mentions p a ≡ true
      there = forall-mentioned p a says.forall

      many : n ≡ length (inner a p)
      many = inner-many p a m n there place counted

      -- the raw clauses of the result
      abbrev raws : List (List ℕ)
      raws = (expand_with φ a (inner a p) (fresh p n)).clauses

      result-is : with_raws (front n) raws ≡ result_of φ expand a 0
      unfolding result_of raw_of expand_raw expand_with tidied build with_raws with_entries bare
      result-is = rw many

      pub expand-full : (b : Bool) (r : Option Counts) (t : List ℕ) → Built (front n) b r t → r ≡ None → (second : Bool) (t' : List ℕ)
          → Built (result_of φ expand a 0) second None t'
      expand-full b r t k q second t' =
          built-not (result_of φ expand a 0) second t' (ap fits (sym result-is) ∙ raws-not (front n) raws (built-full (front n) b r t k q))

      module _ {t : List ℕ} {d : Counts} (h : Holds (bare (drop_var a p)) t d) where
        abbrev by-recipes : List (List ℕ)
        by-recipes = expanded_by a (d.variables - n) n (front n).prefix φ.clauses

        raws-are : fits (front n) ≡ true → by-recipes ≡ raws
        unfolding expand_with with_entries bare
        raws-are f =
            let at : d.variables - n + n ≡ length (drop_var a p) = omega (arith, expand-few h, count-variables h) in
            let x = split-of p a (good_of φ g.well) there says.first in
            let numbers = numbers-in φ g.well g.holds.fitting in
            expanded-are p a n (d.variables - n) (good_of φ g.well) x many at numbers (small f) φ.clauses (bound_all φ g.well)

        pub expand-done : (b : Bool) → d.second ≡ b → (r : Option Counts) (t' : List ℕ) → Built (front n) d.second r t' → (e : Counts) → r ≡ Some e
            → (r' : Option Counts) (t'' : List ℕ) → Built (with_raws (front n) by-recipes) e.second r' t'' → Built (result_of φ expand a 0) b r' t''
        expand-done b is r t' k e q r' t'' m =
            rw (raws-are (built-done (front n) d.second r t' k e q).fitting, result-is, built-second (front n) d.second r t' k e q ∙ is) at m

  pub expand-never : {A : Type 0} → permitted φ expand a 0 ≡ true → 1023 < a → A
  unfolding permitted
  expand-never {A} ok h =
      clash (forall-mentioned p a (expand-says φ a ok).forall) (large-out p a (entries-of φ g.well g.holds.fitting) h)
