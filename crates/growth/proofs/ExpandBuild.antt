-- Raw clauses of which nothing goes: each of their clauses and literals is in what is built.
-- Assumes nothing.
use mathlib.Core.Path.{◌≡◌, refl, sym, ◌∙◌, ap}
use Prim.Native.Nat.{ℕ}
use mathlib.Core.Bool.{Bool, true, ◌&&◌}
use mathlib.Core.List.{List, [], ◌∷◌, map}
use lib.ListN.{length, length-map}
use Rattle.meaning.specs.Lists.{all_of}
use Rattle.meaning.specs.Formula.{mentions, any_exist}
use Rattle.meaning.specs.WellFormed.{good_prefix, bound, reduced, tidy_clause, well_formed, literals}
use Rattle.meaning.specs.Tidy.{ascending, stays, tidy_sorted, tidy, add_tidied, build_on, build}
use Rattle.meaning.proofs.Basics.{and_l, and_r, and_i}
use Rattle.meaning.proofs.Lists.{all-le, all_map, any-ascending, all-of-has, all-has}
use Rattle.meaning.proofs.Again.{ascending-same, reduce-same, build-same}
use Rattle.meaning.proofs.Parts.{ascends-of}
use Rattle.meaning.proofs.WellFormed.{reduce-tidy}
use Rattle.growth.proofs.ExpandLists.{no_two, alike, distinct-sorted, each_once, once-single, once-literals, has-ascending}

-- to sort a clause takes no literal from the reduced ones
stays-ascending : (p c : List ℕ) (l : ℕ) → stays p (ascending c) l ≡ stays p c l
unfolding stays any_exist mentions
stays-ascending p c l = simp any-ascending

reduced-ascending : (p c : List ℕ) → reduced p c ≡ true → reduced p (ascending c) ≡ true
unfolding reduced
reduced-ascending p c h = all-of-has _ (ascending c) (λ l k. stays-ascending p c l ∙ all-has (stays p c) c l h (sym (has-ascending l c) ∙ k))

-- Nothing goes -------------------------------------------------------------------------------------------------------
-- a raw clause keeps all its literals
unfoldable pub whole : List ℕ → List ℕ → Bool
whole p c = bound p c && (each_once c && reduced p c)

module _ (p : List ℕ) (good : good_prefix p ≡ true) where
  whole-tidy : (c : List ℕ) → whole p c ≡ true → tidy_clause p (ascending c) ≡ true
  unfolding whole
  whole-tidy c h =
      rw (reduce-same p (ascending c) (reduced-ascending p c (search (and_l, and_r)))) at
      (reduce-tidy p c good (search and_l) (once-single c (search (and_l, and_r))))

  build-sorted : (cs raws : List (List ℕ)) → all_of (whole p) raws ≡ true → build_on p cs raws ≡ build_on p cs (map ascending raws)
  unfolding build_on all_of tidy
  build-sorted cs [] h = refl
  build-sorted cs (c ∷ raws) h =
      build-sorted (add_tidied cs (tidy p c)) raws (search and_r)
      ∙ ap (λ (d : List ℕ). build_on p (add_tidied cs (tidy_sorted p d)) (map ascending raws))
      (sym (ascending-same (ascending c) (ascends-of p (ascending c) (whole-tidy c (search and_l)))))

  -- what is built is the raw clauses, sorted
  pub build-whole : (raws : List (List ℕ)) → all_of (whole p) raws ≡ true → no_two alike raws ≡ true → build p raws ≡ map ascending raws
  unfolding build well_formed
  build-whole raws h n =
      build-sorted [] raws h
      ∙ build-same (record { prefix = p; clauses = map ascending raws })
      (and_i _ _ good (and_i _ _ (all_map (tidy_clause p) ascending raws ∙ all-le (whole p) _ raws whole-tidy h) (distinct-sorted raws n)))

  module _ (raws : List (List ℕ)) (h : all_of (whole p) raws ≡ true) (n : no_two alike raws ≡ true) where
    pub whole-clauses : length (build p raws) ≡ length raws
    whole-clauses = ap length (build-whole raws h n) ∙ length-map raws ascending

    pub whole-literals : literals (build p raws) ≡ literals raws
    unfolding whole
    whole-literals =
        ap literals (build-whole raws h n)
        ∙ once-literals raws (all-le (whole p) each_once raws (λ c k. unfold whole in search (and_l, and_r)) h)
