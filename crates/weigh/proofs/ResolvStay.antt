-- Those with one of the two literals of a variable, and those without the variable, are all clauses.
-- Assumes nothing.
use Prim.Native.Nat.{ℕ, ◌+◌}
use mathlib.Core.Path.{◌≡◌, refl}
use mathlib.Core.Bool.{Bool, true, false, ◌&&◌, ◌||◌, not, cond}
use mathlib.Core.List.{List, [], ◌∷◌}
use lib.ListN.{length}
use native.Mathlib.Omega.{arith}
use Rattle.meaning.specs.Lists.{all_of, keep_if, has}
use Rattle.meaning.specs.Formula.{Formula, mentions, plain, negated}
use Rattle.meaning.specs.WellFormed.{literals, well_formed}
use Rattle.rules.specs.Eliminate.{with_lit, without_var}
use Rattle.weigh.specs.Resolving.{stay_of}
use Rattle.meaning.proofs.Basics.{clash, and_l, and_r}
use Rattle.meaning.proofs.Literals.{opp-plain, var-of-plain}
use Rattle.rules.proofs.Resolve.{mentions-lits, single_of}

record Split (cs xs ys zs : List (List ℕ)) : Type 0 where
  clauses : length cs ≡ length xs + (length ys + length zs)
  all-literals : literals cs ≡ literals xs + (literals ys + literals zs)

split : (f g h : List ℕ → Bool) (cs : List (List ℕ)) → all_of (λ c. not (f c && g c)) cs ≡ true → ((c : List ℕ) → h c ≡ (f c || g c))
    → Split cs (keep_if (λ c. not (h c)) cs) (keep_if f cs) (keep_if g cs)
unfolding all_of keep_if literals
split f g h [] one is = record { clauses = refl; all-literals = refl }
split f g h (c ∷ cs) one is =
    rw (is c) (go (f c) (g c) (and_l (not (f c && g c)) (all_of (λ d. not (f d && g d)) cs) one)
    (split f g h cs (and_r (not (f c && g c)) (all_of (λ d. not (f d && g d)) cs) one) is))
  where
    go : (x y : Bool) → not (x && y) ≡ true → Split cs (keep_if (λ d. not (h d)) cs) (keep_if f cs) (keep_if g cs)
        → Split (c ∷ cs) (cond (not (x || y)) (c ∷ keep_if (λ d. not (h d)) cs) (keep_if (λ d. not (h d)) cs))
        (cond x (c ∷ keep_if f cs) (keep_if f cs)) (cond y (c ∷ keep_if g cs) (keep_if g cs))
    go true true n ih = clash n refl
    go true false n ih = record { clauses = omega arith; all-literals = omega arith }
    go false true n ih = record { clauses = omega arith; all-literals = omega arith }
    go false false n ih = record { clauses = omega arith; all-literals = omega arith }

module _ (φ : Formula) (w : well_formed φ ≡ true) (a : ℕ) where
  sides : Split φ.clauses (stay_of φ a) (with_lit (plain a) φ.clauses) (with_lit (negated a) φ.clauses)
  unfolding with_lit without_var
  sides =
      split (has (plain a)) (has (negated a)) (λ c. mentions c a) φ.clauses (rw (opp-plain a) at (single_of φ w (plain a)))
      (λ c. rw (var-of-plain a, opp-plain a) at (mentions-lits c (plain a)))

  pub stay-clauses : length φ.clauses ≡ length (stay_of φ a) + (length (with_lit (plain a) φ.clauses) + length (with_lit (negated a) φ.clauses))
  stay-clauses = sides.clauses

  pub stay-literals : literals φ.clauses
      ≡ literals (stay_of φ a) + (literals (with_lit (plain a) φ.clauses) + literals (with_lit (negated a) φ.clauses))
  stay-literals = sides.all-literals
