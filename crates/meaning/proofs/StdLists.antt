-- The tests and selections on lists are those of the library, so what its methods promise is said in our words.
-- Assumes nothing.
use mathlib.Core.Path.{◌≡◌, refl, ap, ◌∙◌}
use Prim.Native.Nat.{ℕ}
use mathlib.Core.Bool.{Bool, cond, ◌&&◌, ◌||◌}
use mathlib.Core.List.{List, [], ◌∷◌}
use lib.Dec.{eqb}
use Rattle.std.specs.List.{list_any, list_all, filter}
use Rattle.std.specs.Cmp.Lexicographic.{pointwise}
use Rattle.meaning.specs.Lists.{any_of, all_of, keep_if, same, has}
use Rattle.meaning.proofs.Basics.{eqb-sym}

module _ {A : Type 0} where
  pub any_of-std : (f : A → Bool) (xs : List A) → any_of f xs ≡ list_any f xs
  unfolding any_of
  any_of-std f [] = refl
  any_of-std f (x ∷ xs) = ap (λ b. f x || b) (any_of-std f xs)

  pub all_of-std : (f : A → Bool) (xs : List A) → all_of f xs ≡ list_all f xs
  unfolding all_of
  all_of-std f [] = refl
  all_of-std f (x ∷ xs) = ap (λ b. f x && b) (all_of-std f xs)

  pub keep_if-std : (f : A → Bool) (xs : List A) → keep_if f xs ≡ filter f xs
  unfolding keep_if
  keep_if-std f [] = refl
  keep_if-std f (x ∷ xs) = ap (λ ys. cond (f x) (x ∷ ys) ys) (keep_if-std f xs)

pub same-std : (a b : List ℕ) → same a b ≡ pointwise eqb a b
unfolding same
same-std [] [] = refl
same-std [] (y ∷ b) = refl
same-std (x ∷ a) [] = refl
same-std (x ∷ a) (y ∷ b) = ap (λ r. eqb x y && r) (same-std a b)

pub has-std : (n : ℕ) (xs : List ℕ) → has n xs ≡ list_any (λ y. eqb y n) xs
unfolding has any_of
has-std n [] = refl
has-std n (x ∷ xs) = ap (λ b. b || has n xs) (eqb-sym n x) ∙ ap (λ b. eqb x n || b) (has-std n xs)
