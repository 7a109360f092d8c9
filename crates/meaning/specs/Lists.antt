-- Tests and selections on lists, Bool-valued, so that the definitions over them compute.
-- Assumes nothing.
use Rattle.std.specs.Prelude.{ℕ, zero, suc, Bool, true, false, ◌&&◌, ◌||◌, not, cond, List, [], ◌∷◌, eqb}

module _ {A : Type 0} where
  unfoldable pub all_of : (A → Bool) → List A → Bool
  all_of f [] = true
  all_of f (x ∷ xs) = f x && all_of f xs

  unfoldable pub any_of : (A → Bool) → List A → Bool
  any_of f [] = false
  any_of f (x ∷ xs) = f x || any_of f xs

  -- the elements that pass the test, in order
  unfoldable pub keep_if : (A → Bool) → List A → List A
  keep_if f [] = []
  keep_if f (x ∷ xs) = cond (f x) (x ∷ keep_if f xs) (keep_if f xs)

-- n is one of the list
unfoldable pub has : ℕ → List ℕ → Bool
has n = any_of (λ k. eqb n k)

-- every element of the first is in the second
unfoldable pub part_of : List ℕ → List ℕ → Bool
part_of c d = all_of (λ l. has l d) c

-- the list without n
unfoldable pub without : ℕ → List ℕ → List ℕ
without n = keep_if (λ k. not (eqb n k))

-- the two lists are equal
unfoldable pub same : List ℕ → List ℕ → Bool
same [] [] = true
same [] (k ∷ d) = false
same (l ∷ c) [] = false
same (l ∷ c) (k ∷ d) = eqb l k && same c d

-- the first number of the list that passes; 0 if none does
unfoldable pub first_passing : (ℕ → Bool) → List ℕ → ℕ
first_passing f [] = 0
first_passing f (l ∷ c) = cond (f l) l (first_passing f c)

-- from, from + 1, .. (n numbers)
unfoldable pub up_from : ℕ → ℕ → List ℕ
up_from from zero = []
up_from from (suc n) = from ∷ up_from (suc from) n
