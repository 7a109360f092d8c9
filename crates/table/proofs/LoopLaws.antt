-- Loops over a list from the left: at index i, what is left of the list decides the answer b. For each test the turn, the early
-- answer and the end.
-- Assumes nothing.
use Prim.Native.Nat.{ℕ, zero, suc, ◌+◌, ◌≤◌, ◌<◌}
use mathlib.Core.Path.{◌≡◌, sym, ◌∙◌}
use mathlib.Core.Bool.{Bool, true, false}
use mathlib.Core.List.{List, [], ◌∷◌}
use native.Mathlib.Nat.{not-suc-le-zero, le_of_suc-le-suc}
use lib.ListN.{length, get_or, take, drop, drop_of_length-le}
use lib.Seq.{drop-cons, get_or-take, length-take-le}
use native.Mathlib.Numerals.{add-one}
use Rattle.meaning.specs.Lists.{any_of, all_of}
use Rattle.meaning.proofs.Basics.{and_l, and_r, or-il, or-ir}

-- d stands past the end
module _ {A : Type 0} (f : A → Bool) (d : A) (s : List A) (i : ℕ) where
  module _ {b : Bool} (inv : b ≡ any_of f (drop i s)) where
    pub any_found : i < length s → f (get_or s i d) ≡ true → true ≡ b
    unfolding any_of
    any_found h e = sym (inv ∙ rw (drop-cons s i d, e))

    pub any-turn : i < length s → f (get_or s i d) ≡ false → b ≡ any_of f (drop (i + 1) s)
    unfolding any_of
    any-turn h e = inv ∙ rw (add-one, drop-cons s i d, e)

    pub any-end : length s ≤ i → false ≡ b
    unfolding any_of
    any-end h = sym (inv ∙ rw (drop_of_length-le s {i = i} h))

  module _ {b : Bool} (inv : b ≡ all_of f (drop i s)) where
    pub all-fails : i < length s → f (get_or s i d) ≡ false → false ≡ b
    unfolding all_of
    all-fails h e = sym (inv ∙ rw (drop-cons s i d, e))

    pub all-turn : i < length s → f (get_or s i d) ≡ true → b ≡ all_of f (drop (i + 1) s)
    unfolding all_of
    all-turn h e = inv ∙ rw (add-one, drop-cons s i d, e)

    pub all_end : length s ≤ i → true ≡ b
    unfolding all_of
    all_end h = sym (inv ∙ rw (drop_of_length-le s {i = i} h))

-- among the first n elements only
module _ {A : Type 0} (f : A → Bool) (d : A) (s : List A) (n : ℕ) (within : n ≤ length s) (i : ℕ) {b : Bool} (inv : b ≡ any_of f (drop i (take n s))) where
  pub first_found : i < n → f (get_or s i d) ≡ true → true ≡ b
  first_found h e =
      any_found f d (take n s) i inv (rw (length-take-le n s within) h) (rw (get_or-take n s i d h) e)

  pub first-turn : i < n → f (get_or s i d) ≡ false → b ≡ any_of f (drop (i + 1) (take n s))
  first-turn h e =
      any-turn f d (take n s) i inv (rw (length-take-le n s within) h) (rw (get_or-take n s i d h) e)

  pub first-end : n ≤ i → false ≡ b
  first-end h = any-end f d (take n s) i inv (rw (length-take-le n s within) h)

-- what all pass, each passes
pub all_get_d : {A : Type 0} (f : A → Bool) (d : A) (s : List A) (i : ℕ) → all_of f s ≡ true → i < length s → f (get_or s i d) ≡ true
unfolding all_of
all_get_d f d [] i a h = absurd (not-suc-le-zero h)
all_get_d f d (x ∷ s) zero a h = and_l (f x) (all_of f s) a
all_get_d f d (x ∷ s) (suc i) a h = all_get_d f d s i (and_r (f x) (all_of f s) a) (le_of_suc-le-suc h)

-- one that passes is met at index i
pub any_at : {A : Type 0} (f : A → Bool) (d : A) (s : List A) (i : ℕ) → i < length s → f (get_or s i d) ≡ true → any_of f s ≡ true
unfolding any_of
any_at f d [] i h e = absurd (not-suc-le-zero h)
any_at f d (x ∷ s) zero h e = or-il (f x) (any_of f s) e
any_at f d (x ∷ s) (suc i) h e = or-ir (f x) (any_of f s) (any_at f d s i (le_of_suc-le-suc h) e)
