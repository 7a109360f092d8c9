-- A number that is computed from all elements of a list, from the left: at index i, h is computed so far, and b of it and the
-- elements that are left. Assumes nothing.
use Prim.Native.Nat.{ℕ, ◌+◌, ◌≤◌, ◌<◌}
use mathlib.Core.Path.{◌≡◌, sym, ◌∙◌}
use mathlib.Core.List.{List, foldl}
use lib.ListN.{length, get_or, drop, drop_of_length-le}
use lib.Seq.{drop-cons}
use native.Mathlib.Numerals.{add-one}

-- d stands past the end
module _ {A : Type 0} (f : ℕ → A → ℕ) (d : A) (s : List A) (i h : ℕ) {b : ℕ} (inv : b ≡ foldl f h (drop i s)) where
  pub fold-turn : i < length s → b ≡ foldl f (f h (get_or s i d)) (drop (i + 1) s)
  fold-turn k = inv ∙ rw (add-one, drop-cons s i d)

  pub fold_end : length s ≤ i → h ≡ b
  fold_end k = sym (inv ∙ rw (drop_of_length-le s {i = i} k))
