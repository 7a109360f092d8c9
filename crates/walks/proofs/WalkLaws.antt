-- The loops that walk two ascending clauses together: what is left of both decides.
-- Assumes nothing.
use Prim.Native.Nat.{ℕ, suc, ◌+◌, ◌-◌, ◌/◌, ◌≤◌, ◌<◌}
use mathlib.Core.Path.{◌≡◌, refl, sym, ap, ◌∙◌}
use mathlib.Core.Bool.{Bool, true, false, ◌&&◌}
use mathlib.Core.List.{List, ◌∷◌}
use lib.ListN.{length, get_or, take, drop, drop_of_length-le}
use lib.Seq.{drop-cons}
use native.Mathlib.Numerals.{add-one}
use native.Mathlib.Omega.{arith}
use lib.Dec.{leb}
use borrow.Author.Tests.{leb-true, leb-false}
use Rattle.meaning.specs.Lists.{any_of, all_of, part_of}
use Rattle.meaning.specs.Formula.{var, existential}
use Rattle.meaning.specs.WellFormed.{ascends}
use Rattle.meaning.proofs.Basics.{by_cases}
use Rattle.table.proofs.ListLaws.{tail-mid}
use Rattle.walks.specs.Walks.{some_strengthens}
use Rattle.walks.proofs.MergeLaws.{ascends-tail, part_same, part-past, part-not, part_none, strong-same, strong-past, strong-not, strong-here, strong-end}

-- the test f of x and y is that of what is left of them, and both ascend
pub record Ahead (f : List ℕ → List ℕ → Bool) (x y : List ℕ) (i j : ℕ) : Type 0 where
  pub left : ascends (drop i x) ≡ true
  pub right : ascends (drop j y) ≡ true
  pub whole : f x y ≡ f (drop i x) (drop j y)

pub ahead-start : (f : List ℕ → List ℕ → Bool) (x y : List ℕ) → ascends x ≡ true → ascends y ≡ true → Ahead f x y 0 0
ahead-start f x y up too = record { left = up; right = too; whole = refl }

module _ {f : List ℕ → List ℕ → Bool} {x y : List ℕ} (i j : ℕ) (inv : Ahead f x y i j) (h : i < length x) where
  abbrev rest-x : List ℕ
  rest-x = drop (suc i) x

  abbrev rest-y : List ℕ
  rest-y = drop (suc j) y

  left-of : ascends (get_or x i 0 ∷ rest-x) ≡ true
  left-of = rw (drop-cons x i 0 h) at inv.left

  module _ (g : j < length y) where
    right-of : ascends (get_or y j 0 ∷ rest-y) ≡ true
    right-of = rw (drop-cons y j 0 g) at inv.right

    whole_of : f x y ≡ f (get_or x i 0 ∷ rest-x) (get_or y j 0 ∷ rest-y)
    whole_of = inv.whole ∙ rw (drop-cons x i 0 h, drop-cons y j 0 g)

    -- both are passed
    both : f (get_or x i 0 ∷ rest-x) (get_or y j 0 ∷ rest-y) ≡ f rest-x rest-y → Ahead f x y (i + 1) (j + 1)
    both e =
        rw (add-one i, add-one j)
        (record { left = ascends-tail (get_or x i 0) rest-x left-of; right = ascends-tail (get_or y j 0) rest-y right-of; whole = whole_of ∙ e })

    -- that of y is passed
    one : f (get_or x i 0 ∷ rest-x) (get_or y j 0 ∷ rest-y) ≡ f (get_or x i 0 ∷ rest-x) rest-y → Ahead f x y i (j + 1)
    one e =
        rw (add-one j)
        (record { left = inv.left; right = ascends-tail (get_or y j 0) rest-y right-of; whole = whole_of ∙ e ∙ rw (drop-cons x i 0 h) })

-- The part test --------------------------------------------------------------------------------------------------
module _ {x y : List ℕ} (i j : ℕ) (inv : Ahead part_of x y i j) where
  pub part_end : length x ≤ i → true ≡ part_of x y
  unfolding part_of all_of
  part_end h = sym (inv.whole ∙ rw (drop_of_length-le x {i = i} h))

  module _ (h : i < length x) where
    pub part_out : length y ≤ j → false ≡ part_of x y
    part_out g = sym (inv.whole ∙ rw (drop-cons x i 0 h, drop_of_length-le y {i = j} g) (part_none (get_or x i 0) (drop (suc i) x)))

    module _ (g : j < length y) where
      pub part-both : get_or x i 0 ≡ get_or y j 0 → Ahead part_of x y (i + 1) (j + 1)
      part-both e = both i j inv h g (part_same _ _ _ _ (left-of i j inv h) (right-of i j inv h g) e)

      pub part-one : (get_or x i 0 ≡ get_or y j 0 → ⊥) → get_or y j 0 ≤ get_or x i 0 → Ahead part_of x y i (j + 1)
      part-one d m = one i j inv h g (part-past _ _ _ _ (left-of i j inv h) (right-of i j inv h g) (omega arith))

      pub part-fails : get_or x i 0 < get_or y j 0 → false ≡ part_of x y
      part-fails m = sym (whole_of i j inv h g ∙ part-not _ _ _ _ (left-of i j inv h) (right-of i j inv h g) m)

-- y is at its end: x must be at its own
pub part-over : {x y : List ℕ} (i j : ℕ) → Ahead part_of x y i j → length y ≤ j → leb (length x) i ≡ part_of x y
part-over {x} {y} i j inv g =
    by_cases (leb (length x) i)
    (λ e. e ∙ part_end i j inv (leb-true (length x) i e))
    (λ e. e ∙ part_out i j inv (leb-false (length x) i e) g)

-- The strengthening test -----------------------------------------------------------------------------------------
module _ (p : List ℕ) {x y : List ℕ} (i j : ℕ) (inv : Ahead (some_strengthens p) x y i j) where
  pub strong-end-x : length x ≤ i → false ≡ some_strengthens p x y
  unfolding some_strengthens any_of
  strong-end-x h = sym (inv.whole ∙ rw (drop_of_length-le x {i = i} h))

  module _ (h : i < length x) where
    pub strong-out : length y ≤ j → false ≡ some_strengthens p x y
    strong-out g =
        sym (inv.whole
        ∙ rw (drop-cons x i 0 h, drop_of_length-le y {i = j} g) (strong-end p (get_or x i 0) (drop (suc i) x) (left-of i j inv h)))

    module _ (g : j < length y) where
      pub strong-both : get_or x i 0 ≡ get_or y j 0 → Ahead (some_strengthens p) x y (i + 1) (j + 1)
      strong-both e = both i j inv h g (strong-same p _ _ (left-of i j inv h) _ _ (right-of i j inv h g) e)

      pub strong-one : get_or y j 0 / 2 < get_or x i 0 / 2 → Ahead (some_strengthens p) x y i (j + 1)
      unfolding var
      strong-one m = one i j inv h g (strong-past p _ _ (left-of i j inv h) _ _ (right-of i j inv h g) m)

      pub strong-fails : get_or x i 0 / 2 < get_or y j 0 / 2 → false ≡ some_strengthens p x y
      unfolding var
      strong-fails m = sym (whole_of i j inv h g ∙ strong-not p _ _ (left-of i j inv h) _ _ (right-of i j inv h g) m)

      -- the opposite stands there; e says whether it may go
      module _ (d : get_or x i 0 ≡ get_or y j 0 → ⊥) (n : get_or x i 0 / 2 ≤ get_or y j 0 / 2) (m : get_or y j 0 / 2 ≤ get_or x i 0 / 2)
          (e : Bool) (is : e ≡ existential p (get_or x i 0 / 2)) where
        here : some_strengthens p x y ≡ (e && part_of (drop (suc i) x) (drop (suc j) y))
        unfolding var
        here =
            whole_of i j inv h g
            ∙ strong-here p _ _ (left-of i j inv h) _ _ (right-of i j inv h g) d (omega arith)
            ∙ ap (λ (b : Bool). b && part_of (drop (suc i) x) (drop (suc j) y)) (sym is)

        pub strong-universal : e ≡ false → false ≡ some_strengthens p x y
        strong-universal q = sym (here ∙ rw q)

        pub strong-rest : e ≡ true → (r : Bool)
            → (ascends (take (length x - (i + 1)) (drop (i + 1) x)) ≡ true → ascends (take (length y - (j + 1)) (drop (j + 1) y)) ≡ true
            → r ≡ part_of (take (length x - (i + 1)) (drop (i + 1) x)) (take (length y - (j + 1)) (drop (j + 1) y)))
            → r ≡ some_strengthens p x y
        strong-rest q r s =
            (rw (tail-mid x (i + 1), tail-mid y (j + 1), add-one i, add-one j) at s)
            (ascends-tail (get_or x i 0) (drop (suc i) x) (left-of i j inv h)) (ascends-tail (get_or y j 0) (drop (suc j) y) (right-of i j inv h g))
            ∙ sym (here ∙ rw q)

-- y is at its end
pub strong-over : (p : List ℕ) {x y : List ℕ} (i j : ℕ) → Ahead (some_strengthens p) x y i j → length y ≤ j → false ≡ some_strengthens p x y
strong-over p {x} {y} i j inv g =
    by_cases (leb (length x) i)
    (λ e. strong-end-x p i j inv (leb-true (length x) i e))
    (λ e. strong-out p i j inv (leb-false (length x) i e) g)
