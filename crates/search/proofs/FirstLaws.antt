-- The first b of a list that passes a test, and the first a with its b: as loops go through the lists, and among fewer numbers.
-- Assumes nothing.
use Prim.Native.Nat.{ℕ, suc, ◌+◌, ◌≤◌, ◌<◌}
use mathlib.Core.Path.{◌≡◌, refl, sym, ap, ◌∙◌}
use mathlib.Core.Bool.{Bool, true, false, cond}
use mathlib.Core.List.{List, [], ◌∷◌}
use lib.ListN.{length, get_or, drop, drop_of_length-le}
use lib.Seq.{drop-cons}
use native.Mathlib.Numerals.{add-one}
use Rattle.meaning.specs.Lists.{keep_if}
use Rattle.rules.specs.Choice as rules
use Rattle.rules.specs.Choice.{none, found, or_else, first_b, first_pair}
use Rattle.search.specs.Candidates.{found_as}
use Rattle.std.specs.Prelude.{Option, Some, None}
use Rattle.std.specs.Option.{is_some}
use Rattle.meaning.proofs.Basics.{clash}

-- What an answer tells -----------------------------------------------------------------------------------------
pub told_none : (x : rules.Found) → is_some (found_as x) ≡ false → x ≡ none
unfolding found_as
told_none none e = refl
told_none (found a b) e = clash refl e

-- The loop over b: what is left of the list decides, and m is what the test says of the next ----------------------
module _ (t : ℕ → Bool) (a : ℕ) (s : List ℕ) (i : ℕ) {r : rules.Found} (inv : r ≡ first_b t a (drop i s)) where
  module _ (h : i < length s) (m : Bool) (is : m ≡ t (get_or s i 0)) where
    pub b-next : m ≡ false → r ≡ first_b t a (drop (i + 1) s)
    unfolding first_b
    b-next e = inv ∙ rw (add-one, drop-cons s i 0, ← is, e)

    pub b-found : m ≡ true → Some (a, get_or s i 0) ≡ found_as r
    unfolding first_b found_as
    b-found e = sym (ap found_as inv ∙ rw (drop-cons s i 0, ← is, e))

  pub b_end : length s ≤ i → None ≡ found_as r
  unfolding first_b found_as
  b_end h = sym (ap found_as inv ∙ rw (drop_of_length-le s {i = i} h))

-- The loop over a: f is the answer for one a ---------------------------------------------------------------------
module _ (t : ℕ → ℕ → Bool) (l bs : List ℕ) (i : ℕ) {r : rules.Found} (inv : r ≡ first_pair t (drop i l) bs) where
  module _ (h : i < length l) (f : Option (ℕ × ℕ)) (is : f ≡ found_as (first_b (t (get_or l i 0)) (get_or l i 0) bs)) where
    pub a-next : is_some f ≡ false → r ≡ first_pair t (drop (i + 1) l) bs
    unfolding first_pair or_else
    a-next e = inv ∙ rw (add-one, drop-cons l i 0, told_none (first_b (t (get_or l i 0)) (get_or l i 0) bs) (ap is_some (sym is) ∙ e))

    pub a-found : is_some f ≡ true → f ≡ found_as r
    unfolding first_pair or_else found_as
    a-found e =
        is ∙ sym (ap found_as inv ∙ rw (drop-cons l i 0)
        (go (first_b (t (get_or l i 0)) (get_or l i 0) bs) (first_pair t (drop (suc i) l) bs) (ap is_some (sym is) ∙ e)))
      where
        go : (p q : rules.Found) → is_some (found_as p) ≡ true → found_as (or_else p q) ≡ found_as p
        go none q k = clash k refl
        go (found v w) q k = refl

  pub a-end : length l ≤ i → None ≡ found_as r
  unfolding first_pair found_as
  a-end h = sym (ap found_as inv ∙ rw (drop_of_length-le l {i = i} h))

-- Among fewer numbers ------------------------------------------------------------------------------------------
-- what passes t passes g: then it is enough to look at what passes g
pub first-among : (t g : ℕ → Bool) (a : ℕ) (l : List ℕ) → ((b : ℕ) → t b ≡ true → g b ≡ true) → first_b t a (keep_if g l) ≡ first_b t a l
unfolding first_b keep_if
first-among t g a [] h = refl
first-among t g a (b ∷ l) h = go (g b) (t b) (h b) refl (first-among t g a l h)
  where
    go : (x y : Bool) → (y ≡ true → x ≡ true) → t b ≡ y → first_b t a (keep_if g l) ≡ first_b t a l
        → first_b t a (cond x (b ∷ keep_if g l) (keep_if g l)) ≡ cond y (found a b) (first_b t a l)
    go true true k e ih = rw e
    go true false k e ih = rw e ih
    go false true k e ih = clash refl (sym (k refl))
    go false false k e ih = ih

pub first-none : (t : ℕ → Bool) (a : ℕ) (l : List ℕ) → ((b : ℕ) → t b ≡ false) → first_b t a l ≡ none
unfolding first_b
first-none t a [] h = refl
first-none t a (b ∷ l) h = rw (h b) (first-none t a l h)
