-- Left and right in a good prefix: of two variables one stands left of the other; a part at the right end has the order of the
-- whole; the first entry of a part that passes a test has none that passes to its left. Assumes nothing.
use mathlib.Core.Path.{◌≡◌, refl, sym, ◌∙◌, ap}
use Prim.Native.Nat.{ℕ}
use mathlib.Core.Bool.{Bool, true, false, ◌||◌, not, cond, false≢true}
use mathlib.Core.List.{List, [], ◌∷◌, ◌++◌, append_assoc}
use lib.Dec.{eqb}
use Rattle.meaning.specs.Lists.{any_of, has, first_passing}
use Rattle.meaning.specs.Formula.{var, is_var, mentions, right_of}
use Rattle.meaning.specs.WellFormed.{good_prefix}
use Rattle.meaning.proofs.Basics.{clash, false_of, or_l, or_r, or-il, or-ir, or_elim, eqb-true, eqb-eq, eqb-ne, eqb-self}
use Rattle.meaning.proofs.Lists.{any_append, any-le}
use Rattle.meaning.proofs.Prefix.{good-out, good-tail, right-mentioned}

-- Two variables --------------------------------------------------------------------------------------------------
pub same_place : (p : List ℕ) (a c : ℕ) → mentions p a ≡ true → mentions p c ≡ true → mentions (right_of a p) c ≡ false → mentions (right_of c p) a ≡ false
    → a ≡ c
unfolding mentions any_of right_of is_var
same_place [] a c x y h k = absurd (false≢true x)
same_place (q ∷ p) a c x y h k = go (eqb (var q) a) (eqb (var q) c) refl refl x y h k (same_place p a c)
  where
    go : (s t : Bool) → eqb (var q) a ≡ s → eqb (var q) c ≡ t → (s || mentions p a) ≡ true → (t || mentions p c) ≡ true → mentions (cond s p (right_of a p)) c ≡ false
        → mentions (cond t p (right_of c p)) a ≡ false
        → (mentions p a ≡ true → mentions p c ≡ true → mentions (right_of a p) c ≡ false → mentions (right_of c p) a ≡ false → a ≡ c)
        → a ≡ c
    go true true i j x y h k ih = sym (eqb-true (var q) a i) ∙ eqb-true (var q) c j
    go true false i j x y h k ih = clash y h
    go false true i j x y h k ih = clash x k
    go false false i j x y h k ih = ih x y h k

-- an entry is of its variable
pub entry-mentioned : (q : ℕ) (s : List ℕ) → has q s ≡ true → mentions s (var q) ≡ true
unfolding mentions has is_var
entry-mentioned q s h = any-le _ _ s (λ k e. eqb-eq (ap var (sym (eqb-true q k e)))) h

-- Parts at the right end -----------------------------------------------------------------------------------------
pub record Part (p s : List ℕ) : Type 0 where
  pub left : List ℕ
  pub whole : p ≡ left ++ s

pub longer : (q : ℕ) (p s : List ℕ) → Part p s → Part (q ∷ p) s
longer q p s k = record { left = q ∷ k.left; whole = ap (λ (r : List ℕ). q ∷ r) k.whole }

pub part_then : (p s t : List ℕ) → Part p s → Part s t → Part p t
part_then p s t h k = record { left = h.left ++ k.left; whole = h.whole ∙ (ap (λ (r : List ℕ). h.left ++ r) k.whole ∙ sym (append_assoc h.left k.left t)) }

pub right-part : (x : ℕ) (p : List ℕ) → Part p (right_of x p)
unfolding right_of
right-part x [] = record { left = []; whole = refl }
right-part x (q ∷ p) = go (is_var x q) (right-part x p)
  where
    go : (s : Bool) → Part p (right_of x p) → Part (q ∷ p) (cond s p (right_of x p))
    go true k = record { left = q ∷ []; whole = refl }
    go false k = longer q p (right_of x p) k

-- of a prefix in two parts: they share no variable
apart : (l s : List ℕ) (w : ℕ) → good_prefix (l ++ s) ≡ true → mentions s w ≡ true → mentions l w ≡ false
unfolding mentions any_of is_var
apart [] s w g h = refl
apart (q ∷ l) s w g h = rw (eqb-ne (var q) w other) (apart l s w (good-tail q (l ++ s) g) h)
  where
    there : mentions (l ++ s) w ≡ true
    there = unfold mentions in (any_append (is_var w) l s ∙ or-ir (any_of (is_var w) l) _ h)

    other : var q ≡ w → ⊥
    other e = clash there (rw e at (good-out q (l ++ s) g))

good-end : (l s : List ℕ) → good_prefix (l ++ s) ≡ true → good_prefix s ≡ true
good-end [] s g = g
good-end (q ∷ l) s g = good-end l s (good-tail q (l ++ s) g)

right_end : (l s : List ℕ) (w : ℕ) → mentions l w ≡ false → right_of w (l ++ s) ≡ right_of w s
unfolding mentions any_of right_of is_var
right_end [] s w h = refl
right_end (q ∷ l) s w h = rw (or_l (eqb (var q) w) _ h) (right_end l s w (or_r (eqb (var q) w) _ h))

module _ (p s : List ℕ) (good : good_prefix p ≡ true) (k : Part p s) where
  pub part-good : good_prefix s ≡ true
  part-good = good-end k.left s (rw k.whole at good)

  pub part-any : (f : ℕ → Bool) → any_of f s ≡ true → any_of f p ≡ true
  part-any f h = rw k.whole (any_append f k.left s ∙ or-ir (any_of f k.left) _ h)

  pub part_right : (w : ℕ) → mentions s w ≡ true → right_of w p ≡ right_of w s
  part_right w h = ap (right_of w) k.whole ∙ right_end k.left s w (apart k.left s w (rw k.whole at good) h)

  -- an entry whose variable stands in the part stands there itself
  pub part-entry : (q : ℕ) → has q p ≡ true → mentions s (var q) ≡ true → has q s ≡ true
  unfolding has
  part-entry q h m =
      or_elim (any_of (λ x. eqb q x) k.left) _ (sym (any_append (λ x. eqb q x) k.left s) ∙ (rw k.whole at h))
      (λ e. clash (entry-mentioned q k.left (unfold has in e)) (apart k.left s (var q) (rw k.whole at good) m))
      (λ e. e)

-- a part begins with an entry: the variables that stand in it are those that do not stand left of its first
side : (l : List ℕ) (q : ℕ) (r : List ℕ) (z : ℕ) → good_prefix (l ++ (q ∷ r)) ≡ true → mentions (l ++ (q ∷ r)) z ≡ true
    → mentions (q ∷ r) z ≡ not (mentions (right_of z (l ++ (q ∷ r))) (var q))
unfolding right_of
side [] q r z g m = m ∙ sym (ap not (false_of _ inside))
  where
    cases : (s : Bool) → mentions (cond s r (right_of z r)) (var q) ≡ true → mentions r (var q) ≡ true
    cases true h = h
    cases false h = right-mentioned z r (var q) h

    inside : mentions (cond (is_var z q) r (right_of z r)) (var q) ≡ true → ⊥
    inside h = clash (cases (is_var z q) h) (good-out q r g)
side (k ∷ l) q r z g m = go (is_var z k) refl (side l q r z (good-tail k (l ++ (q ∷ r)) g))
  where
    here : mentions (l ++ (q ∷ r)) (var q) ≡ true
    here = unfold mentions any_of is_var in (any_append (is_var (var q)) l (q ∷ r) ∙ or-ir (any_of (is_var (var q)) l) _ (or-il (eqb (var q) (var q)) _ (eqb-self (var q))))

    inner : mentions (q ∷ r) z ≡ true → mentions (l ++ (q ∷ r)) z ≡ true
    inner h = unfold mentions in (any_append (is_var z) l (q ∷ r) ∙ or-ir (any_of (is_var z) l) _ h)

    is : is_var z k ≡ true → var k ≡ z
    is e = unfold is_var in eqb-true (var k) z e

    later : is_var z k ≡ false → mentions (l ++ (q ∷ r)) z ≡ true
    later e = unfold mentions any_of in (rw e at m)

    go : (s : Bool) → is_var z k ≡ s
        → (mentions (l ++ (q ∷ r)) z ≡ true → mentions (q ∷ r) z ≡ not (mentions (right_of z (l ++ (q ∷ r))) (var q)))
        → mentions (q ∷ r) z ≡ not (mentions (cond s (l ++ (q ∷ r)) (right_of z (l ++ (q ∷ r)))) (var q))
    go true e ih = false_of _ (λ h. clash (inner h) (rw (is e) at (good-out k (l ++ (q ∷ r)) g))) ∙ sym (ap not here)
    go false e ih = ih (later e)

pub part-side : (p : List ℕ) (q : ℕ) (r : List ℕ) → good_prefix p ≡ true → Part p (q ∷ r) → (z : ℕ) → mentions p z ≡ true
    → mentions (q ∷ r) z ≡ not (mentions (right_of z p) (var q))
part-side p q r g k z m = rw k.whole (side k.left q r z (rw k.whole at g) (rw k.whole at m))

-- The first that passes ------------------------------------------------------------------------------------------
pub first-left : (f : ℕ → Bool) (s : List ℕ) → good_prefix s ≡ true → (w : ℕ) → has w s ≡ true → f w ≡ true
    → mentions (right_of (var w) s) (var (first_passing f s)) ≡ false
unfolding has any_of first_passing right_of is_var
first-left f [] g w h i = absurd (false≢true h)
first-left f (k ∷ s) g w h i = go (f k) refl (eqb (var k) (var w)) refl (first-left f s (good-tail k s g) w)
  where
    tail : f k ≡ false → has w s ≡ true
    tail e = or_elim (eqb w k) _ h (λ d. clash (ap f (sym (eqb-true w k d)) ∙ i) e) (λ d. unfold has in d)

    inside : (t : Bool) → mentions (cond t s (right_of (var w) s)) (var k) ≡ true → mentions s (var k) ≡ true
    inside true d = d
    inside false d = right-mentioned (var w) s (var k) d

    go : (b : Bool) → f k ≡ b → (t : Bool) → eqb (var k) (var w) ≡ t
        → (has w s ≡ true → f w ≡ true → mentions (right_of (var w) s) (var (first_passing f s)) ≡ false)
        → mentions (cond t s (right_of (var w) s)) (var (cond b k (first_passing f s))) ≡ false
    go true e t d ih = false_of _ (λ m. clash (inside t m) (good-out k s g))
    go false e true d ih = clash (entry-mentioned w s (tail e)) (rw (eqb-true (var k) (var w) d) at (good-out k s g))
    go false e false d ih = ih (tail e) i
