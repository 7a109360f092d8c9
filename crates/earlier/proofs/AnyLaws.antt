-- Tests of two lists at once.
-- Assumes nothing.
use mathlib.Core.Path.{◌≡◌, refl, sym, ap, ap₂, fun_ext, ◌∙◌}
use mathlib.Core.Bool.{Bool, true, false, ◌&&◌, ◌||◌}
use mathlib.Core.List.{List, [], ◌∷◌}
use Rattle.meaning.specs.Lists.{any_of, keep_if}
use Rattle.meaning.proofs.Lists.{any-keep}

module _ {A : Type 0} where
  any-or : (f g : A → Bool) (l : List A) → any_of (λ x. f x || g x) l ≡ (any_of f l || any_of g l)
  unfolding any_of
  any-or f g [] = refl
  any-or f g (x ∷ l) = rw (any-or f g l) (go (f x) (g x) (any_of f l) (any_of g l))
    where
      go : (a b c d : Bool) → ((a || b) || (c || d)) ≡ ((a || c) || (b || d))
      go true b c d = refl
      go false true true d = refl
      go false true false d = refl
      go false false c d = refl

  pub any-and : (b : Bool) (f : A → Bool) (l : List A) → any_of (λ x. b && f x) l ≡ (b && any_of f l)
  unfolding any_of
  any-and true f l = refl
  any-and false f [] = refl
  any-and false f (x ∷ l) = any-and false f l

  pub none : (l : List A) → any_of (λ x. false) l ≡ false
  unfolding any_of
  none [] = refl
  none (x ∷ l) = none l

pub any_swap : {A B : Type 0} (m : A → B → Bool) (xs : List A) (ys : List B)
    → any_of (λ x. any_of (m x) ys) xs ≡ any_of (λ y. any_of (λ x. m x y) xs) ys
unfolding any_of
any_swap m [] ys = sym (none ys)
any_swap m (x ∷ xs) ys = rw (any_swap m xs ys) (sym (any-or (m x) (λ y. any_of (λ x. m x y) xs) ys))

-- of two lists only those of which one passes a test can pass together
pub any-either : {A : Type 0} (m : A → A → Bool) (t : A → Bool) (xs ys : List A) → ((x y : A) → m x y ≡ true → (t x || t y) ≡ true)
    → any_of (λ x. any_of (m x) ys) xs ≡ (any_of (λ x. any_of (m x) ys) (keep_if t xs) || any_of (λ y. any_of (λ x. m x y) xs) (keep_if t ys))
any-either {A} m t xs ys h =
    ap (λ (f : A → Bool). any_of f xs) (fun_ext (λ x. ap (λ (f : A → Bool). any_of f ys) (fun_ext (λ y. go (t x) (t y) (m x y) (h x y)))
    ∙ any-or (λ y. t x && m x y) (λ y. t y && m x y) ys ∙ ap (λ (b : Bool). b || any_of (λ y. t y && m x y) ys) (any-and (t x) (m x) ys)))
    ∙ any-or (λ x. t x && any_of (m x) ys) (λ x. any_of (λ y. t y && m x y) ys) xs
    ∙ ap₂ ◌||◌ (sym (any-keep (λ x. any_of (m x) ys) t xs))
    (any_swap (λ x y. t y && m x y) xs ys
    ∙ ap (λ (f : A → Bool). any_of f ys) (fun_ext (λ y. any-and (t y) (λ x. m x y) xs)) ∙ sym (any-keep (λ y. any_of (λ x. m x y) xs) t ys))
  where
    go : (a b c : Bool) → (c ≡ true → (a || b) ≡ true) → c ≡ ((a && c) || (b && c))
    go true b true e = refl
    go true true false e = refl
    go true false false e = refl
    go false true true e = refl
    go false true false e = refl
    go false false true e = sym (e refl)
    go false false false e = refl
