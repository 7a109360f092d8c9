-- Laws of the lists' tests. Assumes nothing.
use mathlib.Core.Path.{◌≡◌, refl, sym, ◌∙◌, ap, ap₂, fun_ext, subst}
use Prim.Native.Nat.{ℕ}
use mathlib.Core.Bool.{Bool, true, false, ◌&&◌, ◌||◌, not, cond, false≢true}
use mathlib.Core.List.{List, [], ◌∷◌, ◌++◌, map}
use lib.Dec.{eqb, ltb}
use Rattle.meaning.specs.Lists.{all_of, any_of, keep_if, has, same, first_passing}
use Rattle.meaning.specs.Tidy.{insert_new, ascending}
use Rattle.meaning.proofs.Basics.{clash, false_of, and_l, and_r, and_i, or_l, or_r, or-il, or-ir, or_elim, not-true, eqb-self, eqb-true}

module _ {A : Type 0} where
  pub any_append : (f : A → Bool) (c d : List A) → any_of f (c ++ d) ≡ (any_of f c || any_of f d)
  unfolding any_of
  any_append f [] d = refl
  any_append f (x ∷ c) d = ap (λ (b : Bool). f x || b) (any_append f c d) ∙ go (f x) (any_of f c) (any_of f d)
    where
      go : (a b e : Bool) → (a || (b || e)) ≡ ((a || b) || e)
      go true b e = refl
      go false b e = refl

  pub all_append : (f : A → Bool) (c d : List A) → all_of f (c ++ d) ≡ (all_of f c && all_of f d)
  unfolding all_of
  all_append f [] d = refl
  all_append f (x ∷ c) d = ap (λ (b : Bool). f x && b) (all_append f c d) ∙ go (f x) (all_of f c) (all_of f d)
    where
      go : (a b e : Bool) → (a && (b && e)) ≡ ((a && b) && e)
      go true b e = refl
      go false b e = refl

  -- an element more at the right end
  pub all_snoc : (f : A → Bool) (xs : List A) (x : A) → all_of f xs ≡ true → f x ≡ true → all_of f (xs ++ (x ∷ [])) ≡ true
  unfolding all_of
  all_snoc f xs x h k = all_append f xs (x ∷ []) ∙ rw (h, k)

  -- a list is what passes a test and what does not
  pub any-split : (f t : A → Bool) (c : List A) → any_of f c ≡ (any_of f (keep_if (λ x. not (t x)) c) || any_of f (keep_if t c))
  unfolding any_of keep_if
  any-split f t [] = refl
  any-split f t (x ∷ c) = ap (λ (b : Bool). f x || b) (any-split f t c) ∙ go (t x)
    where
      swap : (a b e : Bool) → (a || (b || e)) ≡ (b || (a || e))
      swap true true e = refl
      swap true false e = refl
      swap false b e = refl

      assoc : (a b e : Bool) → (a || (b || e)) ≡ ((a || b) || e)
      assoc true b e = refl
      assoc false b e = refl

      go : (s : Bool)
          → (f x || (any_of f (keep_if (λ x. not (t x)) c) || any_of f (keep_if t c))) ≡ (any_of f (cond (not s) (x ∷ keep_if (λ x. not (t x)) c) (keep_if (λ x. not (t x)) c)) || any_of f (cond s (x ∷ keep_if t c) (keep_if t c)))
      go true = swap (f x) (any_of f (keep_if (λ x. not (t x)) c)) (any_of f (keep_if t c))
      go false = assoc (f x) (any_of f (keep_if (λ x. not (t x)) c)) (any_of f (keep_if t c))

  pub all_split : (f t : A → Bool) (c : List A) → all_of f c ≡ (all_of f (keep_if (λ x. not (t x)) c) && all_of f (keep_if t c))
  unfolding all_of keep_if
  all_split f t [] = refl
  all_split f t (x ∷ c) = ap (λ (b : Bool). f x && b) (all_split f t c) ∙ go (t x)
    where
      swap : (a b e : Bool) → (a && (b && e)) ≡ (b && (a && e))
      swap false true e = refl
      swap false false e = refl
      swap true b e = refl

      assoc : (a b e : Bool) → (a && (b && e)) ≡ ((a && b) && e)
      assoc true b e = refl
      assoc false b e = refl

      go : (s : Bool)
          → (f x && (all_of f (keep_if (λ x. not (t x)) c) && all_of f (keep_if t c))) ≡ (all_of f (cond (not s) (x ∷ keep_if (λ x. not (t x)) c) (keep_if (λ x. not (t x)) c)) && all_of f (cond s (x ∷ keep_if t c) (keep_if t c)))
      go true = swap (f x) (all_of f (keep_if (λ x. not (t x)) c)) (all_of f (keep_if t c))
      go false = assoc (f x) (all_of f (keep_if (λ x. not (t x)) c)) (all_of f (keep_if t c))

  -- of what a selection keeps
  pub any-keep : (f t : A → Bool) (c : List A) → any_of f (keep_if t c) ≡ any_of (λ x. t x && f x) c
  unfolding any_of keep_if
  any-keep f t [] = refl
  any-keep f t (x ∷ c) = go (t x) ∙ ap (λ (b : Bool). (t x && f x) || b) (any-keep f t c)
    where
      go : (s : Bool) → any_of f (cond s (x ∷ keep_if t c) (keep_if t c)) ≡ ((s && f x) || any_of f (keep_if t c))
      go true = refl
      go false = refl

  pub all_keep : (f t : A → Bool) (c : List A) → all_of f (keep_if t c) ≡ all_of (λ x. not (t x) || f x) c
  unfolding all_of keep_if
  all_keep f t [] = refl
  all_keep f t (x ∷ c) = go (t x) ∙ ap (λ (b : Bool). (not (t x) || f x) && b) (all_keep f t c)
    where
      go : (s : Bool) → all_of f (cond s (x ∷ keep_if t c) (keep_if t c)) ≡ ((not s || f x) && all_of f (keep_if t c))
      go true = refl
      go false = refl

  pub any-le : (f g : A → Bool) (c : List A) → ((x : A) → f x ≡ true → g x ≡ true) → any_of f c ≡ true → any_of g c ≡ true
  unfolding any_of
  any-le f g [] h k = k
  any-le f g (x ∷ c) h k = or_elim (f x) (any_of f c) k (λ e. or-il (g x) (any_of g c) (h x e)) (λ e. or-ir (g x) (any_of g c) (any-le f g c h e))

  pub all-le : (f g : A → Bool) (c : List A) → ((x : A) → f x ≡ true → g x ≡ true) → all_of f c ≡ true → all_of g c ≡ true
  unfolding all_of
  all-le f g [] h k = k
  all-le f g (x ∷ c) h k = and_i (g x) (all_of g c) (h x (and_l (f x) (all_of f c) k)) (all-le f g c h (and_r (f x) (all_of f c) k))

  pub any-keep-le : (f t : A → Bool) (c : List A) → any_of f (keep_if t c) ≡ true → any_of f c ≡ true
  any-keep-le f t c h = any-le (λ x. t x && f x) f c (λ x. and_r (t x) (f x)) (sym (any-keep f t c) ∙ h)

  pub all-keep-le : (f t : A → Bool) (c : List A) → all_of f c ≡ true → all_of f (keep_if t c) ≡ true
  all-keep-le f t c h = all_keep f t c ∙ all-le f (λ x. not (t x) || f x) c (λ x. or-ir (not (t x)) (f x)) h

  -- a test that passes everywhere, and one that passes somewhere
  pub any-all : (f g : A → Bool) (c : List A) → any_of f c ≡ true → all_of g c ≡ true → any_of (λ x. f x && g x) c ≡ true
  unfolding any_of all_of
  any-all f g [] h k = h
  any-all f g (x ∷ c) h k =
      or_elim (f x) (any_of f c) h
      (λ e. or-il (f x && g x) (any_of (λ x. f x && g x) c) (and_i (f x) (g x) e (and_l (g x) (all_of g c) k)))
      (λ e. or-ir (f x && g x) (any_of (λ x. f x && g x) c) (any-all f g c e (and_r (g x) (all_of g c) k)))

  pub all-all : (f g : A → Bool) (c : List A) → all_of f c ≡ true → all_of g c ≡ true → all_of (λ x. f x && g x) c ≡ true
  unfolding all_of
  all-all f g [] h k = h
  all-all f g (x ∷ c) h k =
      and_i (f x && g x) (all_of (λ x. f x && g x) c)
      (and_i (f x) (g x) (and_l (f x) (all_of f c) h) (and_l (g x) (all_of g c) k))
      (all-all f g c (and_r (f x) (all_of f c) h) (and_r (g x) (all_of g c) k))

  -- two tests that agree wherever a third passes, on a list where it passes everywhere
  pub any-agree : (t f g : A → Bool) (c : List A) → all_of t c ≡ true → ((x : A) → t x ≡ true → f x ≡ g x) → any_of f c ≡ any_of g c
  unfolding any_of all_of
  any-agree t f g [] k h = refl
  any-agree t f g (x ∷ c) k h = ap₂ ◌||◌ (h x (and_l (t x) (all_of t c) k)) (any-agree t f g c (and_r (t x) (all_of t c) k) h)

  pub all-agree : (t f g : A → Bool) (c : List A) → all_of t c ≡ true → ((x : A) → t x ≡ true → f x ≡ g x) → all_of f c ≡ all_of g c
  unfolding all_of
  all-agree t f g [] k h = refl
  all-agree t f g (x ∷ c) k h = ap₂ ◌&&◌ (h x (and_l (t x) (all_of t c) k)) (all-agree t f g c (and_r (t x) (all_of t c) k) h)

  pub keep_all : (t : A → Bool) (c : List A) → all_of t c ≡ true → keep_if t c ≡ c
  unfolding keep_if all_of
  keep_all t [] h = refl
  keep_all t (x ∷ c) h = rw (and_l (t x) (all_of t c) h) (ap (λ (d : List A). x ∷ d) (keep_all t c (and_r (t x) (all_of t c) h)))

  pub all-kept : (t : A → Bool) (c : List A) → all_of t (keep_if t c) ≡ true
  unfolding all_of
  all-kept t [] = unfold keep_if in refl
  all-kept t (x ∷ c) = all_keep t t (x ∷ c) ∙ and_i (not (t x) || t x) (all_of (λ x. not (t x) || t x) c) (go (t x)) (sym (all_keep t t c) ∙ all-kept t c)
    where
      go : (s : Bool) → (not s || s) ≡ true
      go true = refl
      go false = refl

  pub any_none : (f : A → Bool) (c : List A) → any_of f c ≡ false → all_of (λ x. not (f x)) c ≡ true
  unfolding any_of all_of
  any_none f [] h = refl
  any_none f (x ∷ c) h = and_i (not (f x)) (all_of (λ x. not (f x)) c) (ap not (or_l (f x) (any_of f c) h)) (any_none f c (or_r (f x) (any_of f c) h))

  pub none_any : (f : A → Bool) (c : List A) → all_of (λ x. not (f x)) c ≡ true → any_of f c ≡ false
  unfolding any_of all_of
  none_any f [] h = refl
  none_any f (x ∷ c) h = rw (not-true (f x) (search and_l)) (none_any f c (search and_r))

  pub any_some : (f : A → Bool) (c : List A) → any_of f c ≡ true → (x : A) × (f x ≡ true)
  unfolding any_of
  any_some f [] h = absurd (false≢true h)
  any_some f (x ∷ c) h = or_elim (f x) (any_of f c) h (λ e. (x, e)) (λ e. any_some f c e)

module _ {A B : Type 0} where
  pub any-map : (f : B → Bool) (g : A → B) (c : List A) → any_of f (map g c) ≡ any_of (λ x. f (g x)) c
  unfolding any_of
  any-map f g [] = refl
  any-map f g (x ∷ c) = ap (λ (b : Bool). f (g x) || b) (any-map f g c)

  pub all_map : (f : B → Bool) (g : A → B) (c : List A) → all_of f (map g c) ≡ all_of (λ x. f (g x)) c
  unfolding all_of
  all_map f g [] = refl
  all_map f g (x ∷ c) = ap (λ (b : Bool). f (g x) && b) (all_map f g c)

-- Numbers in a list ------------------------------------------------------------------------------------------
pub any-has : (f : ℕ → Bool) (c : List ℕ) (k : ℕ) → has k c ≡ true → f k ≡ true → any_of f c ≡ true
unfolding has
any-has f c k h e = any-le (λ x. eqb k x) f c (λ x d. subst (λ (y : ℕ). f y ≡ true) (eqb-true k x d) e) h

pub all-has : (f : ℕ → Bool) (c : List ℕ) (k : ℕ) → all_of f c ≡ true → has k c ≡ true → f k ≡ true
unfolding has any_of all_of
all-has f [] k h e = absurd (false≢true e)
all-has f (x ∷ c) k h e =
    or_elim (eqb k x) (any_of (λ y. eqb k y) c) e
    (λ d. subst (λ (y : ℕ). f y ≡ true) (sym (eqb-true k x d)) (and_l (f x) (all_of f c) h))
    (λ d. all-has f c k (and_r (f x) (all_of f c) h) d)

-- a test that passes at every member passes everywhere
pub all-of-has : (f : ℕ → Bool) (c : List ℕ) → ((k : ℕ) → has k c ≡ true → f k ≡ true) → all_of f c ≡ true
unfolding has any_of all_of
all-of-has f [] h = refl
all-of-has f (x ∷ c) h =
    and_i (f x) (all_of f c) (h x (or-il (eqb x x) (any_of (λ y. eqb x y) c) (eqb-self x)))
    (all-of-has f c (λ k e. h k (or-ir (eqb k x) (any_of (λ y. eqb k y) c) e)))

pub any-insert : (f : ℕ → Bool) (l : ℕ) (c : List ℕ) → any_of f (insert_new l c) ≡ (f l || any_of f c)
unfolding any_of insert_new
any-insert f l [] = refl
any-insert f l (k ∷ c) = go (ltb l k) (eqb l k) (eqb-true l k) (any-insert f l c)
  where
    twice : (a b : Bool) → (a || b) ≡ (a || (a || b))
    twice true b = refl
    twice false b = refl

    swap : (a b e : Bool) → (a || (b || e)) ≡ (b || (a || e))
    swap true true e = refl
    swap true false e = refl
    swap false b e = refl

    go : (s t : Bool) → (t ≡ true → l ≡ k) → any_of f (insert_new l c) ≡ (f l || any_of f c)
        → any_of f (cond s (l ∷ k ∷ c) (cond t (k ∷ c) (k ∷ insert_new l c))) ≡ (f l || (f k || any_of f c))
    go true t e ih = refl
    go false true e ih = rw (e refl) (twice (f k) (any_of f c))
    go false false e ih = ap (λ (b : Bool). f k || b) ih ∙ swap (f k) (f l) (any_of f c)

pub any-ascending : (f : ℕ → Bool) (c : List ℕ) → any_of f (ascending c) ≡ any_of f c
unfolding any_of ascending
any-ascending f [] = refl
any-ascending f (l ∷ c) = any-insert f l (ascending c) ∙ ap (λ (b : Bool). f l || b) (any-ascending f c)

pub same-path : (c d : List ℕ) → same c d ≡ true → c ≡ d
unfolding same
same-path [] [] h = refl
same-path [] (k ∷ d) h = absurd (false≢true h)
same-path (l ∷ c) [] h = absurd (false≢true h)
same-path (l ∷ c) (k ∷ d) h = ap₂ ◌∷◌ (eqb-true l k (and_l (eqb l k) (same c d) h)) (same-path c d (and_r (eqb l k) (same c d) h))

pub same_self : (c : List ℕ) → same c c ≡ true
unfolding same
same_self [] = refl
same_self (l ∷ c) = and_i (eqb l l) (same c c) (eqb-self l) (same_self c)

-- one that passes
pub any-witness : (f : ℕ → Bool) (c : List ℕ) → any_of f c ≡ true → (k : ℕ) × (has k c ≡ true) × (f k ≡ true)
unfolding has any_of
any-witness f [] h = absurd (false≢true h)
any-witness f (x ∷ c) h =
    or_elim (f x) (any_of f c) h
    (λ e. (x, or-il (eqb x x) (any_of (λ y. eqb x y) c) (eqb-self x), e))
    (λ e. let w : (k : ℕ) × (any_of (λ y. eqb k y) c ≡ true) × (f k ≡ true) = any-witness f c e in (w.0, or-ir (eqb w.0 x) (any_of (λ y. eqb w.0 y) c) w.1, w.2))

pub same_turn : (c d : List ℕ) → same c d ≡ false → same d c ≡ false
same_turn c d h = false_of (same d c) (λ e. clash (subst (λ (x : List ℕ). same c x ≡ true) (sym (same-path d c e)) (same_self c)) h)

-- a member that passes is kept
pub has-keep : (t : ℕ → Bool) (c : List ℕ) (k : ℕ) → has k c ≡ true → t k ≡ true → has k (keep_if t c) ≡ true
has-keep t c k h e = unfold has in (any-keep (λ x. eqb k x) t c ∙ any-has (λ x. t x && eqb k x) c k h (and_i (t k) (eqb k k) e (eqb-self k)))

-- two selections, one after the other
pub keep-twice : (f g h : ℕ → Bool) → ((x : ℕ) → (f x && g x) ≡ h x) → (c : List ℕ) → keep_if f (keep_if g c) ≡ keep_if h c
unfolding keep_if
keep-twice f g h e [] = refl
keep-twice f g h e (x ∷ c) = go (g x) (f x) refl (h x) (e x) (keep-twice f g h e c)
  where
    go : (s t : Bool) → f x ≡ t → (u : Bool) → (f x && s) ≡ u → keep_if f (keep_if g c) ≡ keep_if h c
        → keep_if f (cond s (x ∷ keep_if g c) (keep_if g c)) ≡ cond u (x ∷ keep_if h c) (keep_if h c)
    go true true a u b ih = ap (λ (z : Bool). cond z (x ∷ keep_if f (keep_if g c)) (keep_if f (keep_if g c))) a ∙ (ap (λ (r : List ℕ). x ∷ r) ih ∙ ap (λ (z : Bool). cond z (x ∷ keep_if h c) (keep_if h c)) (sym (ap (λ (z : Bool). z && true) a) ∙ b))
    go true false a u b ih = ap (λ (z : Bool). cond z (x ∷ keep_if f (keep_if g c)) (keep_if f (keep_if g c))) a ∙ (ih ∙ ap (λ (z : Bool). cond z (x ∷ keep_if h c) (keep_if h c)) (sym (ap (λ (z : Bool). z && true) a) ∙ b))
    go false true a u b ih = ih ∙ ap (λ (z : Bool). cond z (x ∷ keep_if h c) (keep_if h c)) (sym (ap (λ (z : Bool). z && false) a) ∙ b)
    go false false a u b ih = ih ∙ ap (λ (z : Bool). cond z (x ∷ keep_if h c) (keep_if h c)) (sym (ap (λ (z : Bool). z && false) a) ∙ b)

pub keep_same : (f g : ℕ → Bool) (c : List ℕ) → ((x : ℕ) → f x ≡ g x) → keep_if f c ≡ keep_if g c
keep_same f g c h = ap (λ (t : ℕ → Bool). keep_if t c) (fun_ext h)

-- the first that passes passes, and is of the list
pub first_passes : (f : ℕ → Bool) (c : List ℕ) → any_of f c ≡ true → f (first_passing f c) ≡ true
unfolding any_of first_passing
first_passes f [] h = absurd (false≢true h)
first_passes f (l ∷ c) h = go (f l) refl h (first_passes f c)
  where
    go : (s : Bool) → f l ≡ s → (s || any_of f c) ≡ true → (any_of f c ≡ true → f (first_passing f c) ≡ true) → f (cond s l (first_passing f c)) ≡ true
    go true e k ih = e
    go false e k ih = ih k

pub first-in : (f : ℕ → Bool) (c : List ℕ) → any_of f c ≡ true → has (first_passing f c) c ≡ true
unfolding any_of first_passing has
first-in f [] h = absurd (false≢true h)
first-in f (l ∷ c) h = go (f l) h (first-in f c)
  where
    go : (s : Bool) → (s || any_of f c) ≡ true → (any_of f c ≡ true → has (first_passing f c) c ≡ true) → has (cond s l (first_passing f c)) (l ∷ c) ≡ true
    go true k ih = or-il (eqb l l) (has l c) (eqb-self l)
    go false k ih = or-ir (eqb (first_passing f c) l) (has (first_passing f c) c) (ih k)

-- what a selection leaves out fails its test
pub any_left : (t : ℕ → Bool) (c : List ℕ) → any_of t (keep_if (λ x. not (t x)) c) ≡ false
any_left t c = none_any t (keep_if (λ x. not (t x)) c) (all-kept (λ x. not (t x)) c)
