-- What the searches find: the first, and the lightest, then the first. Assumes nothing.
use mathlib.Core.Path.{◌≡◌, refl, sym, ◌∙◌, ap, subst}
use Prim.Native.Nat.{ℕ, ◌<◌, ◌≤◌}
use native.Mathlib.Omega.{arith}
use mathlib.Core.Bool.{Bool, true, false, ◌&&◌, ◌||◌, cond, false≢true}
use mathlib.Core.List.{List, [], ◌∷◌}
use lib.Dec.{eqb, leb}
use borrow.Author.Tests.{leb-true, leb-false}
use Rattle.meaning.specs.Lists.{any_of, has}
use Rattle.rules.specs.Choice.{Found, none, found, or_else, first_b, first_pair, lighter, lightest}
use Rattle.meaning.proofs.Basics.{clash, and_l, and_r, or-il, or-ir, or_elim, not-true, eqb-true, eqb-eq}
use Rattle.rules.proofs.Before.{before}

-- what comes before another in a list is its head, or comes before it in the rest; none comes before the head
before-elim {ℓ} : {A : Type ℓ} (z : ℕ) (l : List ℕ) (x y : ℕ) → before (z ∷ l) x y ≡ true → (z ≡ x → A) → (before l x y ≡ true → A) → A
unfolding before
before-elim z l x y h f g = or_elim (eqb z x) _ (search and_r) (λ e. f (eqb-true z x e)) g

before_head {ℓ} : {A : Type ℓ} (z : ℕ) (l : List ℕ) (x y : ℕ) → z ≡ y → before (z ∷ l) x y ≡ true → A
unfolding before
before_head z l x y e h = clash (eqb-eq e) (search (and_l, not-true))

has-head : (x : ℕ) (l : List ℕ) (y : ℕ) → x ≡ y → has y (x ∷ l) ≡ true
unfolding has any_of
has-head x l y e = or-il _ _ (eqb-eq (sym e))

has-tail : (x : ℕ) (l : List ℕ) (y : ℕ) → has y l ≡ true → has y (x ∷ l) ≡ true
unfolding has any_of
has-tail x l y h = or-ir (eqb y x) _ h

has-elim {ℓ} : {A : Type ℓ} (x : ℕ) (l : List ℕ) (y : ℕ) → has y (x ∷ l) ≡ true → (y ≡ x → A) → (has y l ≡ true → A) → A
unfolding has any_of
has-elim x l y h f g = or_elim _ _ h (λ e. f (eqb-true y x e)) g

has-none {ℓ} : {A : Type ℓ} (y : ℕ) → has y [] ≡ true → A
unfolding has any_of
has-none y h = absurd (false≢true h)

-- The first b ------------------------------------------------------------------------------------------------
record FirstB (t : ℕ → Bool) (bs : List ℕ) (b : ℕ) : Type 0 where
  passes : t b ≡ true
  inside : has b bs ≡ true
  first : (c : ℕ) → before bs c b ≡ true → t c ≡ false

-- what a search says, by what it finds
abbrev SaysB : (ℕ → Bool) → ℕ → List ℕ → Found → Type 0
SaysB t x bs none = (c : ℕ) → has c bs ≡ true → t c ≡ false
SaysB t x bs (found a b) = (x ≡ a) × FirstB t bs b

says-b : (t : ℕ → Bool) (x : ℕ) (bs : List ℕ) → SaysB t x bs (first_b t x bs)
unfolding first_b
says-b t x [] = λ c h. has-none c h
says-b t x (y ∷ bs) = go (t y) refl (first_b t x bs) (says-b t x bs)
  where
    go : (s : Bool) → t y ≡ s → (f : Found) → SaysB t x bs f → SaysB t x (y ∷ bs) (cond s (found x y) f)
    go true h f r = (refl, record { passes = h; inside = has-head y bs y refl; first = λ c i. before_head y bs c y refl i })
    go false h none r = λ c i. has-elim y bs c i (λ j. ap t j ∙ h) (r c)
    go false h (found a b) r =
        (r.0, record { passes = r.1.passes; inside = has-tail y bs b r.1.inside; first = λ c i. before-elim y bs c b i (λ j. ap t (sym j) ∙ h) (r.1.first c) })

-- The first a, then b ----------------------------------------------------------------------------------------
pub record FirstPair (t : ℕ → ℕ → Bool) (as' bs : List ℕ) (a b : ℕ) : Type 0 where
  pub passes : t a b ≡ true
  pub in-a : has a as' ≡ true
  pub in_b : has b bs ≡ true
  pub first : (c d : ℕ) → has d bs ≡ true → (before as' c a || (eqb c a && before bs d b)) ≡ true → t c d ≡ false

abbrev SaysPair : (ℕ → ℕ → Bool) → List ℕ → List ℕ → Found → Type 0
SaysPair t l bs none = (c d : ℕ) → has c l ≡ true → has d bs ≡ true → t c d ≡ false
SaysPair t l bs (found a b) = FirstPair t l bs a b

says-pair : (t : ℕ → ℕ → Bool) (l bs : List ℕ) → SaysPair t l bs (first_pair t l bs)
unfolding first_pair or_else
says-pair t [] bs = λ c d h i. has-none c h
says-pair t (x ∷ l) bs = go (first_b (t x) x bs) (says-b (t x) x bs) (first_pair t l bs) (says-pair t l bs)
  where
    go : (f : Found) → SaysB (t x) x bs f → (g : Found) → SaysPair t l bs g → SaysPair t (x ∷ l) bs (or_else f g)
    go none n none r = λ c d h i. has-elim x l c h (λ q. ap (λ (v : ℕ). t v d) q ∙ n d i) (λ q. r c d q i)
    go none n (found a b) r =
        record {
          passes = r.passes;
          in-a = has-tail x l a r.in-a;
          in_b = r.in_b;
          first = λ c d i j. or_elim (before (x ∷ l) c a) _ j (λ m. before-elim x l c a m (λ q. ap (λ (v : ℕ). t v d) (sym q) ∙ n d i) (λ q. r.first c d i (or-il _ _ q))) (λ m. r.first c d i (or-ir (before l c a) _ m));
        }
    go (found a b) n g r =
        record {
          passes = rw n.0 at n.1.passes;
          in-a = has-head x l a n.0;
          in_b = n.1.inside;
          first = λ c d i j. or_elim (before (x ∷ l) c a) _ j (before_head x l c a n.0) (λ m. ap (λ (v : ℕ). t v d) (eqb-true c a (and_l _ _ m) ∙ sym n.0) ∙ n.1.first d (and_r (eqb c a) _ m));
        }

pub found-pair : (t : ℕ → ℕ → Bool) (l bs : List ℕ) (a b : ℕ) → first_pair t l bs ≡ found a b → FirstPair t l bs a b
found-pair t l bs a b e = subst (SaysPair t l bs) e (says-pair t l bs)

pub none-pair : (t : ℕ → ℕ → Bool) (l bs : List ℕ) → first_pair t l bs ≡ none → (c d : ℕ) → has c l ≡ true → has d bs ≡ true → t c d ≡ false
none-pair t l bs e = subst (SaysPair t l bs) e (says-pair t l bs)

-- The lightest, then the first -------------------------------------------------------------------------------
pub record Lightest (t : ℕ → Bool) (w : ℕ → ℕ) (l : List ℕ) (a b : ℕ) : Type 0 where
  pub no-b : b ≡ 0
  pub passes : t a ≡ true
  pub inside : has a l ≡ true
  pub least : (c : ℕ) → has c l ≡ true → t c ≡ true → w a ≤ w c
  pub first : (c : ℕ) → before l c a ≡ true → t c ≡ true → w a < w c

abbrev SaysLight : (ℕ → Bool) → (ℕ → ℕ) → List ℕ → Found → Type 0
SaysLight t w l none = (c : ℕ) → has c l ≡ true → t c ≡ false
SaysLight t w l (found a b) = Lightest t w l a b

says-light : (t : ℕ → Bool) (w : ℕ → ℕ) (l : List ℕ) → SaysLight t w l (lightest t w l)
unfolding lightest lighter
says-light t w [] = λ c h. has-none c h
says-light t w (x ∷ l) = go (t x) refl (lightest t w l) (says-light t w l)
  where
    -- x passes and no weight of the rest is less
    head : t x ≡ true → ((c : ℕ) → has c l ≡ true → t c ≡ true → w x ≤ w c) → Lightest t w (x ∷ l) x 0
    head i below =
        record {
          no-b = refl;
          passes = i;
          inside = has-head x l x refl;
          least = λ c h k. has-elim x l c h (λ j. let z : w c ≡ w x = ap w j in omega arith) (λ j. below c j k);
          first = λ c h k. before_head x l c x refl h;
        }

    -- the rest's, and x does not pass or weighs more
    tail : (a b : ℕ) → Lightest t w l a b → (t x ≡ true → w a < w x) → Lightest t w (x ∷ l) a b
    tail a b r more =
        record {
          no-b = r.no-b;
          passes = r.passes;
          inside = has-tail x l a r.inside;
          least = λ c h k. has-elim x l c h (λ j. let z : w c ≡ w x = ap w j in let y : w a < w x = more (ap t (sym j) ∙ k) in omega arith) (λ j. r.least c j k);
          first = λ c h k. before-elim x l c a h (λ j. let z : w x ≡ w c = ap w j in let y : w a < w x = more (ap t j ∙ k) in omega arith) (λ j. r.first c j k);
        }

    pick : (a b : ℕ) → Lightest t w l a b → t x ≡ true → (s : Bool) → leb (w x) (w a) ≡ s → SaysLight t w (x ∷ l) (cond s (found x 0) (found a b))
    pick a b r i true j = head i (λ c h v. omega (arith, r.least c h v, leb-true (w x) (w a) j))
    pick a b r i false j = tail a b r (λ _. leb-false (w x) (w a) j)

    go : (s : Bool) → t x ≡ s → (f : Found) → SaysLight t w l f → SaysLight t w (x ∷ l) (cond s (lighter w x f) f)
    go true i none r = head i (λ c h u. clash u (r c h))
    go true i (found a b) r = pick a b r i (leb (w x) (w a)) refl
    go false i none r = λ c h. has-elim x l c h (λ j. ap t j ∙ i) (r c)
    go false i (found a b) r = tail a b r (λ u. clash u i)

pub none-lightest : (t : ℕ → Bool) (w : ℕ → ℕ) (l : List ℕ) → lightest t w l ≡ none → (c : ℕ) → has c l ≡ true → t c ≡ false
none-lightest t w l e = subst (SaysLight t w l) e (says-light t w l)

pub found-lightest : (t : ℕ → Bool) (w : ℕ → ℕ) (l : List ℕ) (a b : ℕ) → lightest t w l ≡ found a b → Lightest t w l a b
found-lightest t w l a b e = subst (SaysLight t w l) e (says-light t w l)
