-- What each turn makes of one clause whose literals are in range, and which variable it is about.
-- Assumes nothing.
use Prim.Native.Nat.{ℕ, ◌*◌, ◌/◌}
use mathlib.Core.Path.{◌≡◌, refl, sym, ap, ◌∙◌}
use mathlib.Core.Bool.{true, not, cond}
use mathlib.Core.List.{List, [], ◌∷◌, map}
use lib.Dec.{eqb}
use borrow.Author.Tests.{eq-eqb, ne_eqb}
use Rattle.meaning.specs.Lists.{all_of, keep_if, without}
use Rattle.meaning.specs.Formula.{var, opposite}
use Rattle.rules.specs.Simplify.{replace_lit}
use Rattle.table.specs.Pending.{in_range}
use Rattle.recipes.specs.Recipe.{less, turned, some_of, fed}
use Rattle.recipes.specs.Left.{about}
use Rattle.recipes.specs.declared.Turn.TheVariants.{Same, Drop, DropAt, Replace}
use Rattle.meaning.proofs.Basics.{by_cases, eqb-sym, eqb-eq}
use Rattle.meaning.proofs.Lists.{keep_all}
use Rattle.meaning.proofs.Literals.{var-opp, var-plain}
use Rattle.recipes.proofs.FedLaws.{map_same, fed-keep}

pub range-opposite : (l : ℕ) → in_range l ≡ true → in_range (opposite l) ≡ true
unfolding in_range
range-opposite l h = rw (var-opp l) h

-- One clause ----------------------------------------------------------------------------------------------------------
pub some-zero : some_of 0 ≡ []
unfolding some_of in_range var
some-zero = refl

pub some_in : (k : ℕ) → in_range k ≡ true → some_of k ≡ k ∷ []
unfolding some_of
some_in k h = rw h

pub fed-same : (q : List ℕ) (i : ℕ) (c : List ℕ) → all_of in_range c ≡ true → fed Same q i c ≡ c
unfolding turned some_of
fed-same q i c a =
    fed-keep Same q i in_range in_range (λ k. k) c a (λ k h. refl) ∙ map_same (λ k. k) (λ x. refl) (keep_if in_range c) ∙ keep_all in_range c a

some-less : (l k : ℕ) → in_range k ≡ true → some_of (less l k) ≡ cond (not (eqb l k)) (k ∷ []) []
unfolding less
some-less l k h = rw (eqb-sym l k) (by_cases (eqb k l) (λ e. rw e some-zero) (λ e. rw e (some_in k h)))

pub fed-drop : (l : ℕ) (q : List ℕ) (i : ℕ) (c : List ℕ) → all_of in_range c ≡ true → fed (Drop l) q i c ≡ without l c
unfolding turned without
fed-drop l q i c a =
    fed-keep (Drop l) q i in_range (λ k. not (eqb l k)) (λ k. k) c a (λ k h. some-less l k h) ∙ map_same (λ k. k) (λ x. refl) (keep_if (λ k. not (eqb l k)) c)

pub fed-there : (b l : ℕ) (q : List ℕ) (i : ℕ) (c : List ℕ) → all_of in_range c ≡ true → i ≡ b → fed (DropAt b l) q i c ≡ without l c
unfolding turned without
fed-there b l q i c a e =
    fed-keep (DropAt b l) q i in_range (λ k. not (eqb l k)) (λ k. k) c a (λ k h. rw (eq-eqb i b e) (some-less l k h)) ∙ map_same (λ k. k) (λ x. refl) (keep_if (λ k. not (eqb l k)) c)

pub fed-elsewhere : (b l : ℕ) (q : List ℕ) (i : ℕ) (c : List ℕ) → all_of in_range c ≡ true → (i ≡ b → ⊥) → fed (DropAt b l) q i c ≡ c
unfolding turned
fed-elsewhere b l q i c a e =
    fed-keep (DropAt b l) q i in_range in_range (λ k. k) c a (λ k h. rw (ne_eqb i b e, h) (some_in k h)) ∙ map_same (λ k. k) (λ x. refl) (keep_if in_range c) ∙ keep_all in_range c a

range-replaced : (l m k : ℕ) → in_range m ≡ true → in_range k ≡ true → in_range (replace_lit l m k) ≡ true
unfolding replace_lit
range-replaced l m k n h =
    by_cases (eqb k l) (λ e. rw e n) (λ e. rw e (by_cases (eqb k (opposite l)) (λ d. rw d (range-opposite m n)) (λ d. rw d h)))

pub fed-replace : (l m : ℕ) (q : List ℕ) (i : ℕ) (c : List ℕ) → in_range m ≡ true → all_of in_range c ≡ true → fed (Replace l m) q i c ≡ map (replace_lit l m) c
unfolding turned
fed-replace l m q i c n a =
    fed-keep (Replace l m) q i in_range in_range (replace_lit l m) c a (λ k h. rw h (some_in (replace_lit l m k) (range-replaced l m k n h))) ∙ ap (map (replace_lit l m)) (keep_all in_range c a)

-- What the turns are about -------------------------------------------------------------------------------------------
pub about-flip : (l o v : ℕ) → o ≡ opposite l → v ≡ l / 2 → about (Drop o) v ≡ true
unfolding about var
about-flip l o v e d = eqb-eq (ap (λ (n : ℕ). n / 2) e ∙ (unfold var in var-opp l) ∙ sym d)

pub about-plain : (v : ℕ) → about (Drop (2 * v)) v ≡ true
unfolding about
about-plain v = eqb-eq (var-plain v)

pub about-old : (l m v : ℕ) → v ≡ l / 2 → about (Replace l m) v ≡ true
unfolding about var
about-old l m v d = eqb-eq (sym d)
