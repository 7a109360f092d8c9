-- What becomes of clauses when a literal becomes true (unit, pure, expand, resolve). Assumes nothing.
use mathlib.Core.Path.{◌≡◌, refl, sym, ◌∙◌, ap}
use Prim.Native.Nat.{ℕ}
use mathlib.Core.Bool.{Bool, true, false, ◌&&◌, ◌||◌, not, cond}
use mathlib.Core.List.{List, [], ◌∷◌}
use lib.Dec.{eqb}
use Rattle.meaning.specs.Lists.{all_of, any_of, has, without}
use Rattle.meaning.specs.Formula.{var, odd, opposite}
use Rattle.meaning.specs.Game.{Values, with_value, lit_true, clause_true, all_true}
use Rattle.rules.specs.Simplify.{without_lit, assign, occurs}
use Rattle.meaning.proofs.Basics.{by_cases, and_l, and_r, and_i, or_l, or_r, or-il, or-ir, or_elim, not-true, eqb-true, eqb-eq, eqb-ne, eqb-false}
use Rattle.meaning.proofs.Literals.{lit-with, lit-with-other, lit-opp, lit-path, var-opp, odd-opp}
use Rattle.meaning.proofs.Lists.{any-keep, all_keep, any-has, any_none, any-agree, all_map}

-- the value that makes l true, and the other
pub lit-yes : (τ : Values) (l : ℕ) → lit_true (with_value τ (var l) (not (odd l))) l ≡ true
lit-yes τ l = lit-with τ l _ ∙ go (odd l)
  where
    go : (s : Bool) → cond s (not (not s)) (not s) ≡ true
    go true = refl
    go false = refl

pub lit-no : (τ : Values) (l : ℕ) → lit_true (with_value τ (var l) (odd l)) l ≡ false
lit-no τ l = lit-with τ l (odd l) ∙ go (odd l)
  where
    go : (s : Bool) → cond s (not s) s ≡ false
    go true = refl
    go false = refl

-- of one variable there are two literals
pub other-lit : (l k : ℕ) → var k ≡ var l → eqb l k ≡ false → k ≡ opposite l
other-lit l k e d = lit-path k (opposite l) (e ∙ sym (var-opp l)) (go (odd k) (odd l) refl refl ∙ sym (odd-opp l))
  where
    go : (s t : Bool) → odd k ≡ s → odd l ≡ t → odd k ≡ not (odd l)
    go true true a b = absurd (eqb-false l k d (lit-path l k (sym e) (b ∙ sym a)))
    go true false a b = a ∙ sym (ap not b)
    go false true a b = a ∙ sym (ap not b)
    go false false a b = absurd (eqb-false l k d (lit-path l k (sym e) (b ∙ sym a)))

-- a literal that is not l, where l is made true
lit-rest : (τ : Values) (l k : ℕ) → eqb l k ≡ false → lit_true (with_value τ (var l) (not (odd l))) k ≡ (not (eqb (opposite l) k) && lit_true τ k)
lit-rest τ l k d =
    by_cases (eqb (var k) (var l))
    (λ e. let o : k ≡ opposite l = other-lit l k (eqb-true (var k) (var l) e) d in
    rw (eqb-eq (sym o)) (ap (lit_true (with_value τ (var l) (not (odd l)))) o ∙ (lit-opp (with_value τ (var l) (not (odd l))) l ∙ ap not (lit-yes τ l))))
    (λ e. lit-with-other τ (var l) k _ e ∙ sym (rw (eqb-ne _ k (λ o. eqb-false (var k) (var l) e (sym (ap var o) ∙ var-opp l)))))

clause-assign : (l : ℕ) (c : List ℕ) (τ : Values)
    → clause_true c (with_value τ (var l) (not (odd l))) ≡ (not (not (has l c)) || clause_true (without (opposite l) c) τ)
unfolding clause_true without
clause-assign l c τ =
    by_cases (has l c)
    (λ h. any-has _ c l h (lit-yes τ l) ∙ sym (rw h))
    (λ h. (any-agree _ _ _ c (missing h) (λ k d. lit-rest τ l k (not-true _ d)) ∙ sym (any-keep _ (λ k. not (eqb (opposite l) k)) c)) ∙ sym (rw h))
  where
    missing : has l c ≡ false → all_of (λ k. not (eqb l k)) c ≡ true
    missing h = any_none (λ k. eqb l k) c (unfold has in h)

-- to make a literal true is to set its variable
pub assign-true : (l : ℕ) (cs : List (List ℕ)) (τ : Values) → all_true cs (with_value τ (var l) (not (odd l))) ≡ all_true (assign l cs) τ
unfolding all_true assign without_lit
assign-true l cs τ = step cs ∙ sym (all_map _ _ _ ∙ all_keep _ _ cs)
  where
    step : (cs : List (List ℕ))
        → all_of (λ c. clause_true c (with_value τ (var l) (not (odd l)))) cs ≡ all_of (λ c. not (not (has l c)) || clause_true (without (opposite l) c) τ) cs
    step cs = ap (λ (f : List ℕ → Bool). all_of f cs) (λ i c. clause-assign l c τ i)

-- where the opposite of l does not occur, l true is at least as good as l false
clause-better : (l : ℕ) (c : List ℕ) → has (opposite l) c ≡ false → (τ : Values) → clause_true c (with_value τ (var l) (odd l)) ≡ true
    → clause_true c (with_value τ (var l) (not (odd l))) ≡ true
unfolding clause_true any_of has
clause-better l [] never τ h = h
clause-better l (k ∷ c) never τ h =
    or_elim _ _ h
    (λ e. or-il _ _ (by_cases (eqb l k) (λ d. ap (lit_true (with_value τ (var l) (not (odd l)))) (sym (eqb-true l k d)) ∙ lit-yes τ l)
    (λ d. by_cases (eqb (var k) (var l)) (λ v. absurd (eqb-false _ k (or_l _ _ never) (sym (other-lit l k (eqb-true (var k) (var l) v) d))))
    (λ v. lit-with-other τ (var l) k _ v ∙ (sym (lit-with-other τ (var l) k (odd l) v) ∙ e)))))
    (λ e. or-ir (lit_true (with_value τ (var l) (not (odd l))) k) _ (clause-better l c (or_r (eqb (opposite l) k) _ never) τ e))

pub better : (l : ℕ) (cs : List (List ℕ)) → occurs (opposite l) cs ≡ false → (τ : Values) → all_true cs (with_value τ (var l) (odd l)) ≡ true
    → all_true cs (with_value τ (var l) (not (odd l))) ≡ true
unfolding all_true occurs any_of all_of
better l [] never τ h = h
better l (c ∷ cs) never τ h =
    and_i _ _ (clause-better l c (or_l _ _ never) τ (search and_l)) (better l cs (or_r (has (opposite l) c) _ never) τ (search and_r))
