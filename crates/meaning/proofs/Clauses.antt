-- What clauses depend on, and what a chosen value makes of them. Assumes nothing.
use mathlib.Core.Path.{◌≡◌, refl, sym, ◌∙◌, ap, ap₂, subst}
use Prim.Native.Nat.{ℕ, ◌+◌, ◌*◌}
use mathlib.Core.Bool.{Bool, true, false, ◌&&◌, ◌||◌, not, cond, true≢false, false≢true}
use mathlib.Core.List.{List, [], ◌∷◌, ◌++◌}
use lib.Dec.{eqb}
use Rattle.meaning.specs.Lists.{all_of, any_of, keep_if, has}
use Rattle.meaning.specs.Formula.{var, odd, opposite, is_var, mentions, drop_var}
use Rattle.meaning.specs.Tidy.{both_phases}
use Rattle.meaning.specs.Game.{Values, with_value, lit_true, clause_true, all_true}
use Rattle.meaning.proofs.Basics.{by_cases, clash, false_of, and_l, and_r, and_i, or_l, or_r, or-il, or-ir, or_elim, not-true, not-false, eqb-self, eqb-true}
use Rattle.meaning.proofs.Game.{Free, unmentioned-head, unmentioned-tail}
use Rattle.meaning.proofs.Literals.{lit-with, lit-with-other, lit-opp, plain-is, negated-is, odd-plain, var-plain, opp-even}
use Rattle.meaning.proofs.Lists.{all_append, any-split, any-keep, any-keep-le, any-has, none_any}

-- a clause depends on its own variables only
pub clause-free : (c : List ℕ) (v : ℕ) → mentions c v ≡ false → Free v (clause_true c)
unfolding clause_true any_of
clause-free [] v out ρ b = refl
clause-free (l ∷ c) v out ρ b =
    ap₂ ◌||◌ (lit-with-other ρ v l b (unmentioned-head l c v out)) (clause-free c v (unmentioned-tail l c v out) ρ b)

pub clauses-free : (cs : List (List ℕ)) (v : ℕ) → any_of (λ c. mentions c v) cs ≡ false → Free v (all_true cs)
unfolding all_true any_of all_of
clauses-free [] v out ρ b = refl
clauses-free (c ∷ cs) v out ρ b =
    ap₂ ◌&&◌ (clause-free c v (or_l (mentions c v) (any_of (λ c. mentions c v) cs) out) ρ b)
    (clauses-free cs v (or_r (mentions c v) (any_of (λ c. mentions c v) cs) out) ρ b)

-- without a variable
pub drop-not : (v : ℕ) (c : List ℕ) → mentions (drop_var v c) v ≡ false
unfolding mentions drop_var all_of
drop-not v c = any-keep (is_var v) (λ q. not (is_var v q)) c ∙ none_any (λ q. not (is_var v q) && is_var v q) c (go c)
  where
    no : (s : Bool) → not (not s && s) ≡ true
    no true = refl
    no false = refl

    go : (c : List ℕ) → all_of (λ q. not (not (is_var v q) && is_var v q)) c ≡ true
    go [] = refl
    go (l ∷ c) = and_i (not (not (is_var v l) && is_var v l)) (all_of (λ q. not (not (is_var v q) && is_var v q)) c) (no (is_var v l)) (go c)

pub drop-still-not : (v w : ℕ) (c : List ℕ) → mentions c w ≡ false → mentions (drop_var v c) w ≡ false
unfolding mentions drop_var
drop-still-not v w c out = false_of (any_of (is_var w) (keep_if (λ q. not (is_var v q)) c)) (λ h. clash (any-keep-le (is_var w) (λ q. not (is_var v q)) c h) out)

-- a clause is what it is without v, or what it says of v
pub clause-split : (v : ℕ) (c : List ℕ) (τ : Values) → clause_true c τ ≡ (clause_true (drop_var v c) τ || clause_true (keep_if (is_var v) c) τ)
unfolding clause_true drop_var
clause-split v c τ = any-split (lit_true τ) (is_var v) c

-- the part of a clause that speaks of v, always in the phase b, is false where v has the value b (true for negated literals)
pub phase-false : (v : ℕ) (b : Bool) (c : List ℕ) → ((l : ℕ) → has l c ≡ true → var l ≡ v → odd l ≡ b) → (τ : Values)
    → clause_true (keep_if (is_var v) c) (with_value τ v b) ≡ false
unfolding clause_true any_of has is_var
phase-false v b c h τ =
    false_of (any_of (lit_true (with_value τ v b)) (keep_if (is_var v) c))
    (λ k. go c (λ l e. h l e) (sym (any-keep (lit_true (with_value τ v b)) (is_var v) c) ∙ k))
  where
    phase : (s : Bool) → cond s (not s) s ≡ true → ⊥
    phase true e = false≢true e
    phase false e = false≢true e

    one : (l : ℕ) → var l ≡ v → odd l ≡ b → lit_true (with_value τ v b) l ≡ true → ⊥
    one l e o k = phase (odd l) (sym (lit-with τ l (odd l)) ∙ subst (λ (w : ℕ). lit_true (with_value τ w (odd l)) l ≡ true) (sym e) (subst (λ (x : Bool). lit_true (with_value τ v x) l ≡ true) (sym o) k))

    go : (d : List ℕ) → ((l : ℕ) → has l d ≡ true → var l ≡ v → odd l ≡ b) → any_of (λ l. is_var v l && lit_true (with_value τ v b) l) d ≡ true → ⊥
    go [] f k = false≢true k
    go (l ∷ d) f k =
        or_elim (eqb (var l) v && lit_true (with_value τ v b) l) (any_of (λ l. eqb (var l) v && lit_true (with_value τ v b) l) d) k
        (λ e. one l (eqb-true (var l) v (search and_l))
        (f l (or-il (eqb l l) (any_of (λ y. eqb l y) d) (eqb-self l)) (eqb-true (var l) v (search and_l)))
        (search and_r))
        (λ e. go d (λ k₁ e₁. f k₁ (or-ir (eqb k₁ l) (any_of (λ y. eqb k₁ y) d) e₁)) e)

-- a clause without both phases speaks of v in one phase
pub one-phase : (v : ℕ) (c : List ℕ) → both_phases c ≡ false → (l : ℕ) → has l c ≡ true → var l ≡ v → odd l ≡ not (has (2 * v) c)
unfolding both_phases
one-phase v c no_both l h e =
    by_cases (has (2 * v) c)
    (λ p. false_of (odd l)
    (λ o. clash (subst (λ (k : ℕ). has k c ≡ true) (negated-is l o ∙ (ap (λ (w : ℕ). 2 * w + 1) e ∙ sym (opp-even (2 * v) (odd-plain v) ∙ ap (λ (w : ℕ). 2 * w + 1) (var-plain v)))) h)
    (false_of (has (opposite (2 * v)) c) (λ q. clash (any-has (λ k. has (opposite k) c) c (2 * v) p q) no_both)))
    ∙ sym (ap not p))
    (λ p. not-false (odd l) (false_of (not (odd l)) (λ o. clash (subst (λ (k : ℕ). has k c ≡ true) (plain-is l (not-true (odd l) o) ∙ ap (λ (w : ℕ). 2 * w) e) h) p)) ∙ sym (ap not p))

-- a clause with both phases is true
pub both_true : (c : List ℕ) → both_phases c ≡ true → (τ : Values) → clause_true c τ ≡ true
unfolding clause_true both_phases any_of has
both_true c h τ =
    by_cases (any_of (lit_true τ) c) (λ e. e)
    (λ e. absurd (no c (λ l k. false_of (lit_true τ l) (λ t. clash (any-has (lit_true τ) c l k t) e)) (λ l k. k) h))
  where
    no : (d : List ℕ) → ((l : ℕ) → has l c ≡ true → lit_true τ l ≡ false) → ((l : ℕ) → has l d ≡ true → has l c ≡ true)
        → any_of (λ l. has (opposite l) c) d ≡ true → ⊥
    no [] f g k = false≢true k
    no (l ∷ d) f g k =
        or_elim (any_of (λ y. eqb (opposite l) y) c) (any_of (λ l. has (opposite l) c) d) k
        (λ e. true≢false (sym (ap not (f l (g l (or-il (eqb l l) (any_of (λ y. eqb l y) d) (eqb-self l))))) ∙ (sym (lit-opp τ l) ∙ f (opposite l) e)))
        (λ e. no d f (λ k₁ e₁. g k₁ (or-ir (eqb k₁ l) (any_of (λ y. eqb k₁ y) d) e₁)) e)

pub all-append-true : (cs ds : List (List ℕ)) (τ : Values) → all_true (cs ++ ds) τ ≡ (all_true cs τ && all_true ds τ)
unfolding all_true
all-append-true cs ds τ = all_append (λ c. clause_true c τ) cs ds
