-- The truth depends on the variables that occur and are in no prefix: for a well formed formula on nothing.
-- Assumes nothing.
use mathlib.Core.Path.{◌≡◌, refl, sym, ◌∙◌, ap, ap₂, subst}
use Prim.Native.Nat.{ℕ}
use mathlib.Core.Bool.{Bool, true, false, ◌&&◌, ◌||◌, not, cond, false≢true}
use mathlib.Core.List.{List, [], ◌∷◌}
use lib.Dec.{eqb}
use Rattle.meaning.specs.Lists.{all_of, any_of}
use Rattle.meaning.specs.Formula.{var, odd, is_var, mentions}
use Rattle.meaning.specs.WellFormed.{bound}
use Rattle.meaning.specs.Game.{Values, with_value, lit_true, clause_true, all_true, game, truth}
use Rattle.meaning.proofs.Basics.{by_cases, clash, and_l, and_r, eqb-true, eqb-ne, eqb-false}
use Rattle.meaning.proofs.Game.{with-same, with-other, game-cons}

-- the values agree on the variables that pass the test `of`
abbrev pub Agree : (ℕ → Bool) → Values → Values → Type 0
Agree of ρ σ = (v : ℕ) → of v ≡ true → ρ v ≡ σ v

pub game-agree : (of : ℕ → Bool) (p : List ℕ) (m : Values → Bool) → ((τ υ : Values) → Agree of τ υ → m τ ≡ m υ) → (ρ σ : Values)
    → Agree (λ v. of v && not (mentions p v)) ρ σ → game p m ρ ≡ game p m σ
game-agree of [] m h ρ σ a = unfold game in h ρ σ (λ v x. a v (all v x))
  where
    all : (v : ℕ) → of v ≡ true → (of v && not (mentions [] v)) ≡ true
    all v x = unfold mentions any_of in ap (λ (b : Bool). b && true) x
game-agree of (q ∷ p) m h ρ σ a =
    game-cons q p p m m ρ σ (λ b. game-agree of p m h (with_value ρ (var q) b) (with_value σ (var q) b)
    (λ v x. by_cases (eqb v (var q))
    (λ e. subst (λ (w : ℕ). with_value ρ (var q) b w ≡ with_value σ (var q) b w) (sym (eqb-true v (var q) e)) (with-same ρ (var q) b ∙ sym (with-same σ (var q) b)))
    (λ e. with-other ρ (var q) b v e ∙ (a v (other v e x) ∙ sym (with-other σ (var q) b v e)))))
  where
    other : (v : ℕ) → eqb v (var q) ≡ false → (of v && not (mentions p v)) ≡ true → (of v && not (mentions (q ∷ p) v)) ≡ true
    other v e x = unfold mentions any_of is_var in (ap (λ (b : Bool). of v && not (b || mentions p v)) (eqb-ne (var q) v (λ y. eqb-false v (var q) e (sym y))) ∙ x)

clause-agree : (of : ℕ → Bool) (c : List ℕ) → all_of (λ l. of (var l)) c ≡ true → (τ υ : Values) → Agree of τ υ → clause_true c τ ≡ clause_true c υ
unfolding clause_true any_of all_of lit_true
clause-agree of [] h τ υ a = refl
clause-agree of (l ∷ c) h τ υ a =
    ap₂ ◌||◌ (ap (λ (b : Bool). cond (odd l) (not b) b) (a (var l) (search and_l))) (clause-agree of c (search and_r) τ υ a)

clauses-agree : (of : ℕ → Bool) (cs : List (List ℕ)) → all_of (λ c. all_of (λ l. of (var l)) c) cs ≡ true → (τ υ : Values) → Agree of τ υ
    → all_true cs τ ≡ all_true cs υ
unfolding all_true all_of
clauses-agree of [] h τ υ a = refl
clauses-agree of (c ∷ cs) h τ υ a =
    ap₂ ◌&&◌ (clause-agree of c (search and_l) τ υ a) (clauses-agree of cs (search and_r) τ υ a)

-- clauses of the prefix's variables: the truth is the same whatever the other values
pub closed-truth : (p : List ℕ) (cs : List (List ℕ)) → all_of (bound p) cs ≡ true → (ρ σ : Values) → truth p cs ρ ≡ truth p cs σ
unfolding truth bound
closed-truth p cs b ρ σ = game-agree (mentions p) p (all_true cs) (clauses-agree (mentions p) cs b) ρ σ (λ v x. clash (search and_l) (flip (mentions p v) (search and_r)))
  where
    flip : (s : Bool) → not s ≡ true → s ≡ false
    flip true h = absurd (false≢true h)
    flip false h = refl
