-- No clause is true, an empty clause is false. Assumes nothing.
use mathlib.Core.Path.{◌≡◌, refl, sym, ◌∙◌, ap}
use Prim.Native.Nat.{ℕ}
use mathlib.Core.Bool.{Bool, true, false, ◌&&◌, false≢true}
use mathlib.Core.List.{List, [], ◌∷◌}
use Rattle.meaning.specs.Lists.{all_of, any_of, same}
use Rattle.meaning.specs.Game.{empty_clause, Values, clause_true, all_true, truth}
use Rattle.meaning.proofs.Basics.{or_elim, false_of, clash, and_r}
use Rattle.meaning.proofs.Game.{game-ext, game-const}
use Rattle.meaning.proofs.Lists.{same-path}

pub none_true : (p : List ℕ) (ρ : Values) → truth p [] ρ ≡ true
unfolding truth
none_true p ρ = game-ext p (all_true []) (λ _. true) (λ τ. unfold all_true all_of in refl) ρ ∙ game-const p true ρ

empty-false : (cs : List (List ℕ)) → empty_clause cs ≡ true → (τ : Values) → all_true cs τ ≡ false
unfolding all_true all_of empty_clause any_of
empty-false [] h τ = absurd (false≢true h)
empty-false (c ∷ cs) h τ =
    or_elim (same [] c) (any_of (same []) cs) h
    (λ e. ap (λ (b : Bool). b && all_true cs τ) (ap (λ (d : List ℕ). clause_true d τ) (sym (same-path [] c e)) ∙ nothing))
    (λ e. false_of (clause_true c τ && all_true cs τ) (λ k. clash (search and_r) (empty-false cs e τ)))
  where
    nothing : clause_true [] τ ≡ false
    nothing = unfold clause_true any_of in refl

pub empty-clause-false : (p : List ℕ) (cs : List (List ℕ)) → empty_clause cs ≡ true → (ρ : Values) → truth p cs ρ ≡ false
unfolding truth
empty-clause-false p cs h ρ = game-ext p (all_true cs) (λ _. false) (empty-false cs h) ρ ∙ game-const p false ρ
