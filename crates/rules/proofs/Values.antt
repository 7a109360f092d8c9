-- Unit and pure keep the truth. Assumes nothing.
use mathlib.Core.Path.{◌≡◌, sym, ◌∙◌, ap}
use Prim.Native.Nat.{ℕ}
use mathlib.Core.Bool.{Bool, true, false, ◌&&◌, not, not-not}
use mathlib.Core.List.{List, [], ◌∷◌}
use Rattle.meaning.specs.Lists.{any_of}
use Rattle.meaning.specs.Formula.{Formula, var, odd, opposite, is_var, mentions, universal, plain, negated}
use Rattle.meaning.specs.WellFormed.{well_formed}
use Rattle.meaning.specs.Game.{Values, with_value, lit_true, clause_true, all_true, game, truth}
use Rattle.rules.specs.Simplify.{becomes_true, unit_permitted, unit_raw, occurs, pure_permitted, pure_lit, pure_raw}
use Rattle.meaning.proofs.Basics.{by_cases, clash, or-il, eqb-self, or-false}
use Rattle.meaning.proofs.Game.{free-const, exists-best, forall-worst, game-ext}
use Rattle.meaning.proofs.Literals.{var-opp, odd-opp, opp-plain, opp-negated}
use Rattle.rules.proofs.Place.{Place, place, last-exists, drop_here}
use Rattle.rules.proofs.Assign.{lit-no, assign-true, better}
use Rattle.meaning.proofs.Parts.{good_of}
use Rattle.rules.proofs.Permitted.{UnitSays, unit-says, TidyUnit, tidy-unit, true-at, PureSays, pure-says, pure-var}

-- the two formulas have one truth, whatever the values of variables that are in no prefix
abbrev pub Keeps : Formula → Formula → Type 0
Keeps φ r = (ρ : Values) → truth r.prefix r.clauses ρ ≡ truth φ.prefix φ.clauses ρ

-- A literal becomes true -------------------------------------------------------------------------------------
module _ (φ : Formula) (l : ℕ) (k : Place φ.prefix (var l)) where
  at_entry : (b : Bool) (τ : Values) → all_true φ.clauses (with_value τ (var k.entry) b) ≡ all_true φ.clauses (with_value τ (var l) b)
  at_entry b τ = ap (λ (v : ℕ). all_true φ.clauses (with_value τ v b)) k.is

  out : mentions k.right (var k.entry) ≡ false
  out = rw k.is k.right-out

  -- from the place of the variable on
  from-here : ((σ : Values) → game (k.entry ∷ k.right) (all_true φ.clauses) σ ≡ game k.right (λ τ. all_true φ.clauses (with_value τ (var k.entry) (not (odd l)))) σ)
      → Keeps φ (becomes_true l φ)
  unfolding truth becomes_true
  from-here h = drop_here _ (var l) k _ _ (λ σ. h σ ∙ game-ext _ _ _ (λ τ. at_entry (not (odd l)) τ ∙ assign-true l _ τ) σ)

  -- l of an existential, where l true is at least as good as l false
  pub exists-becomes : odd k.entry ≡ false
      → ((τ : Values) → all_true φ.clauses (with_value τ (var l) (odd l)) ≡ true → all_true φ.clauses (with_value τ (var l) (not (odd l))) ≡ true) → Keeps φ (becomes_true l φ)
  exists-becomes ev h =
      from-here (exists-best _ _ out _ (free-const _ _) _ ev
      (λ τ t. at_entry (not (odd l)) τ ∙ h τ (sym (at_entry (odd l) τ) ∙ rw (not-not (odd l)) at t)))

  -- l of a universal, where l true is never better than l false
  pub forall-becomes : odd k.entry ≡ true
      → ((τ : Values) → all_true φ.clauses (with_value τ (var l) (not (odd l))) ≡ true → all_true φ.clauses (with_value τ (var l) (odd l)) ≡ true) → Keeps φ (becomes_true l φ)
  forall-becomes od h =
      from-here (forall-worst _ _ out _ (free-const _ _) _ od
      (λ τ t. rw (not-not (odd l)) (at_entry (odd l) τ ∙ h τ (sym (at_entry (not (odd l)) τ) ∙ t))))

-- 1. Unit ----------------------------------------------------------------------------------------------------
pub unit-keeps : (φ : Formula) → well_formed φ ≡ true → (a : ℕ) → unit_permitted φ a ≡ true → Keeps φ (unit_raw φ a)
unfolding unit_raw
unit-keeps φ w a h = rw s.is (exists-becomes φ l at ev (λ τ h. clash (is-true τ h) (lit-no τ l)))
  where
    s : UnitSays φ a
    s = unit-says φ a h

    l : ℕ
    l = s.lit

    t : TidyUnit φ l
    t = tidy-unit φ w a s

    at : Place φ.prefix (var l)
    at = place _ (var l) (good_of φ w) t.inside

    ev : odd at.entry ≡ false
    ev = last-exists _ (var l) at (l ∷ []) t.stays (unfold mentions any_of is_var in or-il _ _ (eqb-self (var l)))
        (unfold any_of in (or-false (mentions at.right (var l)) ∙ at.right-out))

    is-true : (τ : Values) → all_true φ.clauses (with_value τ (var l) (odd l)) ≡ true → lit_true (with_value τ (var l) (odd l)) l ≡ true
    is-true τ h = sym (or-false (lit_true (with_value τ (var l) (odd l)) l)) ∙ (unfold clause_true any_of in rw s.is at (true-at _ a s.there _ h))

-- 2. Pure ----------------------------------------------------------------------------------------------------
-- its opposite does not occur
pure-not : (cs : List (List ℕ)) (a : ℕ) → (occurs (plain a) cs && occurs (negated a) cs) ≡ false → occurs (opposite (pure_lit cs a)) cs ≡ false
unfolding pure_lit
pure-not cs a h = by_cases (occurs (plain a) cs) (λ e. rw (e, opp-plain) (rw e at h)) (λ e. rw (e, opp-negated) e)

pub pure-keeps : (φ : Formula) → well_formed φ ≡ true → (a : ℕ) → pure_permitted φ a ≡ true → Keeps φ (pure_raw φ a)
unfolding pure_raw
pure-keeps φ w a h =
    by_cases (universal φ.prefix a)
    (λ u. rw u (forall-becomes φ (opposite l) (moved (opposite l) opp-var) (entry (opposite l) opp-var true u) turn))
    (λ u. rw u (exists-becomes φ l (moved l l-var) (entry l l-var false u) (better l φ.clauses never)))
  where
    s : PureSays φ a
    s = pure-says φ a h

    l : ℕ
    l = pure_lit φ.clauses a

    l-var : var l ≡ a
    l-var = pure-var φ.clauses a

    opp-var : var (opposite l) ≡ a
    opp-var = var-opp l ∙ l-var

    never : occurs (opposite l) φ.clauses ≡ false
    never = pure-not φ.clauses a s.one-phase

    moved : (i : ℕ) → var i ≡ a → Place φ.prefix (var i)
    moved i e = place _ (var i) (good_of φ w) (rw e s.inside)

    entry : (i : ℕ) (e : var i ≡ a) (b : Bool) → universal φ.prefix a ≡ b → odd (moved i e).entry ≡ b
    entry i e b u = sym (moved i e).forall-is ∙ (ap (universal φ.prefix) e ∙ u)

    turn : (τ : Values) → all_true φ.clauses (with_value τ (var (opposite l)) (not (odd (opposite l)))) ≡ true
        → all_true φ.clauses (with_value τ (var (opposite l)) (odd (opposite l))) ≡ true
    turn τ t = rw (var-opp l, odd-opp l) (better l φ.clauses never τ (rw (var-opp l, odd-opp l, not-not (odd l)) at t))
