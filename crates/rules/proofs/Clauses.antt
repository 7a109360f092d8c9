-- Subsume and strengthen keep the truth. Assumes nothing.
use mathlib.Core.Path.{◌≡◌, refl, sym, ◌∙◌, ap}
use Prim.Native.Nat.{ℕ, zero, suc}
use mathlib.Core.Bool.{Bool, true, false, ◌&&◌, not}
use mathlib.Core.List.{List, [], ◌∷◌}
use lib.Dec.{eqb, eqb-suc-suc}
use Rattle.meaning.specs.Lists.{all_of, any_of, keep_if, has, part_of, without}
use Rattle.meaning.specs.Formula.{Formula, opposite}
use Rattle.meaning.specs.WellFormed.{well_formed}
use Rattle.meaning.specs.Game.{Values, lit_true, clause_true, all_true, truth}
use Rattle.rules.specs.Simplify.{clause_at, is_clause, subsume_permitted, replace_at, subsume_raw, strengthen_permitted, strengthen_lit, strengthen_raw}
use Rattle.meaning.proofs.Basics.{by_cases, iff, clash, and_l, and_r, and_i, eqb-self, eqb-ne, and-move}
use Rattle.meaning.proofs.Game.{game-ext}
use Rattle.meaning.proofs.Literals.{lit-opp}
use Rattle.meaning.proofs.Lists.{any-le, any-keep, any-keep-le, any-has, all-has, any-witness, has-keep}
use Rattle.meaning.proofs.Ascends.{once-opp}
use Rattle.rules.proofs.Values.{Keeps}
use Rattle.meaning.proofs.Parts.{ascends-of}
use Rattle.rules.proofs.Permitted.{there-none, there-later, true-at, SubsumeSays, subsume-says, StrengthenSays, strengthen-says, tidy-at}
use Rattle.meaning.proofs.Clauses.{all-append-true}

-- One place of a list of clauses -----------------------------------------------------------------------------
-- the clauses are that at b and the others; so with others in its place
pub others-and : (cs : List (List ℕ)) (b : ℕ) → is_clause cs b ≡ true → (τ : Values)
    → all_true cs τ ≡ (clause_true (clause_at cs b) τ && all_true (replace_at cs b []) τ)
unfolding all_true all_of replace_at clause_at
others-and [] b i τ = there-none b i
others-and (c ∷ cs) zero i τ = refl
others-and (c ∷ cs) (suc b) i τ =
    ap (λ (x : Bool). clause_true c τ && x) (others-and cs b (there-later c cs b i) τ)
    ∙ and-move (clause_true c τ) (clause_true (clause_at cs b) τ) (all_true (replace_at cs b []) τ)

pub replace-and : (cs : List (List ℕ)) (b : ℕ) (new : List (List ℕ)) → is_clause cs b ≡ true → (τ : Values)
    → all_true (replace_at cs b new) τ ≡ (all_true new τ && all_true (replace_at cs b []) τ)
unfolding all_true all_of replace_at
replace-and [] b new i τ = there-none b i
replace-and (c ∷ cs) zero new i τ = all-append-true new cs τ
replace-and (c ∷ cs) (suc b) new i τ =
    ap (λ (x : Bool). clause_true c τ && x) (replace-and cs b new (there-later c cs b i) τ)
    ∙ and-move (clause_true c τ) (all_true new τ) (all_true (replace_at cs b []) τ)

-- another place is among the others
pub others-at : (cs : List (List ℕ)) (a b : ℕ) → eqb a b ≡ false → is_clause cs a ≡ true → (τ : Values) → all_true (replace_at cs b []) τ ≡ true
    → clause_true (clause_at cs a) τ ≡ true
unfolding all_true all_of replace_at clause_at
others-at [] a b d i τ h = there-none a i
others-at (c ∷ cs) zero zero d i τ h = clash (eqb-self 0) d
others-at (c ∷ cs) zero (suc b) d i τ h = search and_l
others-at (c ∷ cs) (suc a) zero d i τ h = true-at cs a (there-later c cs a i) τ h
others-at (c ∷ cs) (suc a) (suc b) d i τ h = others-at cs a b (sym (eqb-suc-suc a b) ∙ d) (there-later c cs a i) τ (search and_r)

-- so it may be replaced by what says the same wherever the others are true
pub replace-keeps : (φ : Formula) (b : ℕ) (new : List (List ℕ)) → is_clause φ.clauses b ≡ true
    → ((τ : Values) → all_true (replace_at φ.clauses b []) τ ≡ true → all_true new τ ≡ clause_true (clause_at φ.clauses b) τ)
    → Keeps φ (record { prefix = φ.prefix; clauses = replace_at φ.clauses b new })
unfolding truth
replace-keeps φ b new i says ρ =
    game-ext _ _ _
    (λ τ. replace-and φ.clauses b new i τ ∙ (guarded (all_true new τ) (clause_true (clause_at φ.clauses b) τ) (all_true (replace_at φ.clauses b []) τ) (says τ) ∙ sym (others-and φ.clauses b i τ))) ρ
  where
    guarded : (x y z : Bool) → (z ≡ true → x ≡ y) → (x && z) ≡ (y && z)
    guarded x y true f = rw (f refl)
    guarded true true false f = refl
    guarded true false false f = refl
    guarded false true false f = refl
    guarded false false false f = refl

-- 3. Subsume -------------------------------------------------------------------------------------------------
-- a part of a clause that is true makes it true
pub part-true : (c d : List ℕ) (τ : Values) → part_of c d ≡ true → clause_true c τ ≡ true → clause_true d τ ≡ true
unfolding part_of clause_true
part-true c d τ p h =
    let w : (k : ℕ) × (has k c ≡ true) × (lit_true τ k ≡ true) = any-witness _ c h in
    any-has _ d w.0 (all-has _ c w.0 p w.1) w.2

pub subsume-keeps : (φ : Formula) (a b : ℕ) → subsume_permitted φ a b ≡ true → Keeps φ (subsume_raw φ b)
unfolding subsume_raw all_true all_of
subsume-keeps φ a b h =
    let s : SubsumeSays φ a b = subsume-says φ a b h in
    replace-keeps φ b [] s.there-b (λ τ t. sym (part-true _ _ τ s.part (others-at φ.clauses a b s.differ s.there-a τ t)))

-- 4. Strengthen ----------------------------------------------------------------------------------------------
-- where c is true, d says no less without the opposite of l
without-opp : (c d : List ℕ) (l : ℕ) → has (opposite l) c ≡ false → part_of (without l c) d ≡ true → (τ : Values) → clause_true c τ ≡ true
    → clause_true (without (opposite l) d) τ ≡ clause_true d τ
unfolding clause_true without
without-opp c d l single part τ t =
    iff (any_of (lit_true τ) (keep_if (λ k. not (eqb (opposite l) k)) d)) (any_of (lit_true τ) d) (any-keep-le _ _ d)
    (λ h. any-keep _ _ d ∙ by_cases (lit_true τ l) (λ e. plainly e d h) (λ e. from-c e))
  where
    -- l is true: so what makes d true is not its opposite
    plainly : lit_true τ l ≡ true → (d : List ℕ) → any_of (lit_true τ) d ≡ true → any_of (λ k. not (eqb (opposite l) k) && lit_true τ k) d ≡ true
    plainly e d h = any-le _ _ d (λ k x. and_i _ _ (ap not (eqb-ne _ k (λ o. clash x (ap (lit_true τ) (sym o) ∙ (lit-opp τ l ∙ ap not e))))) x) h

    -- l is false: so another literal of c is true, and it is in d
    from-c : lit_true τ l ≡ false → any_of (λ k. not (eqb (opposite l) k) && lit_true τ k) d ≡ true
    from-c e =
        let w : (k : ℕ) × (has k c ≡ true) × (lit_true τ k ≡ true) = any-witness _ c t in
        any-has _ d w.0
        (all-has (λ k. has k d) (keep_if (λ k. not (eqb l k)) c) w.0 (unfold part_of in part) (has-keep _ c w.0 w.1 (ap not (eqb-ne l w.0 (λ o. clash w.2 (ap (lit_true τ) (sym o) ∙ e))))))
        (and_i _ _ (ap not (eqb-ne _ w.0 (λ o. clash w.1 (ap (λ (i : ℕ). has i c) (sym o) ∙ single)))) w.2)

pub strengthen-keeps : (φ : Formula) → well_formed φ ≡ true → (a b : ℕ) → strengthen_permitted φ a b ≡ true → Keeps φ (strengthen_raw φ a b)
unfolding strengthen_raw all_true all_of
strengthen-keeps φ w a b h =
    replace-keeps φ b _ s.there-b
    (λ τ t. and-true (clause_true (without (opposite l) (clause_at φ.clauses b)) τ)
    ∙ without-opp _ _ l single s.part τ (others-at φ.clauses a b differ s.there-a τ t))
  where
    l : ℕ
    l = strengthen_lit φ a b

    s : StrengthenSays φ a b l
    s = strengthen-says φ a b h

    single : has (opposite l) (clause_at φ.clauses a) ≡ false
    single = once-opp (clause_at φ.clauses a) (ascends-of _ _ (tidy-at φ w a s.there-a)) l s.in-a

    -- since the opposite of l is in b only
    differ : eqb a b ≡ false
    differ = eqb-ne a b (λ e. clash s.opp-in-b (ap (λ (i : ℕ). has (opposite l) (clause_at φ.clauses i)) (sym e) ∙ single))

    and-true : (x : Bool) → (x && true) ≡ x
    and-true true = refl
    and-true false = refl
