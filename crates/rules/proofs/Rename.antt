-- A game over existentials is the game over their copies, with the judge renamed. Assumes nothing.
use mathlib.Core.Path.{◌≡◌, subst, refl, sym, ◌∙◌, ap, ap₂, fun_ext}
use Prim.Native.Nat.{ℕ}
use mathlib.Core.Bool.{Bool, true, false, ◌||◌, not, cond, false≢true}
use mathlib.Core.List.{List, [], ◌∷◌, map}
use lib.Dec.{eqb}
use Rattle.meaning.specs.Lists.{all_of, any_of, has}
use Rattle.meaning.specs.Formula.{var, odd, is_var, mentions, plain, negated}
use Rattle.meaning.specs.Game.{Values, with_value, lit_true, clause_true, all_true, game}
use Rattle.rules.specs.Eliminate.{rename_var, rename_lit}
use Rattle.meaning.proofs.Basics.{by_cases, clash, or_l, or_r, or-il, or-ir, eqb-self, eqb-true, eqb-ne, eqb-false, eqb-sym}
use Rattle.meaning.proofs.Game.{Free, FreeOf, free-const, free-tail, with-same, with-other, choice-exists, game-ext, game-subst, mentions-head}
use Rattle.meaning.proofs.Lists.{any-map, all_map}
use Rattle.meaning.proofs.Literals.{var-of-plain, odd-of-plain, var-of-negated, odd-of-negated}

-- as many copies as existentials, each once and new
abbrev pub Copies : List ℕ → List ℕ → Type 0
Copies [] [] = Unit {0}
Copies [] (f ∷ fs) = ⊥
Copies (e ∷ es) [] = ⊥
Copies (e ∷ es) (f ∷ fs) = (odd e ≡ false) × (mentions es (var e) ≡ false) × (has f fs ≡ false) × (has (var e) fs ≡ false) × Copies es fs

-- the entries of the copies mention the copies
pub copies-mention : (fs : List ℕ) (v : ℕ) → mentions (map plain fs) v ≡ has v fs
unfolding mentions has any_of is_var
copies-mention [] v = refl
copies-mention (f ∷ fs) v = ap₂ ◌||◌ (ap (λ (w : ℕ). eqb w v) (var-of-plain f) ∙ eqb-sym f v) (copies-mention fs v)

-- a variable that is none of the existentials is not renamed; one that is gets one of the copies
pub rename-out : (es fs : List ℕ) (v : ℕ) → mentions es v ≡ false → rename_var es fs v ≡ v
unfolding rename_var mentions any_of
rename-out [] fs v h = refl
rename-out (e ∷ es) [] v h = refl
rename-out (e ∷ es) (f ∷ fs) v h = ap (λ (b : Bool). cond b f (rename_var es fs v)) (or_l (is_var v e) _ h) ∙ rename-out es fs v (or_r (is_var v e) _ h)

pub rename-in : (es fs : List ℕ) → Copies es fs → (v : ℕ) → mentions es v ≡ true → has (rename_var es fs v) fs ≡ true
unfolding rename_var mentions any_of has
rename-in [] [] k v h = absurd (false≢true h)
rename-in [] (f ∷ fs) k v h = absurd k
rename-in (e ∷ es) [] k v h = absurd k
rename-in (e ∷ es) (f ∷ fs) k v h =
    by_cases (is_var v e) (λ i. rw i (or-il _ _ (eqb-self f))) (λ i.
    let r : rename_var (e ∷ es) (f ∷ fs) v ≡ rename_var es fs v = rw i in
    let P : ℕ → Type 0 = λ y. has y (f ∷ fs) ≡ true in
    subst P (sym r) (or-ir (eqb (rename_var es fs v) f) _ (rename-in es fs k.4 v (rw i at h))))

-- a renamed variable is none of those that are neither a copy nor the variable itself
rename-apart : (es fs : List ℕ) → Copies es fs → (v x : ℕ) → has x fs ≡ false → eqb v x ≡ false → eqb (rename_var es fs v) x ≡ false
rename-apart es fs k v x out d =
    by_cases (mentions es v)
    (λ h. eqb-ne _ x (λ e. clash (rw e at (rename-in es fs k v h)) out))
    (λ h. ap (λ (y : ℕ). eqb y x) (rename-out es fs v h) ∙ d)

abbrev pub renamed : List ℕ → List ℕ → Values → Values
renamed es fs σ = λ w. σ (rename_var es fs w)

-- one existential and its copy
one-copy : (e f : ℕ) (es fs : List ℕ) → Copies (e ∷ es) (f ∷ fs) → (F : Values → Bool) → Free f F → (b : Bool) (σ : Values)
    → F (renamed es fs (with_value σ (var e) b)) ≡ F (renamed (e ∷ es) (f ∷ fs) (with_value σ f b))
unfolding rename_var is_var
one-copy e f es fs k F free b σ = ap F (fun_ext at) ∙ free Y (X f)
  where
    X : Values
    X = renamed es fs (with_value σ (var e) b)

    Y : Values
    Y = renamed (e ∷ es) (f ∷ fs) (with_value σ f b)

    at : (w : ℕ) → X w ≡ with_value Y f (X f) w
    at w =
        by_cases (eqb w f)
        (λ h. ap X (eqb-true w f h) ∙ (sym (with-same Y f (X f)) ∙ ap (with_value Y f (X f)) (sym (eqb-true w f h))))
        (λ h. by_cases (eqb (var e) w)
        (λ i. (ap (λ (v : ℕ). with_value σ (var e) b (rename_var es fs v)) (sym (eqb-true (var e) w i)) ∙ (ap (with_value σ (var e) b) (rename-out es fs (var e) k.1) ∙ with-same σ (var e) b))
        ∙ sym (rw i (with-same σ f b)))
        (λ i. (with-other σ (var e) b (rename_var es fs w) (rename-apart es fs k.4 w (var e) k.3 (eqb-ne w (var e) (λ x. eqb-false (var e) w i (sym x)))))
        ∙ sym (rw i (with-other σ f b (rename_var es fs w) (rename-apart es fs k.4 w f k.2 h)))) ∙ sym (with-other Y f (X f) w h))

pub game-rename : (es fs : List ℕ) → Copies es fs → (F : Values → Bool) → FreeOf (map plain fs) F → (τ : Values)
    → game es F τ ≡ game (map plain fs) (λ σ. F (renamed es fs σ)) τ
unfolding game rename_var
game-rename [] [] k F free τ = refl
game-rename [] (f ∷ fs) k F free τ = absurd k
game-rename (e ∷ es) [] k F free τ = absurd k
game-rename (e ∷ es) (f ∷ fs) k F free τ =
    choice-exists e (game es F (with_value τ (var e) false)) (game es F (with_value τ (var e) true)) k.0 ∙ (ap₂ ◌||◌
    (game-rename es fs k.4 F (free-tail (plain f) (map plain fs) F free) _ ∙ at false)
    (game-rename es fs k.4 F (free-tail (plain f) (map plain fs) F free) _ ∙ at true)
    ∙ sym (choice-exists (plain f) (game (map plain fs) G (with_value τ (var (plain f)) false)) (game (map plain fs) G (with_value τ (var (plain f)) true)) (odd-of-plain f)))
  where
    G : Values → Bool
    G σ = F (renamed (e ∷ es) (f ∷ fs) σ)

    at : (b : Bool) → game (map plain fs) (λ σ. F (renamed es fs σ)) (with_value τ (var e) b) ≡ game (map plain fs) G (with_value τ (var (plain f)) b)
    at b =
        game-subst _ (var e) (copies-mention fs (var e) ∙ k.3) (λ _. b) (free-const _ b) _ τ
        ∙ (game-ext (map plain fs) _ _ (one-copy e f es fs k F (rw (var-of-plain f) at (free (var (plain f)) (mentions-head (plain f) (map plain fs)))) b) τ
        ∙ (sym (game-subst _ f (copies-mention fs f ∙ k.2) (λ _. b) (free-const _ b) G τ)
        ∙ ap (λ (v : ℕ). game (map plain fs) G (with_value τ v b)) (sym (var-of-plain f))))

-- Clauses, renamed -------------------------------------------------------------------------------------------
rename-lit : (es fs : List ℕ) (τ : Values) (l : ℕ) → lit_true τ (rename_lit es fs l) ≡ lit_true (renamed es fs τ) l
unfolding lit_true rename_lit
rename-lit es fs τ l =
    by_cases (odd l)
    (λ h. ap (λ (b : Bool). lit_true τ (cond b (negated x) (plain x))) h ∙ (ap₂ (λ (b : Bool) (v : ℕ). cond b (not (τ v)) (τ v)) (odd-of-negated x) (var-of-negated x) ∙ sym (rw h)))
    (λ h. ap (λ (b : Bool). lit_true τ (cond b (negated x) (plain x))) h ∙ (ap₂ (λ (b : Bool) (v : ℕ). cond b (not (τ v)) (τ v)) (odd-of-plain x) (var-of-plain x) ∙ sym (rw h)))
  where
    x : ℕ
    x = rename_var es fs (var l)

pub rename-true : (es fs : List ℕ) (cs : List (List ℕ)) (τ : Values) → all_true (map (map (rename_lit es fs)) cs) τ ≡ all_true cs (renamed es fs τ)
unfolding all_true clause_true
rename-true es fs cs τ =
    all_map _ _ cs
    ∙ ap (λ (g : List ℕ → Bool). all_of g cs) (fun_ext (λ c. any-map _ _ c ∙ ap (λ (g : ℕ → Bool). any_of g c) (fun_ext (rename-lit es fs τ))))
