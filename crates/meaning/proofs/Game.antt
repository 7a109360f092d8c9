-- Laws of the game, over any judge m of the values. Assumes nothing.
use mathlib.Core.Path.{◌≡◌, refl, sym, ◌∙◌, ap, ap₂, fun_ext}
use Prim.Native.Nat.{ℕ}
use mathlib.Core.Bool.{Bool, true, false, ◌&&◌, ◌||◌, not, cond}
use mathlib.Core.List.{List, [], ◌∷◌, ◌++◌}
use lib.Dec.{eqb}
use Rattle.meaning.specs.Lists.{any_of}
use Rattle.meaning.specs.Formula.{var, odd, is_var, mentions}
use Rattle.meaning.specs.Game.{Values, with_value, choice, game}
use Rattle.meaning.proofs.Basics.{by_cases, iff, clash, false_of, and_l, and_r, and_i, or_l, or_r, or-il, or-ir, or_elim, eqb-self, eqb-true, eqb-ne, eqb-false}

-- Values -----------------------------------------------------------------------------------------------------
pub with-same : (ρ : Values) (v : ℕ) (b : Bool) → with_value ρ v b v ≡ b
unfolding with_value
with-same ρ v b = rw (eqb-self v)

pub with-other : (ρ : Values) (v : ℕ) (b : Bool) (w : ℕ) → eqb w v ≡ false → with_value ρ v b w ≡ ρ w
unfolding with_value
with-other ρ v b w h = rw h

conds : (s t b c x : Bool) → (s ≡ true → t ≡ false) → cond s c (cond t b x) ≡ cond t b (cond s c x)
conds true true b c x h = clash refl (h refl)
conds true false b c x h = refl
conds false true b c x h = refl
conds false false b c x h = refl

pub with-comm : (ρ : Values) (v w : ℕ) (b c : Bool) → eqb v w ≡ false → with_value (with_value ρ v b) w c ≡ with_value (with_value ρ w c) v b
unfolding with_value
with-comm ρ v w b c h = fun_ext (λ x. conds (eqb x w) (eqb x v) b c (ρ x) (λ e. eqb-ne x v (λ d. eqb-false v w h (sym d ∙ eqb-true x w e))))

pub with-with : (ρ : Values) (v : ℕ) (b c : Bool) → with_value (with_value ρ v b) v c ≡ with_value ρ v c
unfolding with_value
with-with ρ v b c = fun_ext (λ x. twice (eqb x v) (ρ x))
  where
    twice : (s x : Bool) → cond s c (cond s b x) ≡ cond s c x
    twice true x = refl
    twice false x = refl

pub with-own : (ρ : Values) (v : ℕ) (b : Bool) → ρ v ≡ b → with_value ρ v b ≡ ρ
unfolding with_value
with-own ρ v b e = fun_ext (λ x. by_cases (eqb x v) (λ h. rw h (sym e ∙ ap ρ (sym (eqb-true x v h)))) (λ h. rw h))

-- The prefix -------------------------------------------------------------------------------------------------
pub mentions-head : (q : ℕ) (p : List ℕ) → mentions (q ∷ p) (var q) ≡ true
unfolding mentions any_of is_var
mentions-head q p = or-il (eqb (var q) (var q)) (mentions p (var q)) (eqb-self (var q))

pub mentions-tail : (q : ℕ) (p : List ℕ) (v : ℕ) → mentions p v ≡ true → mentions (q ∷ p) v ≡ true
unfolding mentions any_of is_var
mentions-tail q p v h = or-ir (eqb (var q) v) (mentions p v) h

pub unmentioned-head : (q : ℕ) (p : List ℕ) (v : ℕ) → mentions (q ∷ p) v ≡ false → eqb (var q) v ≡ false
unfolding mentions any_of is_var
unmentioned-head q p v h = or_l (eqb (var q) v) (mentions p v) h

pub unmentioned-tail : (q : ℕ) (p : List ℕ) (v : ℕ) → mentions (q ∷ p) v ≡ false → mentions p v ≡ false
unfolding mentions any_of is_var
unmentioned-tail q p v h = or_r (eqb (var q) v) (mentions p v) h

-- Choice -----------------------------------------------------------------------------------------------------
pub choice-same : (q : ℕ) (a : Bool) → choice q a a ≡ a
unfolding choice
choice-same q a = go (odd q) a
  where
    go : (s a : Bool) → cond s (a && a) (a || a) ≡ a
    go true true = refl
    go true false = refl
    go false true = refl
    go false false = refl

pub choice-le : (q : ℕ) (a b a' b' : Bool) → (a ≡ true → a' ≡ true) → (b ≡ true → b' ≡ true) → choice q a b ≡ true → choice q a' b' ≡ true
unfolding choice
choice-le q a b a' b' f g = go (odd q)
  where
    go : (s : Bool) → cond s (a && b) (a || b) ≡ true → cond s (a' && b') (a' || b') ≡ true
    go true h = and_i a' b' (f (and_l a b h)) (g (and_r a b h))
    go false h = or_elim a b h (λ k. or-il a' b' (f k)) (λ k. or-ir a' b' (g k))

pub choice-exists : (q : ℕ) (a b : Bool) → odd q ≡ false → choice q a b ≡ (a || b)
unfolding choice
choice-exists q a b h = rw h

pub choice-forall : (q : ℕ) (a b : Bool) → odd q ≡ true → choice q a b ≡ (a && b)
unfolding choice
choice-forall q a b h = rw h

-- The game ---------------------------------------------------------------------------------------------------
pub game-append : (p p' : List ℕ) (m : Values → Bool) (ρ : Values) → game (p ++ p') m ρ ≡ game p (game p' m) ρ
unfolding game
game-append [] p' m ρ = refl
game-append (q ∷ p) p' m ρ = ap₂ (choice q) (game-append p p' m (with_value ρ (var q) false)) (game-append p p' m (with_value ρ (var q) true))

-- equal judges, equal games
pub game-ext : (p : List ℕ) (m m' : Values → Bool) → ((τ : Values) → m τ ≡ m' τ) → (ρ : Values) → game p m ρ ≡ game p m' ρ
game-ext p m m' h ρ = ap (λ (k : Values → Bool). game p k ρ) (fun_ext h)

pub game-le : (p : List ℕ) (m m' : Values → Bool) → ((τ : Values) → m τ ≡ true → m' τ ≡ true) → (ρ : Values) → game p m ρ ≡ true → game p m' ρ ≡ true
unfolding game
game-le [] m m' h ρ = h ρ
game-le (q ∷ p) m m' h ρ =
    choice-le q (game p m (with_value ρ (var q) false)) (game p m (with_value ρ (var q) true)) (game p m' (with_value ρ (var q) false)) (game p m' (with_value ρ (var q) true))
    (game-le p m m' h (with_value ρ (var q) false)) (game-le p m m' h (with_value ρ (var q) true))

pub game-const : (p : List ℕ) (b : Bool) (ρ : Values) → game p (λ _. b) ρ ≡ b
unfolding game
game-const [] b ρ = refl
game-const (q ∷ p) b ρ = ap₂ (choice q) (game-const p b (with_value ρ (var q) false)) (game-const p b (with_value ρ (var q) true)) ∙ choice-same q b

-- m does not depend on v; on none of the variables of p
abbrev pub Free : ℕ → (Values → Bool) → Type 0
Free v m = (ρ : Values) (b : Bool) → m (with_value ρ v b) ≡ m ρ

abbrev pub FreeOf : List ℕ → (Values → Bool) → Type 0
FreeOf p m = (v : ℕ) → mentions p v ≡ true → Free v m

pub free-tail : (q : ℕ) (p : List ℕ) (m : Values → Bool) → FreeOf (q ∷ p) m → FreeOf p m
free-tail q p m f v h = f v (mentions-tail q p v h)

pub free-const : (p : List ℕ) (b : Bool) → FreeOf p (λ _. b)
free-const p b v h ρ c = refl

-- both values alike
pub game-cons : (q : ℕ) (p p' : List ℕ) (m m' : Values → Bool) (ρ ρ' : Values)
    → ((b : Bool) → game p m (with_value ρ (var q) b) ≡ game p' m' (with_value ρ' (var q) b)) → game (q ∷ p) m ρ ≡ game (q ∷ p') m' ρ'
unfolding game
game-cons q p p' m m' ρ ρ' h = ap₂ (choice q) (h false) (h true)

-- what the rest of the game does not choose is known
pub game-know : (p : List ℕ) (a : Values → Bool) → FreeOf p a → (f : Bool → Values → Bool) (ρ : Values) → game p (λ τ. f (a τ) τ) ρ ≡ game p (f (a ρ)) ρ
unfolding game
game-know [] a free f ρ = refl
game-know (q ∷ p) a free f ρ = game-cons q p p (λ τ. f (a τ) τ) (f (a ρ)) ρ ρ
    (λ b. game-know p a (free-tail q p a free) f (with_value ρ (var q) b) ∙ ap (λ (x : Bool). game p (f x) (with_value ρ (var q) b)) (free (var q) (mentions-head q p) ρ b))

-- a value that was chosen before, by a rule that the rest of the game does not touch, is put into the judge
pub game-subst : (p : List ℕ) (v : ℕ) → mentions p v ≡ false → (g : Values → Bool) → FreeOf p g → (m : Values → Bool) (ρ : Values)
    → game p m (with_value ρ v (g ρ)) ≡ game p (λ τ. m (with_value τ v (g τ))) ρ
unfolding game
game-subst [] v out g free m ρ = refl
game-subst (q ∷ p) v out g free m ρ = game-cons q p p m (λ τ. m (with_value τ v (g τ))) (with_value ρ v (g ρ)) ρ
    (λ b.
    ap (game p m) (with-comm ρ v (var q) (g ρ) b (eqb-ne v (var q) (λ e. eqb-false (var q) v (unmentioned-head q p v out) (sym e))))
    ∙ ap (λ (x : Bool). game p m (with_value (with_value ρ (var q) b) v x)) (sym (free (var q) (mentions-head q p) ρ b))
    ∙ game-subst p v (unmentioned-tail q p v out) g (free-tail q p g free) m (with_value ρ (var q) b))

-- the game does not depend on what its judge does not depend on
pub game-free : (p : List ℕ) (v : ℕ) (m : Values → Bool) → Free v m → Free v (game p m)
unfolding game
game-free [] v m free ρ b = free ρ b
game-free (q ∷ p) v m free ρ b = game-cons q p p m m (with_value ρ v b) ρ
    (λ c. by_cases (eqb v (var q))
    (λ h. ap (λ (w : ℕ). game p m (with_value (with_value ρ w b) (var q) c)) (eqb-true v (var q) h) ∙ ap (game p m) (with-with ρ (var q) b c))
    (λ h. ap (game p m) (with-comm ρ v (var q) b c h) ∙ game-free p v m free (with_value ρ (var q) c) b))

-- a part of the judge that the game does not choose stands before the game
pub game-and : (p : List ℕ) (a m : Values → Bool) → FreeOf p a → (ρ : Values) → game p (λ τ. a τ && m τ) ρ ≡ (a ρ && game p m ρ)
game-and p a m free ρ = game-know p a free (λ b τ. b && m τ) ρ ∙ go (a ρ)
  where
    go : (b : Bool) → game p (λ τ. b && m τ) ρ ≡ (b && game p m ρ)
    go true = refl
    go false = game-const p false ρ

-- a variable on which the judge does not depend may be dropped from the prefix
pub game-drop : (q : ℕ) (p : List ℕ) (m : Values → Bool) → Free (var q) m → (ρ : Values) → game (q ∷ p) m ρ ≡ game p m ρ
unfolding game
game-drop q p m free ρ = ap₂ (choice q) (game-free p (var q) m free ρ false) (game-free p (var q) m free ρ true) ∙ choice-same q (game p m ρ)

-- An existential for which one value is always at least as good as the other takes it (unit, pure, equality): g is that
-- value, by what stands left of it.
or-pick : (X : Bool → Bool) (b : Bool) → (X (not b) ≡ true → X b ≡ true) → (X false || X true) ≡ X b
or-pick X true h = iff (X false || X true) (X true) (λ k. or_elim (X false) (X true) k h (λ e. e)) (or-ir (X false) (X true))
or-pick X false h = iff (X false || X true) (X false) (λ k. or_elim (X false) (X true) k (λ e. e) h) (or-il (X false) (X true))

and-pick : (X : Bool → Bool) (b : Bool) → (X b ≡ true → X (not b) ≡ true) → (X false && X true) ≡ X b
and-pick X true h = iff (X false && X true) (X true) (and_r (X false) (X true)) (λ e. and_i (X false) (X true) (h e) e)
and-pick X false h = iff (X false && X true) (X false) (and_l (X false) (X true)) (λ e. and_i (X false) (X true) e (h e))

free-not : (p : List ℕ) (g : Values → Bool) → FreeOf p g → FreeOf p (λ τ. not (g τ))
free-not p g free v h ρ b = ap not (free v h ρ b)

module _ (q : ℕ) (p : List ℕ) (out : mentions p (var q) ≡ false) (g : Values → Bool) (free : FreeOf p g) (m : Values → Bool) where
  chosen : (ρ : Values) → game p m (with_value ρ (var q) (g ρ)) ≡ game p (λ τ. m (with_value τ (var q) (g τ))) ρ
  chosen ρ = game-subst p (var q) out g free m ρ

  other : (ρ : Values) → game p m (with_value ρ (var q) (not (g ρ))) ≡ game p (λ τ. m (with_value τ (var q) (not (g τ)))) ρ
  other ρ = game-subst p (var q) out (λ τ. not (g τ)) (free-not p g free) m ρ

  pub exists-best : odd q ≡ false → ((τ : Values) → m (with_value τ (var q) (not (g τ))) ≡ true → m (with_value τ (var q) (g τ)) ≡ true) → (ρ : Values)
      → game (q ∷ p) m ρ ≡ game p (λ τ. m (with_value τ (var q) (g τ))) ρ
  unfolding game
  exists-best ev h ρ =
      choice-exists q (game p m (with_value ρ (var q) false)) (game p m (with_value ρ (var q) true)) ev
      ∙ or-pick (λ b. game p m (with_value ρ (var q) b)) (g ρ)
      (λ k. chosen ρ ∙ game-le p (λ τ. m (with_value τ (var q) (not (g τ)))) (λ τ. m (with_value τ (var q) (g τ))) h ρ (sym (other ρ) ∙ k))
      ∙ chosen ρ

  -- and a universal takes the value that is never better
  pub forall-worst : odd q ≡ true → ((τ : Values) → m (with_value τ (var q) (g τ)) ≡ true → m (with_value τ (var q) (not (g τ))) ≡ true) → (ρ : Values)
      → game (q ∷ p) m ρ ≡ game p (λ τ. m (with_value τ (var q) (g τ))) ρ
  unfolding game
  forall-worst od h ρ =
      choice-forall q (game p m (with_value ρ (var q) false)) (game p m (with_value ρ (var q) true)) od
      ∙ and-pick (λ b. game p m (with_value ρ (var q) b)) (g ρ)
      (λ k. other ρ ∙ game-le p (λ τ. m (with_value τ (var q) (g τ))) (λ τ. m (with_value τ (var q) (not (g τ)))) h ρ (sym (chosen ρ) ∙ k))
      ∙ chosen ρ

-- A part l that some value of a universal makes false counts for nothing, where the rest c of the clause depends on
-- nothing from there on.
pub forall-reduce : (q : ℕ) (p : List ℕ) → odd q ≡ true → mentions p (var q) ≡ false → (c l m : Values → Bool) → FreeOf (q ∷ p) c → (b : Bool)
    → ((τ : Values) → l (with_value τ (var q) b) ≡ false) → (ρ : Values) → game (q ∷ p) (λ τ. (c τ || l τ) && m τ) ρ ≡ game (q ∷ p) (λ τ. c τ && m τ) ρ
unfolding game
forall-reduce q p od out c l m free b no-l ρ =
    game-know (q ∷ p) c free (λ x τ. (x || l τ) && m τ) ρ ∙ (go (c ρ) ∙ sym (game-know (q ∷ p) c free (λ x τ. x && m τ) ρ))
  where
    at : game p (λ τ. l τ && m τ) (with_value ρ (var q) b) ≡ false
    at =
        game-subst p (var q) out (λ _. b) (free-const p b) (λ τ. l τ && m τ) ρ
        ∙ (game-ext p (λ τ. l (with_value τ (var q) b) && m (with_value τ (var q) b)) (λ _. false) (λ τ. ap (λ (x : Bool). x && m (with_value τ (var q) b)) (no-l τ)) ρ
        ∙ game-const p false ρ)

    and-false : (X : Bool → Bool) (b : Bool) → X b ≡ false → (X false && X true) ≡ false
    and-false X true h = false_of (X false && X true) (λ k. clash (and_r (X false) (X true) k) h)
    and-false X false h = false_of (X false && X true) (λ k. clash (and_l (X false) (X true) k) h)

    go : (x : Bool) → game (q ∷ p) (λ τ. (x || l τ) && m τ) ρ ≡ game (q ∷ p) (λ τ. x && m τ) ρ
    go true = refl
    go false =
        choice-forall q (game p (λ τ. l τ && m τ) (with_value ρ (var q) false)) (game p (λ τ. l τ && m τ) (with_value ρ (var q) true)) od
        ∙ (and-false (λ x. game p (λ τ. l τ && m τ) (with_value ρ (var q) x)) b at
        ∙ sym (game-const (q ∷ p) false ρ))
