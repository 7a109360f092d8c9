-- Laws of the game for neighbouring variables of one kind, for resolving and for expanding, over any judge.
-- Assumes nothing.
use mathlib.Core.Path.{◌≡◌, refl, sym, ◌∙◌, ap, ap₂}
use Prim.Native.Nat.{ℕ}
use mathlib.Core.Bool.{Bool, true, false, ◌&&◌, ◌||◌, not, cond, and_comm}
use mathlib.Core.List.{List, [], ◌∷◌, ◌++◌}
use lib.Dec.{eqb}
use Rattle.meaning.specs.Lists.{all_of}
use Rattle.meaning.specs.Formula.{var, odd, mentions}
use Rattle.meaning.specs.Game.{Values, with_value, choice, game}
use Rattle.meaning.proofs.Basics.{and_l, and_r, eqb-ne, eqb-false}
use Rattle.meaning.proofs.Game.{with-comm, unmentioned-head, unmentioned-tail, choice-exists, choice-forall, game-append, game-ext, game-le, FreeOf, free-const, game-cons, game-know, game-subst, game-free, game-and}

-- Neighbours of one kind change places -----------------------------------------------------------------------
and-swap : (a b c d : Bool) → ((a && b) && (c && d)) ≡ ((a && c) && (b && d))
and-swap true true c d = refl
and-swap true false true d = refl
and-swap true false false d = refl
and-swap false b c d = refl

or_swap : (a b c d : Bool) → ((a || b) || (c || d)) ≡ ((a || c) || (b || d))
or_swap false false c d = refl
or_swap false true true d = refl
or_swap false true false d = refl
or_swap true b c d = refl

choice-swap : (q e : ℕ) → odd q ≡ odd e → (a b c d : Bool) → choice q (choice e a b) (choice e c d) ≡ choice e (choice q a c) (choice q b d)
unfolding choice
choice-swap q e k a b c d = rw k (go (odd e))
  where
    go : (s : Bool)
        → cond s (cond s (a && b) (a || b) && cond s (c && d) (c || d)) (cond s (a && b) (a || b) || cond s (c && d) (c || d)) ≡ cond s (cond s (a && c) (a || c) && cond s (b && d) (b || d)) (cond s (a && c) (a || c) || cond s (b && d) (b || d))
    go true = and-swap a b c d
    go false = or_swap a b c d

pub game-swap : (q e : ℕ) (p : List ℕ) → odd q ≡ odd e → eqb (var q) (var e) ≡ false → (m : Values → Bool) (ρ : Values)
    → game (q ∷ e ∷ p) m ρ ≡ game (e ∷ q ∷ p) m ρ
unfolding game
game-swap q e p k d m ρ =
    choice-swap q e k (at false false) (at false true) (at true false) (at true true)
    ∙ ap₂ (choice e) (ap₂ (choice q) (turn false false) (turn true false)) (ap₂ (choice q) (turn false true) (turn true true))
  where
    at : Bool → Bool → Bool
    at b c = game p m (with_value (with_value ρ (var q) b) (var e) c)

    turn : (b c : Bool) → at b c ≡ game p m (with_value (with_value ρ (var e) c) (var q) b)
    turn b c = ap (game p m) (with-comm ρ (var q) (var e) b c d)

-- the entries of the block are all of the kind of q
abbrev pub OneKind : ℕ → List ℕ → Type 0
OneKind q es = all_of (λ e. cond (odd q) (odd e) (not (odd e))) es ≡ true

kinds : (s t : Bool) → cond s t (not t) ≡ true → s ≡ t
kinds true t h = sym h
kinds false true h = h
kinds false false h = refl

pub game-past : (q : ℕ) (es p : List ℕ) → OneKind q es → mentions es (var q) ≡ false → (m : Values → Bool) (ρ : Values)
    → game (q ∷ (es ++ p)) m ρ ≡ game (es ++ (q ∷ p)) m ρ
unfolding all_of
game-past q [] p k out m ρ = refl
game-past q (e ∷ es) p k out m ρ =
    game-swap q e (es ++ p) (kinds (odd q) (odd e) (search and_l))
    (eqb-ne (var q) (var e) (λ h. eqb-false (var e) (var q) (unmentioned-head e es (var q) out) (sym h))) m ρ
    ∙ game-cons e (q ∷ (es ++ p)) (es ++ (q ∷ p)) m m ρ ρ
    (λ b. game-past q es p (search and_r) (unmentioned-tail e es (var q) out) m (with_value ρ (var e) b))

-- Resolving --------------------------------------------------------------------------------------------------
-- With the value b for the existential, B and O are left; with the other, A and O. Where A depends on nothing that is chosen
-- later, the variable goes and (A or B) and O are left.
or-either : (X : Bool → Bool) (b : Bool) → (X false || X true) ≡ (X b || X (not b))
or-either X true = go (X false) (X true)
  where
    go : (x y : Bool) → (x || y) ≡ (y || x)
    go true true = refl
    go true false = refl
    go false true = refl
    go false false = refl
or-either X false = refl

pub exists-resolve : (q : ℕ) (p : List ℕ) → odd q ≡ false → mentions p (var q) ≡ false → (m A B O : Values → Bool) (b : Bool) → FreeOf p A
    → ((τ : Values) → m (with_value τ (var q) b) ≡ (B τ && O τ)) → ((τ : Values) → m (with_value τ (var q) (not b)) ≡ (A τ && O τ)) → (ρ : Values)
    → game (q ∷ p) m ρ ≡ game p (λ τ. (A τ || B τ) && O τ) ρ
unfolding game
exists-resolve q p ev out m A B O b free one two ρ =
    choice-exists q (game p m (with_value ρ (var q) false)) (game p m (with_value ρ (var q) true)) ev
    ∙ (or-either (λ x. game p m (with_value ρ (var q) x)) b
    ∙ (ap₂ ◌||◌ (at b B one) (at (not b) A two ∙ game-and p A O free ρ)
    ∙ (go (A ρ)
    ∙ sym (game-know p A free (λ x τ. (x || B τ) && O τ) ρ))))
  where
    at : (x : Bool) (C : Values → Bool) → ((τ : Values) → m (with_value τ (var q) x) ≡ (C τ && O τ))
        → game p m (with_value ρ (var q) x) ≡ game p (λ τ. C τ && O τ) ρ
    at x C h = game-subst p (var q) out (λ _. x) (free-const p x) m ρ ∙ game-ext p (λ τ. m (with_value τ (var q) x)) (λ τ. C τ && O τ) h ρ

    or-le : (x y : Bool) → (x ≡ true → y ≡ true) → (x || y) ≡ y
    or-le true y h = sym (h refl)
    or-le false y h = refl

    or_no : (x : Bool) → (x || false) ≡ x
    or_no true = refl
    or_no false = refl

    go : (x : Bool) → (game p (λ τ. B τ && O τ) ρ || (x && game p O ρ)) ≡ game p (λ τ. (x || B τ) && O τ) ρ
    go true = or-le (game p (λ τ. B τ && O τ) ρ) (game p O ρ) (game-le p (λ τ. B τ && O τ) O (λ τ. and_r (B τ) (O τ)) ρ)
    go false = or_no (game p (λ τ. B τ && O τ) ρ)

-- Expanding --------------------------------------------------------------------------------------------------
pub free-and : (p : List ℕ) (a b : Values → Bool) → FreeOf p a → FreeOf p b → FreeOf p (λ τ. a τ && b τ)
free-and p a b f g v h ρ c = ap₂ ◌&&◌ (f v h ρ c) (g v h ρ c)

pub free-game : (p p' : List ℕ) (m : Values → Bool) → FreeOf p m → FreeOf p (game p' m)
free-game p p' m f v h = game-free p' v m (f v h)

-- two games over different variables are one
pub game-pair : (p p' : List ℕ) (m m' : Values → Bool) → FreeOf p' m → FreeOf p m' → (ρ : Values)
    → game (p ++ p') (λ τ. m τ && m' τ) ρ ≡ (game p m ρ && game p' m' ρ)
game-pair p p' m m' f g ρ =
    game-append p p' (λ τ. m τ && m' τ) ρ
    ∙ (game-ext p (game p' (λ τ. m τ && m' τ)) (λ τ. game p' m' τ && m τ) (λ τ. game-and p' m m' f τ ∙ and_comm (m τ) (game p' m' τ)) ρ
    ∙ (game-and p (game p' m') m (free-game p p' m' g) ρ
    ∙ and_comm (game p' m' ρ) (game p m ρ)))

-- A universal u directly before p: with u false A and F are left, with u true A and G; H over p' is G over p, renamed.
pub forall-expand : (u : ℕ) (p p' : List ℕ) → odd u ≡ true → mentions p (var u) ≡ false → (m A F G H : Values → Bool) → FreeOf p A → FreeOf p' A → FreeOf p' F
    → FreeOf p H → ((τ : Values) → m (with_value τ (var u) false) ≡ (A τ && F τ)) → ((τ : Values) → m (with_value τ (var u) true) ≡ (A τ && G τ))
    → ((τ : Values) → game p G τ ≡ game p' H τ) → (ρ : Values) → game (u ∷ p) m ρ ≡ game (p ++ p') (λ τ. A τ && (F τ && H τ)) ρ
unfolding game
forall-expand u p p' od out m A F G H fa fa' ff fh zero one ren ρ =
    choice-forall u (game p m (with_value ρ (var u) false)) (game p m (with_value ρ (var u) true)) od
    ∙ (ap₂ ◌&&◌ (at false F zero) (at true G one ∙ ap (λ (x : Bool). A ρ && x) (ren ρ))
    ∙ (go (A ρ) (game p F ρ) (game p' H ρ)
    ∙ sym (game-append p p' (λ τ. A τ && (F τ && H τ)) ρ ∙ (outer ∙ (game-and p A (game p' (λ τ. F τ && H τ)) fa ρ
    ∙ ap (λ (x : Bool). A ρ && x) (sym (game-append p p' (λ τ. F τ && H τ) ρ) ∙ game-pair p p' F H ff fh ρ))))))
  where
    at : (x : Bool) (C : Values → Bool) → ((τ : Values) → m (with_value τ (var u) x) ≡ (A τ && C τ)) → game p m (with_value ρ (var u) x) ≡ (A ρ && game p C ρ)
    at x C h = game-subst p (var u) out (λ _. x) (free-const p x) m ρ ∙ (game-ext p (λ τ. m (with_value τ (var u) x)) (λ τ. A τ && C τ) h ρ ∙ game-and p A C fa ρ)

    go : (a x y : Bool) → ((a && x) && (a && y)) ≡ (a && (x && y))
    go true x y = refl
    go false x y = refl

    outer : game p (game p' (λ τ. A τ && (F τ && H τ))) ρ ≡ game p (λ τ. A τ && game p' (λ τ. F τ && H τ) τ) ρ
    outer = game-ext p (game p' (λ τ. A τ && (F τ && H τ))) (λ τ. A τ && game p' (λ τ. F τ && H τ) τ) (λ τ. game-and p' A (λ τ. F τ && H τ) fa' τ) ρ
