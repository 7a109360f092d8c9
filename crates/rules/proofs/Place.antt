-- Where a variable stands in a prefix, and what is known of what stands left and right of it. Assumes nothing.
use mathlib.Core.Path.{◌≡◌, refl, sym, ◌∙◌, ap, ap₂}
use Prim.Native.Nat.{ℕ}
use mathlib.Core.Bool.{Bool, true, false, ◌&&◌, ◌||◌, not, cond, false≢true}
use mathlib.Core.List.{List, [], ◌∷◌, ◌++◌}
use lib.Dec.{eqb}
use Rattle.meaning.specs.Lists.{any_of, keep_if, has, all_of}
use Rattle.meaning.specs.Formula.{var, odd, is_var, mentions, drop_var, existential, universal, any_exist, right_of, Formula}
use Rattle.meaning.specs.WellFormed.{good_prefix, reduced, well_formed}
use Rattle.meaning.specs.Game.{Values, game}
use Rattle.meaning.specs.Tidy.{stays}
use Rattle.meaning.proofs.Basics.{by_cases, clash, false_of, and_r, or-il, or-ir, or_elim, not-true, eqb-true, eqb-sym, or-false, and_i, or_l, or_r}
use Rattle.meaning.proofs.Game.{game-append, game-ext}
use Rattle.meaning.proofs.Lists.{any-le, any-witness, all-has, any_append}
use Rattle.meaning.proofs.Prefix.{not-universal, not-existential, drop-none, good-out, good-tail, eqb-negated, eqb-plain, exists-mentioned, forall-mentioned}
use Rattle.meaning.proofs.Blocks.{OneKind, game-past}
use Rattle.meaning.proofs.Parts.{good_of}

pub record Place (p : List ℕ) (v : ℕ) : Type 0 where
  pub left : List ℕ
  pub entry : ℕ
  pub right : List ℕ
  pub whole : p ≡ left ++ (entry ∷ right)
  pub is : var entry ≡ v
  pub left_out : mentions left v ≡ false
  pub right-out : mentions right v ≡ false
  pub rest : drop_var v p ≡ left ++ right
  pub behind : right_of v p ≡ right
  pub forall-is : universal p v ≡ odd entry
  pub exists-is : existential p v ≡ not (odd entry)

here : (q : ℕ) (p : List ℕ) (v : ℕ) → good_prefix (q ∷ p) ≡ true → eqb (var q) v ≡ true → Place (q ∷ p) v
unfolding drop_var keep_if is_var right_of universal existential has any_of mentions
here q p v good e =
    record {
      left = [];
      entry = q;
      right = p;
      whole = refl;
      is = eqb-true (var q) v e;
      left_out = refl;
      right-out = out;
      rest = rw e (drop-none v p out);
      behind = rw e;
      forall-is = ap₂ ◌||◌ (eqb-negated v q ∙ ap (λ (b : Bool). b && odd q) e) (not-universal p v out) ∙ or-false (odd q);
      exists-is = ap₂ ◌||◌ (eqb-plain v q ∙ ap (λ (b : Bool). b && not (odd q)) e) (not-existential p v out) ∙ or-false (not (odd q));
    }
  where
    out : mentions p v ≡ false
    out = rw (eqb-true (var q) v e) at (good-out q p good)

there : (q : ℕ) (p : List ℕ) (v : ℕ) → eqb (var q) v ≡ false → Place p v → Place (q ∷ p) v
unfolding drop_var keep_if is_var right_of universal existential has any_of mentions
there q p v e k =
    record {
      left = q ∷ k.left;
      entry = k.entry;
      right = k.right;
      whole = ap (λ (r : List ℕ). q ∷ r) k.whole;
      is = k.is;
      left_out = rw e k.left_out;
      right-out = k.right-out;
      rest = rw e (ap (λ (r : List ℕ). q ∷ r) k.rest);
      behind = rw e k.behind;
      forall-is = rw (eqb-negated v q ∙ ap (λ (b : Bool). b && odd q) e) k.forall-is;
      exists-is = rw (eqb-plain v q ∙ ap (λ (b : Bool). b && not (odd q)) e) k.exists-is;
    }

pub place : (p : List ℕ) (v : ℕ) → good_prefix p ≡ true → mentions p v ≡ true → Place p v
unfolding mentions any_of is_var
place [] v good h = absurd (false≢true h)
place (q ∷ p) v good h =
    by_cases (eqb (var q) v) (λ e. here q p v good e) (λ e. there q p v e (place p v (good-tail q p good) (rw e at h)))

pub exists-place : (φ : Formula) → well_formed φ ≡ true → (a : ℕ) → existential φ.prefix a ≡ true → (at : Place φ.prefix a) × (odd at.entry ≡ false)
exists-place φ w a h = let at : Place φ.prefix a = place _ a (good_of φ w) (exists-mentioned φ.prefix a h) in (at, not-true _ (sym at.exists-is ∙ h))

pub forall-place : (φ : Formula) → well_formed φ ≡ true → (a : ℕ) → universal φ.prefix a ≡ true → (at : Place φ.prefix a) × (odd at.entry ≡ true)
forall-place φ w a h = let at : Place φ.prefix a = place _ a (good_of φ w) (forall-mentioned φ.prefix a h) in (at, sym at.forall-is ∙ h)

-- The game from a place on -------------------------------------------------------------------------------------
-- what is the same from some place on is the same
pub game-under : (p s s' : List ℕ) (m m' : Values → Bool) → ((σ : Values) → game s m σ ≡ game s' m' σ) → (ρ : Values) → game (p ++ s) m ρ ≡ game (p ++ s') m' ρ
game-under p s s' m m' h ρ = game-append p s m ρ ∙ (game-ext p _ _ h ρ ∙ sym (game-append p s' m' ρ))

-- so to drop a variable is a matter of what stands from its place on
pub drop_here : (p : List ℕ) (v : ℕ) (k : Place p v) (m m' : Values → Bool) → ((σ : Values) → game (k.entry ∷ k.right) m σ ≡ game k.right m' σ)
    → (ρ : Values)
    → game (drop_var v p) m' ρ ≡ game p m ρ
drop_here p v k m m' h ρ =
    ap (λ (q : List ℕ). game q m' ρ) k.rest ∙ (sym (game-under k.left _ _ m m' h ρ) ∙ ap (λ (q : List ℕ). game q m ρ) (sym k.whole))

-- the first elements that pass a test, and what stands from the first on that does not
unfoldable pub while : (ℕ → Bool) → List ℕ → List ℕ
while f [] = []
while f (x ∷ s) = cond (f x) (x ∷ while f s) []

unfoldable pub past : (ℕ → Bool) → List ℕ → List ℕ
past f [] = []
past f (x ∷ s) = cond (f x) (past f s) (x ∷ s)

pub while-past : (f : ℕ → Bool) (s : List ℕ) → s ≡ while f s ++ past f s
unfolding while past
while-past f [] = refl
while-past f (x ∷ s) = go (f x) (while-past f s)
  where
    go : (b : Bool) → s ≡ while f s ++ past f s → (x ∷ s) ≡ cond b (x ∷ while f s) [] ++ cond b (past f s) (x ∷ s)
    go true e = ap (λ (r : List ℕ). x ∷ r) e
    go false e = refl

pub while-all : (f : ℕ → Bool) (s : List ℕ) → all_of f (while f s) ≡ true
unfolding while all_of
while-all f [] = refl
while-all f (x ∷ s) = by_cases (f x) (λ e. rw e (and_i _ _ e (while-all f s))) (λ e. rw e)

-- a variable that the list does not mention is in neither part
pub parts_out : (f : ℕ → Bool) (v : ℕ) (s : List ℕ) → mentions s v ≡ false → (mentions (while f s) v ≡ false) × (mentions (past f s) v ≡ false)
unfolding mentions
parts_out f v s h =
    let e : (any_of (is_var v) (while f s) || any_of (is_var v) (past f s)) ≡ false = sym (any_append (is_var v) _ _) ∙ (ap (any_of (is_var v)) (sym (while-past f s)) ∙ h) in
    (or_l _ _ e, or_r (any_of (is_var v) (while f s)) _ e)

-- a variable may be moved right past those of its own kind
pub past-kind : (f : ℕ → Bool) (p : List ℕ) (v : ℕ) (k : Place p v) → OneKind k.entry (while f k.right) → (m : Values → Bool) (σ : Values)
    → game (k.entry ∷ k.right) m σ ≡ game (while f k.right ++ (k.entry ∷ past f k.right)) m σ
past-kind f p v k one m σ =
    ap (λ (s : List ℕ). game (k.entry ∷ s) m σ) (while-past f k.right)
    ∙ game-past _ _ _ one (ap (mentions (while f k.right)) k.is ∙ (parts_out f v k.right k.right-out).0) m σ

-- Where a universal, or the last variable, of a clause stands ---------------------------------------------------
-- in a tidy clause a universal has an existential of the clause to its right
pub reduced-at : (p : List ℕ) (v : ℕ) (k : Place p v) (c : List ℕ) → reduced p c ≡ true → odd k.entry ≡ true → mentions c v ≡ true
    → any_exist k.right c ≡ true
unfolding reduced stays mentions is_var
reduced-at p v k c h o m =
    let w : (l : ℕ) × (has l c ≡ true) × (eqb (var l) v ≡ true) = any-witness _ c m in
    or_elim _ _ (rw (eqb-true _ v w.2) at (all-has _ c w.0 h w.1)) (λ e. clash (k.forall-is ∙ o) (not-true _ e)) (λ e. rw k.behind at e)

-- one of these is one of those
any_swap : (r : ℕ → ℕ → Bool) (s c : List ℕ) → any_of (λ q. any_of (λ l. r q l) c) s ≡ true → any_of (λ l. any_of (λ q. r q l) s) c ≡ true
unfolding any_of
any_swap r [] c h = absurd (false≢true h)
any_swap r (q ∷ s) c h =
    or_elim _ _ h (λ e. any-le (λ l. r q l) _ c (λ l. or-il _ _) e) (λ e. any-le _ _ c (λ l. or-ir (r q l) _) (any_swap r s c e))

pub meet : (s c : List ℕ) → any_of (λ q. mentions c (var q)) s ≡ true → any_of (λ l. mentions s (var l)) c ≡ true
unfolding mentions is_var
meet s c h = any-le _ _ c (λ l. any-le _ _ s (λ q e. eqb-sym (var q) (var l) ∙ e)) (any_swap (λ q l. eqb (var l) (var q)) s c h)

-- so where no other variable of the clause stands right of it, it is existential
pub last-exists : (p : List ℕ) (v : ℕ) (k : Place p v) (c : List ℕ) → reduced p c ≡ true → mentions c v ≡ true
    → any_of (λ l. mentions k.right (var l)) c ≡ false → odd k.entry ≡ false
unfolding any_exist
last-exists p v k c red men far =
    false_of _ (λ o. clash (meet k.right c (any-le _ _ _ (λ q. and_r (not (odd q)) _) (reduced-at p v k c red o men))) far)
