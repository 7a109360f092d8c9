-- Expand keeps the truth. Assumes nothing.
use mathlib.Core.Path.{◌≡◌, refl, sym, ◌∙◌, ap, ap₂, fun_ext, subst}
use Prim.Native.Nat.{ℕ, suc}
use native.Mathlib.Omega.{arith}
use mathlib.Core.Bool.{Bool, true, false, ◌&&◌, not, cond}
use mathlib.Core.List.{List, [], ◌∷◌, ◌++◌, map, append_assoc}
use lib.Dec.{eqb}
use lib.ListN.{length}
use Rattle.meaning.specs.Lists.{all_of, any_of, keep_if, has, without}
use Rattle.meaning.specs.Formula.{Formula, var, odd, is_var, mentions, any_exist, plain, negated}
use Rattle.meaning.specs.WellFormed.{good_prefix, bound, tidy_clause, well_formed}
use Rattle.meaning.specs.Game.{Values, with_value, all_true, game, truth}
use Rattle.rules.specs.Simplify.{without_lit, assign}
use Rattle.rules.specs.Eliminate.{all_exist, universals_first, expand_permitted, inner, fresh, rename_var, rename_lit, touching, others, expand_with, expand_raw}
use Rattle.meaning.proofs.Basics.{by_cases, clash, false_of, and_l, and_r, and_i, or_r, not-true, eqb-self, eqb-true, eqb-ne}
use Rattle.meaning.proofs.Game.{Free, FreeOf, game-ext, with-other}
use Rattle.meaning.proofs.Blocks.{forall-expand}
use Rattle.meaning.proofs.Lists.{any-le, any-keep, any-keep-le, any-map, all_split, all-le, all-kept, all-of-has, any-has, all-has, any-witness, keep_all, none_any}
use Rattle.meaning.proofs.Clauses.{clauses-free, all-append-true}
use Rattle.rules.proofs.Place.{Place, game-under, reduced-at, while, past, while-past, while-all, past-kind, forall-place}
use Rattle.rules.proofs.Assign.{assign-true}
use Rattle.rules.proofs.Values.{Keeps}
use Rattle.rules.proofs.Fresh.{once, fresh-length, fresh-once, fresh-out}
use Rattle.rules.proofs.Rename.{Copies, copies-mention, rename-in, rename-out, game-rename, rename-true}
use Rattle.meaning.proofs.Parts.{reduced-of, good_of, tidy_of, bound_of}
use Rattle.meaning.proofs.Literals.{var-of-plain, odd-of-plain, var-of-negated, odd-of-negated}
use Rattle.meaning.proofs.Prefix.{good-out, good-tail, right-mentioned}
use Rattle.rules.proofs.Permitted.{ExpandSays, expand-says}
use Rattle.rules.proofs.Good.{good-keep, good_right}

-- universals, then existentials: the existentials are what the universals leave
inner-is : (s : List ℕ) → universals_first s ≡ true → keep_if (λ q. not (odd q)) s ≡ past odd s
unfolding keep_if past universals_first all_exist
inner-is [] h = refl
inner-is (q ∷ s) h = go (odd q) h (inner-is s)
  where
    go : (b : Bool) → cond b (universals_first s) (all_of (λ q. not (odd q)) s) ≡ true → (universals_first s ≡ true → keep_if (λ q. not (odd q)) s ≡ past odd s)
        → cond (not b) (q ∷ keep_if (λ q. not (odd q)) s) (keep_if (λ q. not (odd q)) s) ≡ cond b (past odd s) (q ∷ s)
    go true k ih = ih k
    go false k ih = ap (λ (r : List ℕ). q ∷ r) (keep_all _ s k)

-- The copies -------------------------------------------------------------------------------------------------
make-copies : (es fs : List ℕ) → length fs ≡ length es → all_of (λ q. not (odd q)) es ≡ true → good_prefix es ≡ true → once fs ≡ true
    → all_of (λ e. not (has (var e) fs)) es ≡ true → Copies es fs
unfolding all_of once has any_of
make-copies [] [] n ev good o out = tt
make-copies [] (f ∷ fs) n ev good o out = omega arith
make-copies (e ∷ es) [] n ev good o out = absurd (let z : 0 ≡ suc (length es) = n in omega arith)
make-copies (e ∷ es) (f ∷ fs) n ev good o out = (
  search (and_l, not-true),
  good-out e es good,
  search (and_l, not-true),
  or_r (eqb (var e) f) _ (not-true _ (search and_l)),
  make-copies es fs (omega arith) (search and_r) (good-tail e es good) (search and_r)
      (all-le (λ e. not (has (var e) (f ∷ fs))) (λ e. not (has (var e) fs)) es (λ x h. ap not (or_r (eqb (var x) f) _ (not-true _ h))) (search and_r)),
)

-- What the clauses mention -----------------------------------------------------------------------------------
pub assign-mentions : (l v : ℕ) (cs : List (List ℕ)) → any_of (λ c. mentions c v) cs ≡ false → any_of (λ c. mentions c v) (assign l cs) ≡ false
unfolding assign without_lit without mentions
assign-mentions l v cs h = false_of _ (λ k. clash (any-keep-le _ _ cs (any-le _ _ _ (λ c. any-keep-le (is_var v) _ c) (sym (any-map _ _ _) ∙ k))) h)

pub keep-mentions : (t : List ℕ → Bool) (v : ℕ) (cs : List (List ℕ)) → any_of (λ c. mentions c v) cs ≡ false → any_of (λ c. mentions c v) (keep_if t cs) ≡ false
keep-mentions t v cs h = false_of _ (λ k. clash (any-keep-le _ t cs k) h)

-- clauses whose variables are in the prefix mention no other
pub bound-not : (p c : List ℕ) → bound p c ≡ true → (v : ℕ) → mentions p v ≡ false → mentions c v ≡ false
unfolding bound mentions is_var
bound-not p c b v out = false_of _ (λ h. let w : (k : ℕ) × (has k c ≡ true) × (eqb (var k) v ≡ true) = any-witness _ c h in
    clash {b = mentions p (var w.0)} (all-has _ c w.0 b w.1) (rw (eqb-true _ v w.2) out))

pub clauses-not : (φ : Formula) → well_formed φ ≡ true → (v : ℕ) → mentions φ.prefix v ≡ false → any_of (λ c. mentions c v) φ.clauses ≡ false
clauses-not φ w v out = none_any _ _ (all-le _ _ _ (λ c t. ap not (bound-not φ.prefix c (bound_of _ c t) v out)) (tidy_of φ w))

-- an existential of the clause in this part of the prefix, seen from the variable
exist-seen : (es c : List ℕ) → all_of (λ q. not (odd q)) es ≡ true → (v : ℕ) → mentions es v ≡ true → mentions c v ≡ true → any_exist es c ≡ true
unfolding any_exist mentions is_var
exist-seen es c ev v h k =
    let w : (q : ℕ) × (has q es ≡ true) × (eqb (var q) v ≡ true) = any-witness _ es h in
    any-has _ es w.0 w.1 (and_i _ _ (all-has _ es w.0 ev w.1) (rw (eqb-true _ v w.2) k))

exist-kept : (s c : List ℕ) → any_exist s c ≡ true → any_exist (keep_if (λ q. not (odd q)) s) c ≡ true
unfolding any_exist
exist-kept s c h = any-keep _ _ s ∙ any-le _ _ s (λ q k. search (and_i, and_l)) h

-- 7. Expand --------------------------------------------------------------------------------------------------
module _ (φ : Formula) (w : well_formed φ ≡ true) (a : ℕ) (at : Place φ.prefix a) (od : odd at.entry ≡ true) where
  abbrev cs : List (List ℕ)
  cs = φ.clauses

  abbrev pub es : List ℕ
  es = keep_if (λ q. not (odd q)) at.right

  abbrev pub fs : List ℕ
  fs = fresh φ.prefix (length es)

  abbrev pub copies : List ℕ
  copies = map plain fs

  abbrev A : Values → Bool
  A = all_true (others es cs)

  abbrev F : Values → Bool
  F = all_true (assign (negated a) (touching es cs))

  abbrev G : Values → Bool
  G = all_true (assign (plain a) (touching es cs))

  abbrev H : Values → Bool
  H = all_true (map (map (rename_lit es fs)) (assign (plain a) (touching es cs)))

  -- what stands right of u is in the prefix
  right-in : (v : ℕ) → mentions at.right v ≡ true → mentions φ.prefix v ≡ true
  right-in v h = right-mentioned a _ v (rw at.behind h)

  es-in : (v : ℕ) → mentions es v ≡ true → mentions φ.prefix v ≡ true
  unfolding mentions
  es-in v h = right-in v (any-keep-le (is_var v) _ _ h)

  -- a copy is not in the prefix
  pub fs-out : (v : ℕ) → has v fs ≡ true → mentions φ.prefix v ≡ false
  fs-out v h = not-true _ (all-has _ fs v (fresh-out φ.prefix (length es)) h)

  pub copies-ok : Copies es fs
  copies-ok =
      make-copies es fs (fresh-length φ.prefix (length es)) (all-kept (λ q. not (odd q)) at.right)
      (good-keep _ _ (good-tail _ _ (good_right at.left _ (rw at.whole at (good_of φ w))))) (fresh-once φ.prefix (length es))
      (all-of-has (λ e. not (has (var e) fs)) es (λ k h. ap not (false_of _ (λ i. clash (es-in (var k) (inside k h)) (fs-out (var k) i)))))
    where
      inside : (k : ℕ) → has k es ≡ true → mentions es (var k) ≡ true
      inside k h = unfold mentions is_var in any-has _ es k h (eqb-self (var k))

  -- the other clauses mention neither u nor an existential right of it
  others-not : (v : ℕ) → ((c : List ℕ) → tidy_clause φ.prefix c ≡ true → mentions c v ≡ true → any_exist es c ≡ true) → Free v A
  unfolding others
  others-not v h =
      clauses-free _ v (any-keep _ _ cs ∙ none_any _ cs
      (all-le _ _ cs (λ c t. ap not (false_of (not (any_exist es c) && mentions c v) (λ k. clash (h c t (search and_r)) (search (and_l, not-true))))) (tidy_of φ w)))

  -- a clause with u has an existential right of it
  pub with-u : (c : List ℕ) → tidy_clause φ.prefix c ≡ true → mentions c a ≡ true → any_exist es c ≡ true
  with-u c t k = exist-kept _ c (reduced-at _ a at c (reduced-of _ c t) od k)

  free-u : Free a A
  free-u = others-not a with-u

  free-es : FreeOf es A
  free-es v h = others-not v (λ c t k. exist-seen es c (all-kept (λ q. not (odd q)) at.right) v h k)

  -- no clause mentions a copy
  clauses-out : (v : ℕ) → mentions copies v ≡ true → any_of (λ c. mentions c v) cs ≡ false
  clauses-out v h = clauses-not φ w v (fs-out v (sym (copies-mention fs v) ∙ h))

  free-A : FreeOf copies A
  free-A v h = clauses-free _ v (unfold others in keep-mentions _ v cs (clauses-out v h))

  free-side : (l : ℕ) → FreeOf copies (all_true (assign l (touching es cs)))
  free-side l v h = clauses-free _ v (assign-mentions l v (touching es cs) (unfold touching in keep-mentions _ v cs (clauses-out v h)))

  -- the renamed clauses mention no existential right of u
  free-H : FreeOf es H
  free-H v h σ b = rename-true es fs _ _ ∙ (ap G (fun_ext (λ u. with-other σ v b (rename_var es fs u) (away u))) ∙ sym (rename-true es fs _ σ))
    where
      away : (u : ℕ) → eqb (rename_var es fs u) v ≡ false
      away u =
          by_cases (mentions es u)
          (λ i. eqb-ne _ v (λ e. clash (es-in v h) (fs-out v (rw e at (rename-in es fs copies-ok u i)))))
          (λ i. eqb-ne _ v (λ e. clash h (subst (λ (x : ℕ). mentions es x ≡ false) (sym (rename-out es fs u i) ∙ e) i)))

  -- u false, and u true
  split-cs : (τ : Values) → all_true cs τ ≡ (A τ && all_true (touching es cs) τ)
  unfolding all_true others touching
  split-cs τ = all_split _ (λ c. any_exist es c) cs

  u-false : (τ : Values) → all_true cs (with_value τ a false) ≡ (A τ && F τ)
  u-false τ = split-cs (with_value τ a false) ∙ ap₂ ◌&&◌ (free-u τ false) (rw (var-of-negated a, odd-of-negated a) at (assign-true (negated a) (touching es cs) τ))

  u-true : (τ : Values) → all_true cs (with_value τ a true) ≡ (A τ && G τ)
  u-true τ = split-cs (with_value τ a true) ∙ ap₂ ◌&&◌ (free-u τ true) (rw (var-of-plain a, odd-of-plain a) at (assign-true (plain a) (touching es cs) τ))

  es-out : mentions es a ≡ false
  unfolding mentions
  es-out = false_of _ (λ h. clash (any-keep-le (is_var a) _ _ h) at.right-out)

  -- u directly before the existentials
  inner-most : (τ : Values) → game (at.entry ∷ es) (all_true cs) τ ≡ game (es ++ copies) (λ υ. A υ && (F υ && H υ)) τ
  inner-most =
      forall-expand _ es copies od (ap (mentions es) at.is ∙ es-out) _ A F G H free-es free-A (free-side (negated a)) free-H
      (λ τ. ap (λ (v : ℕ). all_true cs (with_value τ v false)) at.is ∙ u-false τ)
      (λ τ. ap (λ (v : ℕ). all_true cs (with_value τ v true)) at.is ∙ u-true τ)
      (λ τ. game-rename es fs copies-ok G (free-side (plain a)) τ ∙ game-ext copies _ H (λ σ. sym (rename-true es fs _ σ)) τ)

  abbrev new : List (List ℕ)
  new = others es cs ++ (assign (negated a) (touching es cs) ++ map (map (rename_lit es fs)) (assign (plain a) (touching es cs)))

  new_true : (τ : Values) → (A τ && (F τ && H τ)) ≡ all_true new τ
  new_true τ = sym (all-append-true _ _ τ ∙ ap (λ (b : Bool). A τ && b) (all-append-true _ _ τ))

  expand-here : universals_first at.right ≡ true → (σ : Values) → game (at.entry ∷ at.right) (all_true cs) σ ≡ game (at.right ++ copies) (all_true new) σ
  expand-here uf σ =
      past-kind odd φ.prefix a at (rw od (while-all odd at.right)) (all_true cs) σ
      ∙ (game-under us _ _ _ _ (rw (← inner-is at.right uf) (λ τ. inner-most τ ∙ game-ext _ _ _ new_true τ)) σ
      ∙ (ap (λ (s : List ℕ). game s (all_true new) σ) (sym (append_assoc us (past odd at.right) copies))
      ∙ ap (λ (s : List ℕ). game (s ++ copies) (all_true new) σ) (sym (while-past odd at.right))))
    where
      us : List ℕ
      us = while odd at.right

  expand-with : universals_first at.right ≡ true → Keeps φ (expand_with φ a es fs)
  unfolding truth expand_with
  expand-with uf ρ =
      ap (λ (p : List ℕ). game (p ++ copies) (all_true new) ρ) at.rest
      ∙ (ap (λ (p : List ℕ). game p (all_true new) ρ) (append_assoc at.left at.right copies)
      ∙ (sym (game-under at.left _ _ _ _ (expand-here uf) ρ) ∙ ap (λ (p : List ℕ). game p (all_true cs) ρ) (sym at.whole)))

pub expand-keeps : (φ : Formula) → well_formed φ ≡ true → (a : ℕ) → expand_permitted φ a ≡ true → Keeps φ (expand_raw φ a)
unfolding expand_raw inner
expand-keeps φ w a h =
    let s : ExpandSays φ a = expand-says φ a h in
    let k : (at : Place φ.prefix a) × (odd at.entry ≡ true) = forall-place φ w a s.forall in
    rw k.0.behind (expand-with φ w a k.0 k.1 (rw k.0.behind at s.first))
