-- Resolve keeps the truth where its condition holds on one side; so where it holds on both, as the step asks. Assumes nothing.
use mathlib.Core.Path.{◌≡◌, refl, sym, ◌∙◌, ap, ap₂}
use Prim.Native.Nat.{ℕ}
use mathlib.Core.Bool.{Bool, true, false, ◌&&◌, ◌||◌, not, cond, false≢true, and_comm, or_comm}
use mathlib.Core.List.{List, [], ◌∷◌, ◌++◌, map}
use lib.Dec.{eqb}
use Rattle.meaning.specs.Lists.{all_of, any_of, has, without}
use Rattle.meaning.specs.Formula.{Formula, var, odd, opposite, is_var, mentions, existential, plain, negated}
use Rattle.meaning.specs.WellFormed.{well_formed}
use Rattle.meaning.specs.Game.{Values, with_value, lit_true, clause_true, all_true, game, truth}
use Rattle.rules.specs.Simplify.{without_lit, assign}
use Rattle.rules.specs.Eliminate.{from_universal, avoids, near_side, resolve_permitted, resolvents_of, resolvents, resolve_raw, with_lit, without_var}
use Rattle.meaning.proofs.Basics.{by_cases, iff, clash, false_of, and_l, and_r, and_i, or-il, or-ir, or_elim, not-true, eqb-true, eqb-eq}
use Rattle.meaning.proofs.Game.{FreeOf, game-ext}
use Rattle.meaning.proofs.Blocks.{exists-resolve}
use Rattle.meaning.proofs.Literals.{var-opp, var-of-plain, odd-of-plain, var-of-negated, odd-of-negated, opp-plain, opp-negated}
use Rattle.meaning.proofs.Lists.{any_append, any-keep-le, all_keep, all_map, all-agree, all-le, any_none, keep_all, any-witness, all-has}
use Rattle.meaning.proofs.Clauses.{clause-free, all-append-true}
use Rattle.rules.proofs.Place.{Place, game-under, drop_here, while, past, while-past, while-all, parts_out, past-kind, exists-place}
use Rattle.rules.proofs.Assign.{other-lit, assign-true}
use Rattle.rules.proofs.Values.{Keeps}
use Rattle.meaning.proofs.Ascends.{once-opp}
use Rattle.meaning.proofs.Parts.{tidy_of, ascends-of}
use Rattle.rules.proofs.Permitted.{ResolveSays, resolve-says}

-- a variable of a clause is there by one of its two literals -------------------------------------------------
lit-var : (l k : ℕ) → is_var (var l) k ≡ (eqb l k || eqb (opposite l) k)
unfolding is_var
lit-var l k =
    iff (eqb (var k) (var l)) (eqb l k || eqb (opposite l) k)
    (λ h. by_cases (eqb l k) (λ e. or-il _ _ e) (λ e. or-ir (eqb l k) _ (eqb-eq (sym (other-lit l k (eqb-true (var k) (var l) h) e)))))
    (λ h. or_elim _ _ h (λ e. eqb-eq (ap var (sym (eqb-true l k e)))) (λ e. eqb-eq (ap var (sym (eqb-true _ k e)) ∙ var-opp l)))

pub mentions-lits : (c : List ℕ) (l : ℕ) → mentions c (var l) ≡ (has l c || has (opposite l) c)
unfolding mentions has any_of
mentions-lits [] l = refl
mentions-lits (k ∷ c) l = ap₂ ◌||◌ (lit-var l k) (mentions-lits c l) ∙ mix (eqb l k) (eqb (opposite l) k) (any_of (λ y. eqb l y) c) (any_of (λ y. eqb (opposite l) y) c)
  where
    mix : (a b e f : Bool) → ((a || b) || (e || f)) ≡ ((a || e) || (b || f))
    mix true b e f = refl
    mix false true true f = refl
    mix false true false f = refl
    mix false false e f = refl

-- The clauses by their literal -------------------------------------------------------------------------------
all-and : (f g : List ℕ → Bool) (cs : List (List ℕ)) → all_of (λ c. f c && g c) cs ≡ (all_of f cs && all_of g cs)
unfolding all_of
all-and f g [] = refl
all-and f g (c ∷ cs) = ap (λ (b : Bool). (f c && g c) && b) (all-and f g cs) ∙ mix (f c) (g c) (all_of f cs) (all_of g cs)
  where
    mix : (a b e f : Bool) → ((a && b) && (e && f)) ≡ ((a && e) && (b && f))
    mix false b e f = refl
    mix true false false f = refl
    mix true false true f = refl
    mix true true e f = refl

-- no clause has both l and its opposite
abbrev pub Single : ℕ → List (List ℕ) → Type 0
Single l cs = all_of (λ c. not (has l c && has (opposite l) c)) cs ≡ true

-- l made true: the clauses with its opposite, without it, and those without the variable
side-split : (l : ℕ) (cs : List (List ℕ)) → Single l cs → (τ : Values)
    → all_true (assign l cs) τ ≡ (all_true (map (without (opposite l)) (with_lit (opposite l) cs)) τ && all_true (without_var (var l) cs) τ)
unfolding all_true assign without_lit with_lit without_var
side-split l cs single τ =
    all_map _ _ _ ∙ (all_keep _ _ cs ∙ (all-agree _ left both cs single each
    ∙ (all-and with-opp _ cs ∙ ap₂ ◌&&◌ (sym (all_map _ _ _ ∙ all_keep _ _ cs)) (sym (all_keep _ _ cs)))))
  where
    left : List ℕ → Bool
    left c = not (not (has l c)) || clause_true (without (opposite l) c) τ

    with-opp : List ℕ → Bool
    with-opp c = not (has (opposite l) c) || clause_true (without (opposite l) c) τ

    without-var : List ℕ → Bool
    without-var c = not (not (mentions c (var l))) || clause_true c τ

    both : List ℕ → Bool
    both c = with-opp c && without-var c

    none : (c : List ℕ) → has (opposite l) c ≡ false → without (opposite l) c ≡ c
    none c h = unfold without in keep_all _ c (any_none (λ k. eqb (opposite l) k) c (unfold has in h))

    table : (s t : Bool) (x y : Bool) → not (s && t) ≡ true → (t ≡ false → x ≡ y) → (not (not s) || x) ≡ ((not t || x) && (not (not (s || t)) || y))
    table true true x y h e = absurd (false≢true h)
    table true false x y h e = refl
    table false true true y h e = refl
    table false true false y h e = refl
    table false false x y h e = e refl

    each : (c : List ℕ) → not (has l c && has (opposite l) c) ≡ true → left c ≡ both c
    each c h =
        table (has l c) (has (opposite l) c) (clause_true (without (opposite l) c) τ) (clause_true c τ) h (λ e. ap (λ (d : List ℕ). clause_true d τ) (none c e))
        ∙ ap (λ (b : Bool). with-opp c && (not (not b) || clause_true c τ)) (sym (mentions-lits c l))

-- what is left of a side when its literal is false
abbrev pub side_of : ℕ → List (List ℕ) → Values → Bool
side_of l cs = all_true (map (without l) (with_lit l cs))

pub at_true : (a : ℕ) (cs : List (List ℕ)) → Single (plain a) cs → (τ : Values)
    → all_true cs (with_value τ a true) ≡ (side_of (negated a) cs τ && all_true (without_var a cs) τ)
at_true a cs single τ = rw (var-of-plain a, odd-of-plain a, opp-plain a) at (assign-true (plain a) cs τ ∙ side-split (plain a) cs single τ)

pub at-false : (a : ℕ) (cs : List (List ℕ)) → Single (negated a) cs → (τ : Values)
    → all_true cs (with_value τ a false) ≡ (side_of (plain a) cs τ && all_true (without_var a cs) τ)
at-false a cs single τ = rw (var-of-negated a, odd-of-negated a, opp-negated a) at (assign-true (negated a) cs τ ∙ side-split (negated a) cs single τ)

pub single_of : (φ : Formula) → well_formed φ ≡ true → (l : ℕ) → Single l φ.clauses
single_of φ w l = all-le _ _ _
    (λ c t. ap not (false_of _ (λ h. clash (search and_r) (once-opp c (ascends-of _ c t) l (and_l _ (has (opposite l) c) h))))) (tidy_of φ w)

-- The resolvents ---------------------------------------------------------------------------------------------
one-true : (a : ℕ) (c : List ℕ) (ds : List (List ℕ)) (τ : Values)
    → all_true (resolvents_of a c ds) τ ≡ (clause_true (without (plain a) c) τ || all_true (map (without (negated a)) ds) τ)
unfolding all_true all_of resolvents_of clause_true
one-true a c [] τ = sym (or_yes (any_of (lit_true τ) (without (plain a) c)))
  where
    or_yes : (b : Bool) → (b || true) ≡ true
    or_yes true = refl
    or_yes false = refl
one-true a c (d ∷ ds) τ =
    ap₂ ◌&&◌ (any_append _ _ _) (one-true a c ds τ)
    ∙ dist (any_of (lit_true τ) (without (plain a) c)) (any_of (lit_true τ) (without (negated a) d)) (all_of (λ c. any_of (lit_true τ) c) (map (without (negated a)) ds))
  where
    dist : (x y z : Bool) → ((x || y) && (x || z)) ≡ (x || (y && z))
    dist true y z = refl
    dist false y z = refl

pub resolvents-true : (a : ℕ) (cs ds : List (List ℕ)) (τ : Values)
    → all_true (resolvents a cs ds) τ ≡ (all_true (map (without (plain a)) cs) τ || all_true (map (without (negated a)) ds) τ)
unfolding all_true all_of resolvents
resolvents-true a [] ds τ = refl
resolvents-true a (c ∷ cs) ds τ =
    all-append-true (resolvents_of a c ds) _ τ ∙ (ap₂ ◌&&◌ (one-true a c ds τ) (resolvents-true a cs ds τ)
    ∙ dist (clause_true (without (plain a) c) τ) (all_of (λ c. clause_true c τ) (map (without (plain a)) cs)) (all_of (λ c. clause_true c τ) (map (without (negated a)) ds)))
  where
    dist : (x y z : Bool) → ((x || z) && (y || z)) ≡ ((x && y) || z)
    dist true y z = refl
    dist false true true = refl
    dist false false true = refl
    dist false y false = refl

-- The near side does not depend on what stands from the first universal on -----------------------------------
avoids-free : (far c : List ℕ) (l : ℕ) → avoids far c ≡ true → FreeOf far (clause_true (without l c))
unfolding avoids mentions without is_var
avoids-free far c l h v men = clause-free _ v (false_of _ (λ k. caught (any-keep-le (is_var v) _ c k)))
  where
    caught : mentions c v ≡ true → ⊥
    caught k =
        let w : (i : ℕ) × (has i c ≡ true) × (is_var v i ≡ true) = any-witness (is_var v) c k in
        clash {b = mentions far (var w.0)} (rw (eqb-true _ v w.2) men) (not-true _ (all-has _ c w.0 h w.1))

near-free : (far : List ℕ) (l : ℕ) (cs : List (List ℕ)) → all_of (avoids far) cs ≡ true → FreeOf far (all_true (map (without l) cs))
unfolding all_true all_of
near-free far l [] h v men ρ b = refl
near-free far l (c ∷ cs) h v men ρ b = ap₂ ◌&&◌ (avoids-free far c l (search and_l) v men ρ b) (near-free far l cs (search and_r) v men ρ b)

-- the part of a prefix from its first universal on is what its existentials leave
pub from-universal : (s : List ℕ) → from_universal s ≡ past (λ q. not (odd q)) s
unfolding from_universal past
from-universal [] = refl
from-universal (q ∷ s) = go (odd q) (from-universal s)
  where
    go : (b : Bool) → from_universal s ≡ past (λ q. not (odd q)) s → cond b (q ∷ s) (from_universal s) ≡ cond (not b) (past (λ q. not (odd q)) s) (q ∷ s)
    go true e = refl
    go false e = e

-- 6. Resolve -------------------------------------------------------------------------------------------------
module _ (p : List ℕ) (a : ℕ) (at : Place p a) (ev : odd at.entry ≡ false) where
  -- an existential is judged directly before the first universal right of it
  pub exists-here : (m m' : Values → Bool)
      → (mentions (from_universal at.right) (var at.entry) ≡ false → (τ : Values) → game (at.entry ∷ from_universal at.right) m τ ≡ game (from_universal at.right) m' τ)
      → (σ : Values) → game (at.entry ∷ at.right) m σ ≡ game at.right m' σ
  exists-here m m' h σ =
      past-kind even p a at (rw ev (while-all even at.right)) m σ
      ∙ (game-under (while even at.right) _ _ m m' inner σ ∙ ap (λ (s : List ℕ). game s m' σ) (sym (while-past even at.right)))
    where
      even : ℕ → Bool
      even q = not (odd q)

      inner : (τ : Values) → game (at.entry ∷ past even at.right) m τ ≡ game (past even at.right) m' τ
      inner = rw (from-universal at.right) at (h (rw (from-universal at.right, at.is) (parts_out even a at.right at.right-out).1))

  -- over any judge: A is the near side
  resolve-here : (m A B O m' : Values → Bool) (b : Bool) → FreeOf (from_universal at.right) A → ((τ : Values) → m (with_value τ a b) ≡ (B τ && O τ))
      → ((τ : Values) → m (with_value τ a (not b)) ≡ (A τ && O τ)) → ((τ : Values) → ((A τ || B τ) && O τ) ≡ m' τ) → (σ : Values) → game (at.entry ∷ at.right) m σ ≡ game at.right m' σ
  resolve-here m A B O m' b free one two all =
      exists-here m m'
      (λ out τ. exists-resolve _ _ ev out m A B O b free
      (λ υ. ap (λ (v : ℕ). m (with_value υ v b)) at.is ∙ one υ) (λ υ. ap (λ (v : ℕ). m (with_value υ v (not b))) at.is ∙ two υ) τ
      ∙ game-ext _ _ m' all τ)

-- one side is enough: the condition for all clauses with the plain literal, or for all with the negated one
unfoldable pub one_side_near : Formula → ℕ → Bool
one_side_near φ a = existential φ.prefix a && (near_side φ (plain a) || near_side φ (negated a))

pub resolve-keeps-one-side : (φ : Formula) → well_formed φ ≡ true → (a : ℕ) → one_side_near φ a ≡ true → Keeps φ (resolve_raw φ a)
unfolding truth resolve_raw one_side_near near_side
resolve-keeps-one-side φ w a h = drop_here _ a at (all_true cs) (all_true new) here
  where
    cs : List (List ℕ)
    cs = φ.clauses

    new : List (List ℕ)
    new = without_var a cs ++ resolvents a (with_lit (plain a) cs) (with_lit (negated a) cs)

    k : (at : Place φ.prefix a) × (odd at.entry ≡ false)
    k = exists-place φ w a (search and_l)

    at : Place φ.prefix a
    at = k.0

    ev : odd at.entry ≡ false
    ev = k.1

    near : (l : ℕ) → var l ≡ a → near_side φ l ≡ true → FreeOf (from_universal at.right) (side_of l cs)
    near l e n = near-free _ l _ (rw (e, at.behind) at n)

    -- with the plain literal, with the negated one, without the variable
    P : Values → Bool
    P = side_of (plain a) cs

    N : Values → Bool
    N = side_of (negated a) cs

    O : Values → Bool
    O = all_true (without_var a cs)

    joined : (τ : Values) → ((P τ || N τ) && O τ) ≡ all_true new τ
    joined τ = and_comm (P τ || N τ) (O τ) ∙ sym (all-append-true _ _ τ ∙ ap (λ (b : Bool). O τ && b) (resolvents-true a _ _ τ))

    x-true : (τ : Values) → all_true cs (with_value τ a true) ≡ (N τ && O τ)
    x-true = at_true a cs (single_of φ w (plain a))

    x-false : (τ : Values) → all_true cs (with_value τ a false) ≡ (P τ && O τ)
    x-false = at-false a cs (single_of φ w (negated a))

    here : (σ : Values) → game (at.entry ∷ at.right) (all_true cs) σ ≡ game at.right (all_true new) σ
    here =
        or_elim (near_side φ (plain a)) _ (search and_r)
        (λ n. resolve-here _ a at ev (all_true cs) P N O (all_true new) true (near (plain a) (var-of-plain a) n) x-true x-false joined)
        (λ n. resolve-here _ a at ev (all_true cs) N P O (all_true new) false (near (negated a) (var-of-negated a) n) x-false x-true (λ τ. rw (or_comm (N τ) (P τ)) (joined τ)))

-- the step's condition, on both sides
pub both-sides : (φ : Formula) (a : ℕ) → resolve_permitted φ a ≡ true → one_side_near φ a ≡ true
unfolding one_side_near
both-sides φ a h =
    let s : ResolveSays φ a = resolve-says φ a h in and_i _ _ s.exists (or-il _ _ s.near-plain)

pub resolve-keeps : (φ : Formula) → well_formed φ ≡ true → (a : ℕ) → resolve_permitted φ a ≡ true → Keeps φ (resolve_raw φ a)
resolve-keeps φ w a h = resolve-keeps-one-side φ w a (both-sides φ a h)
