-- The raw result of each step is over a good prefix, with its variables only. Assumes nothing.
use mathlib.Core.Path.{◌≡◌, refl, sym, ◌∙◌, ap, ap₂}
use Prim.Native.Nat.{ℕ, zero, suc}
use mathlib.Core.Bool.{Bool, true, false, ◌||◌, not, cond}
use mathlib.Core.List.{List, [], ◌∷◌, ◌++◌, map}
use lib.Dec.{eqb, ltb}
use lib.ListN.{length, get_or}
use Rattle.meaning.specs.Lists.{all_of, any_of, keep_if, has, without}
use Rattle.meaning.specs.Formula.{Formula, var, odd, opposite, is_var, mentions, drop_var, any_exist, plain, negated}
use Rattle.meaning.specs.WellFormed.{good_prefix, bound, tidy_clause, well_formed}
use Rattle.rules.specs.Simplify.{clause_at, without_lit, assign, becomes_true, unit_raw, pure_raw, replace_at, subsume_raw, strengthen_permitted, strengthen_lit, strengthen_raw, equality_permitted, replace_lit, replaced, equality_raw}
use Rattle.rules.specs.Eliminate.{resolvents_of, resolvents, resolve_raw, expand_permitted, inner, rename_var, rename_lit, touching, others, expand_with, expand_raw, with_lit, without_var}
use Rattle.rules.proofs.Resolve.{mentions-lits}
use Rattle.meaning.proofs.Basics.{by_cases, clash, false_of, and_l, and_r, and_i, or-il, or-ir, eqb-self, eqb-eq, eqb-ne, eqb-false}
use Rattle.meaning.proofs.Literals.{var-opp, opp-opp, var-of-plain, var-of-negated, opp-plain, opp-negated}
use Rattle.meaning.proofs.Lists.{any_append, all_append, any-keep-le, all_keep, all-keep-le, all_map, all-le, all-of-has, all-has, any-has, any_left}
use Rattle.meaning.proofs.Ascends.{once-opp}
use Rattle.rules.proofs.Fresh.{once, fresh-once, fresh-above}
use Rattle.rules.proofs.Rename.{Copies, copies-mention, rename-in, rename-out}
use Rattle.rules.proofs.Assign.{other-lit}
use Rattle.rules.proofs.Expand.{copies-ok, with-u, es, fs, copies, fs-out}
use Rattle.rules.proofs.Place.{Place, forall-place}
use Rattle.meaning.proofs.Parts.{good_of, tidy_of, ascends-of, bound_of, bound_all}
use Rattle.meaning.proofs.Prefix.{drop-other}
use Rattle.rules.proofs.Permitted.{all-at, strengthen-says, expand-says, pure-becomes, Replaces, equality-replaces}
use Rattle.rules.proofs.Good.{good-drop, good-append}

-- raw clauses over a good prefix, with its variables only
abbrev pub RawOk : Formula → Type 0
RawOk r = (good_prefix r.prefix ≡ true) × (all_of (bound r.prefix) r.clauses ≡ true)

bound-drop : (p c : List ℕ) (v : ℕ) → bound p c ≡ true → mentions c v ≡ false → bound (drop_var v p) c ≡ true
unfolding bound
bound-drop p c v b out = all-of-has _ c (λ k h. drop-other v (var k) p (eqb-ne v (var k) (λ e. clash (seen k h e) out)) ∙ all-has _ c k b h)
  where
    seen : (k : ℕ) → has k c ≡ true → v ≡ var k → mentions c v ≡ true
    seen k h e = unfold mentions is_var in any-has _ c k h (eqb-eq (sym e))

bound-keep : (p c : List ℕ) (t : ℕ → Bool) → bound p c ≡ true → bound p (keep_if t c) ≡ true
unfolding bound
bound-keep p c t b = all-keep-le _ t c b

has-without : (k : ℕ) (c : List ℕ) → has k (without k c) ≡ false
unfolding has without
has-without k c = any_left (λ y. eqb k y) c

-- where l is not in the clause, without its opposite the clause does not mention its variable
unmention : (l : ℕ) (c : List ℕ) → has l c ≡ false → mentions (without (opposite l) c) (var l) ≡ false
unmention l c h = mentions-lits (without (opposite l) c) l ∙ ap₂ ◌||◌ (false_of _ (λ k. clash (inside k) h)) (has-without (opposite l) c)
  where
    inside : has l (without (opposite l) c) ≡ true → has l c ≡ true
    inside k = unfold has without in any-keep-le _ _ c k

-- A literal becomes true -------------------------------------------------------------------------------------
assign-one : (p : List ℕ) (l : ℕ) (c : List ℕ) → bound p c ≡ true → (not (not (has l c)) || bound (drop_var (var l) p) (without (opposite l) c)) ≡ true
assign-one p l c b =
    by_cases (has l c) (λ h. rw h) (λ h. rw h (bound-drop p _ (var l) (unfold without in bound-keep p c _ b) (unmention l c h)))

assign-ok : (p : List ℕ) (l : ℕ) (cs : List (List ℕ)) → all_of (bound p) cs ≡ true → all_of (bound (drop_var (var l) p)) (assign l cs) ≡ true
unfolding assign without_lit
assign-ok p l cs b = all_map _ _ _ ∙ (all_keep _ _ cs ∙ all-le (bound p) _ cs (assign-one p l) b)

pub becomes-ok : (φ : Formula) → well_formed φ ≡ true → (l : ℕ) → RawOk (becomes_true l φ)
unfolding becomes_true
becomes-ok φ w l = (good-drop (var l) _ (good_of φ w), assign-ok _ l _ (bound_all φ w))

pub unit_ok : (φ : Formula) → well_formed φ ≡ true → (a : ℕ) → RawOk (unit_raw φ a)
unfolding unit_raw
unit_ok φ w a = becomes-ok φ w (get_or (clause_at φ.clauses a) 0 0)

pub pure-ok : (φ : Formula) → well_formed φ ≡ true → (a : ℕ) → RawOk (pure_raw φ a)
pure-ok φ w a = let b : (l : ℕ) × (var l ≡ a) × (pure_raw φ a ≡ becomes_true l φ) = pure-becomes φ a in rw b.2 (becomes-ok φ w b.0)

-- One clause goes or is shortened ----------------------------------------------------------------------------
replace-all : (f : List ℕ → Bool) (cs : List (List ℕ)) (b : ℕ) (new : List (List ℕ)) → all_of f cs ≡ true → all_of f new ≡ true
    → all_of f (replace_at cs b new) ≡ true
unfolding replace_at all_of
replace-all f [] b new h k = h
replace-all f (c ∷ cs) zero new h k = all_append f new cs ∙ search (and_i, and_r)
replace-all f (c ∷ cs) (suc b) new h k = let r = replace-all f cs b new (search and_r) k in search (and_i, and_l)

pub subsume-ok : (φ : Formula) → well_formed φ ≡ true → (b : ℕ) → RawOk (subsume_raw φ b)
unfolding subsume_raw
subsume-ok φ w b = (good_of φ w, replace-all (bound φ.prefix) φ.clauses b [] (bound_all φ w) (unfold all_of in refl))

pub strengthen-ok : (φ : Formula) → well_formed φ ≡ true → (a b : ℕ) → strengthen_permitted φ a b ≡ true → RawOk (strengthen_raw φ a b)
unfolding strengthen_raw without all_of
strengthen-ok φ w a b h = (
  good_of φ w,
  replace-all (bound φ.prefix) φ.clauses b (without l d ∷ []) (bound_all φ w)
      (rw (bound-keep _ d _ (all-at _ _ b (strengthen-says φ a b h).there-b (bound_all φ w)))),
)
  where
    l : ℕ
    l = opposite (strengthen_lit φ a b)

    d : List ℕ
    d = clause_at φ.clauses b

-- One literal replaced by another ----------------------------------------------------------------------------
replace-one : (p : List ℕ) (k l : ℕ) → mentions p (var l) ≡ true → eqb (var k) (var l) ≡ false → (i : ℕ) → mentions p (var i) ≡ true
    → mentions (drop_var (var k) p) (var (replace_lit k l i)) ≡ true
unfolding replace_lit
replace-one p k l in-l d i in-i =
    by_cases (eqb i k)
    (λ e. rw (e, drop-other (var k) (var l) p d) in-l)
    (λ e. by_cases (eqb i (opposite k)) (λ o. rw (e, o, var-opp l, drop-other (var k) (var l) p d) in-l)
    (λ o. rw (e, o, drop-other (var k) (var i) p (eqb-ne (var k) (var i) (λ v. eqb-false i _ o (other-lit k i (sym v) (eqb-ne k i (λ x. eqb-false i k e (sym x))))))) in-i))

replaced-ok : (φ : Formula) → well_formed φ ≡ true → (k l : ℕ) → mentions φ.prefix (var l) ≡ true → eqb (var k) (var l) ≡ false → RawOk (replaced k l φ)
unfolding replaced bound
replaced-ok φ w k l in-l d = (
  good-drop (var k) _ (good_of φ w),
  all_map _ _ _ ∙ all-le _ _ _ (λ c b. all_map _ _ c ∙ all-le _ _ c (replace-one φ.prefix k l in-l d) b) (bound_all φ w),
)

pub equality-ok : (φ : Formula) → well_formed φ ≡ true → (a b : ℕ) → equality_permitted φ a b ≡ true → RawOk (equality_raw φ a)
equality-ok φ w a b h = let r : Replaces φ (equality_raw φ a) = equality-replaces φ w a b h in rw r.is (replaced-ok φ w r.old r.new r.new_in r.apart)

-- Resolve ----------------------------------------------------------------------------------------------------
resolvent-one : (p : List ℕ) (a : ℕ) (c : List ℕ) (ds : List (List ℕ)) → bound p (without (plain a) c) ≡ true
    → all_of (λ d. bound p (without (negated a) d)) ds ≡ true → all_of (bound p) (resolvents_of a c ds) ≡ true
unfolding resolvents_of all_of bound
resolvent-one p a c [] h k = refl
resolvent-one p a c (d ∷ ds) h k =
    and_i _ _ (all_append _ (without (plain a) c) _ ∙ and_i _ _ h (search and_l)) (resolvent-one p a c ds h (search and_r))

resolvents-bound : (p : List ℕ) (a : ℕ) (cs ds : List (List ℕ)) → all_of (λ c. bound p (without (plain a) c)) cs ≡ true
    → all_of (λ d. bound p (without (negated a) d)) ds ≡ true → all_of (bound p) (resolvents a cs ds) ≡ true
unfolding resolvents all_of
resolvents-bound p a [] ds h k = refl
resolvents-bound p a (c ∷ cs) ds h k =
    all_append (bound p) (resolvents_of a c ds) _ ∙ and_i _ _ (resolvent-one p a c ds (search and_l) k) (resolvents-bound p a cs ds (search and_r) k)

-- the clauses with the opposite of l, without it
side-ok : (φ : Formula) → well_formed φ ≡ true → (l : ℕ)
    → all_of (λ c. bound (drop_var (var l) φ.prefix) (without (opposite l) c)) (with_lit (opposite l) φ.clauses) ≡ true
unfolding with_lit
side-ok φ w l =
    all_keep _ _ _ ∙ all-le _ _ _
    (λ c t. by_cases (has (opposite l) c)
    (λ h. rw h (bound-drop _ _ (var l) (shorter c t) (unmention l c (ap (λ (i : ℕ). has i c) (sym (opp-opp l)) ∙ once-opp c (ascends-of _ c t) (opposite l) h))))
    (λ h. rw h)) (tidy_of φ w)
  where
    shorter : (c : List ℕ) → tidy_clause φ.prefix c ≡ true → bound φ.prefix (without (opposite l) c) ≡ true
    shorter c t = unfold without in bound-keep _ c _ (bound_of _ c t)

-- the clauses left when those with v go: they are of the other variables
keep-bound : (φ : Formula) → well_formed φ ≡ true → (v : ℕ) (t : List ℕ → Bool)
    → ((c : List ℕ) → tidy_clause φ.prefix c ≡ true → mentions c v ≡ true → t c ≡ true) → all_of (bound (drop_var v φ.prefix)) (keep_if (λ c. not (t c)) φ.clauses) ≡ true
keep-bound φ w v t h =
    all_keep _ _ _ ∙ all-le _ _ _
    (λ c i. by_cases (t c) (λ e. rw e) (λ e. rw e (bound-drop _ c v (bound_of _ c i) (false_of _ (λ m. clash (h c i m) e))))) (tidy_of φ w)

pub resolve-ok : (φ : Formula) → well_formed φ ≡ true → (a : ℕ) → RawOk (resolve_raw φ a)
unfolding resolve_raw without_var
resolve-ok φ w a = (
  good-drop a _ (good_of φ w),
  all_append (bound p) _ _
      ∙ and_i _ _ (keep-bound φ w a (λ c. mentions c a) (λ c t m. m)) (resolvents-bound p a (with_lit (plain a) φ.clauses) (with_lit (negated a) φ.clauses) plain-side negated-side),
)
  where
    p : List ℕ
    p = drop_var a φ.prefix

    plain-side : all_of (λ c. bound p (without (plain a) c)) (with_lit (plain a) φ.clauses) ≡ true
    plain-side = rw (var-of-negated a, opp-negated a) at (side-ok φ w (negated a))

    negated-side : all_of (λ c. bound p (without (negated a) c)) (with_lit (negated a) φ.clauses) ≡ true
    negated-side = rw (var-of-plain a, opp-plain a) at (side-ok φ w (plain a))

-- Expand -----------------------------------------------------------------------------------------------------
good-copies : (fs : List ℕ) → once fs ≡ true → all_of (λ v. ltb 0 v) fs ≡ true → good_prefix (map plain fs) ≡ true
unfolding good_prefix once all_of
good-copies [] o z = refl
good-copies (f ∷ fs) o z =
    and_i _ _ (ap (ltb 0) (var-of-plain f) ∙ and_l _ _ z)
    (and_i _ _ (ap (λ (v : ℕ). not (mentions (map plain fs) v)) (var-of-plain f) ∙ (ap not (copies-mention fs f) ∙ and_l _ _ o)) (good-copies fs (search and_r) (search and_r)))

mentions-left : (p r : List ℕ) (v : ℕ) → mentions p v ≡ true → mentions (p ++ r) v ≡ true
unfolding mentions
mentions-left p r v h = any_append (is_var v) p r ∙ or-il _ _ h

mentions-right : (p r : List ℕ) (v : ℕ) → mentions r v ≡ true → mentions (p ++ r) v ≡ true
unfolding mentions
mentions-right p r v h = any_append (is_var v) p r ∙ or-ir (any_of (is_var v) p) _ h

bound-left : (p r : List ℕ) (cs : List (List ℕ)) → all_of (bound p) cs ≡ true → all_of (bound (p ++ r)) cs ≡ true
unfolding bound
bound-left p r cs h = all-le (bound p) _ cs (λ c. all-le _ _ c (λ l. mentions-left p r (var l))) h

var-rename : (es fs : List ℕ) (l : ℕ) → var (rename_lit es fs l) ≡ rename_var es fs (var l)
unfolding rename_lit
var-rename es fs l = go (odd l)
  where
    go : (s : Bool) → var (cond s (negated (rename_var es fs (var l))) (plain (rename_var es fs (var l)))) ≡ rename_var es fs (var l)
    go true = var-of-negated (rename_var es fs (var l))
    go false = var-of-plain (rename_var es fs (var l))

rename-one : (p es fs : List ℕ) → Copies es fs → (l : ℕ) → mentions p (var l) ≡ true → mentions (p ++ map plain fs) (var (rename_lit es fs l)) ≡ true
rename-one p es fs k l h =
    ap (mentions (p ++ map plain fs)) (var-rename es fs l) ∙ by_cases (mentions es (var l))
    (λ i. mentions-right p (map plain fs) (rename_var es fs (var l)) (copies-mention fs (rename_var es fs (var l)) ∙ rename-in es fs k (var l) i))
    (λ i. ap (mentions (p ++ map plain fs)) (rename-out es fs (var l) i) ∙ mentions-left p (map plain fs) (var l) h)

renamed-bound : (p es fs : List ℕ) → Copies es fs → (cs : List (List ℕ)) → all_of (bound p) cs ≡ true
    → all_of (bound (p ++ map plain fs)) (map (map (rename_lit es fs)) cs) ≡ true
unfolding bound
renamed-bound p es fs k cs h = all_map _ _ cs ∙ all-le (bound p) _ cs (λ c b. all_map _ _ c ∙ all-le _ _ c (rename-one p es fs k) b) h

with-ok : (φ : Formula) (w : well_formed φ ≡ true) (a : ℕ) (at : Place φ.prefix a) (od : odd at.entry ≡ true)
    → RawOk (expand_with φ a (es φ w a at od) (fs φ w a at od))
unfolding expand_with others touching
with-ok φ w a at od = (
  good-append p new (good-drop a _ (good_of φ w)) (good-copies ys (fresh-once φ.prefix (length xs)) (fresh-above φ.prefix (length xs)))
      (all-of-has _ p (λ q h. ap not (copies-mention ys (var q) ∙ false_of _ (λ i. clash (in-prefix q h) (fs-out φ w a at od (var q) i))))),
  all_append _ rest _ ∙ and_i _ _ (bound-left p new rest rest-bound) (all_append _ _ _
      ∙ and_i _ _ (bound-left p new _ (side (negated a) (var-of-negated a)))
      (renamed-bound p xs ys (copies-ok φ w a at od) _ (side (plain a) (var-of-plain a)))),
)
  where
    p : List ℕ
    p = drop_var a φ.prefix

    xs : List ℕ
    xs = es φ w a at od

    ys : List ℕ
    ys = fs φ w a at od

    new : List ℕ
    new = copies φ w a at od

    ts : List (List ℕ)
    ts = keep_if (λ c. any_exist xs c) φ.clauses

    rest : List (List ℕ)
    rest = keep_if (λ c. not (any_exist xs c)) φ.clauses

    in-prefix : (q : ℕ) → has q p ≡ true → mentions φ.prefix (var q) ≡ true
    in-prefix q h = unfold mentions is_var in any-has _ _ q (unfold has drop_var in any-keep-le _ _ _ h) (eqb-self (var q))

    side : (l : ℕ) → var l ≡ a → all_of (bound p) (assign l ts) ≡ true
    side l e = rw e at (assign-ok _ l ts (all-keep-le _ _ _ (bound_all φ w)))

    -- a clause that is not copied does not mention u
    rest-bound : all_of (bound p) rest ≡ true
    rest-bound = keep-bound φ w a (λ c. any_exist xs c) (with-u φ w a at od)

pub expand-ok : (φ : Formula) → well_formed φ ≡ true → (a : ℕ) → expand_permitted φ a ≡ true → RawOk (expand_raw φ a)
unfolding expand_raw inner
expand-ok φ w a h =
    let k : (at : Place φ.prefix a) × (odd at.entry ≡ true) = forall-place φ w a (expand-says φ a h).forall in
    rw k.0.behind (with-ok φ w a k.0 k.1)
