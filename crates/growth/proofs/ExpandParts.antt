-- The raw clauses of step 7 together: each keeps all its literals, and no two have the same.
-- Assumes nothing.
use mathlib.Core.Path.{◌≡◌, refl, sym, ◌∙◌, ap}
use Prim.Native.Nat.{ℕ}
use mathlib.Core.Bool.{Bool, true, false, ◌&&◌, ◌||◌, not, cond}
use mathlib.Core.List.{List, [], ◌∷◌, ◌++◌, map}
use lib.Dec.{eqb}
use Rattle.meaning.specs.Lists.{all_of, any_of, keep_if, has, without, part_of}
use Rattle.meaning.specs.Formula.{var, plain, negated, opposite, is_var, drop_var, any_exist}
use Rattle.meaning.specs.WellFormed.{bound, reduced, tidy_clause}
use Rattle.rules.specs.Simplify.{without_lit, assign}
use Rattle.rules.specs.Eliminate.{rename_lit, touching, others}
use Rattle.meaning.proofs.Basics.{by_cases, clash, false_of, iff, and_l, and_r, and_i, or_l, or_r, or-il, or-ir, eqb-true, eqb-eq}
use Rattle.meaning.proofs.Lists.{all_map, all_keep, all-keep-le, all-le, all_append, any-keep-le, has-keep}
use Rattle.meaning.proofs.Literals.{var-opp, var-of-plain, var-of-negated}
use Rattle.meaning.proofs.Prefix.{drop-none}
use Rattle.meaning.proofs.Parts.{ascends-of, bound_of}
use Rattle.rules.proofs.Assign.{other-lit}
use Rattle.rules.proofs.Expand.{bound-not}
use Rattle.growth.proofs.ExpandLists.{no_two, no-two-keep, no-two-le, no-two-map, no-two-apart, alike, part-of, part-has, each_once, ascends-once, once-keep}
use Rattle.growth.proofs.ExpandCopies.{rename-once, rename-alike, copy_seen}
use Rattle.growth.proofs.ExpandClauses.{Expands, new_prefix, drop-reduced, copy-reduced, exist-drop, exist-neither, exist-left, exist-right, exist-part, exist-none}

-- one is a part of the other
unfoldable pub nested : List ℕ → List ℕ → Bool
nested c d = part_of c d || part_of d c

alike-nested : (c d : List ℕ) → alike c d ≡ true → nested c d ≡ true
unfolding alike nested
alike-nested c d h = or-il (part_of c d) (part_of d c) (search and_l)

-- Clauses when a literal becomes true ----------------------------------------------------------------------------------
-- without the opposite of a literal that it lacks, a clause is without the variable
without-drop : (l : ℕ) (c : List ℕ) → has l c ≡ false → without (opposite l) c ≡ drop_var (var l) c
unfolding without drop_var keep_if has any_of is_var
without-drop l [] h = refl
without-drop l (k ∷ c) h =
    rw same (ap (λ (r : List ℕ). cond (not (eqb (var k) (var l))) (k ∷ r) r) (without-drop l c (or_r (eqb l k) _ h)))
  where
    same : eqb (opposite l) k ≡ eqb (var k) (var l)
    same =
        iff (eqb (opposite l) k) (eqb (var k) (var l))
        (λ e. eqb-eq (sym (ap var (eqb-true (opposite l) k e)) ∙ var-opp l))
        (λ e. eqb-eq (sym (other-lit l k (eqb-true (var k) (var l) e) (or_l (eqb l k) (has l c) h))))

pub assign-all : (f g : List ℕ → Bool) (l : ℕ) → ((c : List ℕ) → g c ≡ true → f (drop_var (var l) c) ≡ true)
    → (cs : List (List ℕ)) → all_of g cs ≡ true → all_of f (assign l cs) ≡ true
unfolding assign without_lit
assign-all f g l h cs a =
    all_map f (without (opposite l)) _ ∙ (all_keep _ (λ c. not (has l c)) cs
    ∙ all-le g _ cs (λ c i. by_cases (has l c) (λ e. rw e) (λ e. rw (e, without-drop l c e) (h c i))) a)

-- two clauses that differ by one literal at most are nested
without-part : (k : ℕ) (c d : List ℕ) → (has k c ≡ true → has k d ≡ true) → part_of (without k c) (without k d) ≡ true → part_of c d ≡ true
without-part k c d h n =
    part-of c d (λ l i. by_cases (eqb k l)
    (λ e. rw (eqb-true k l e) at (h (rw (← eqb-true k l e) at i)))
    (λ e. unfold without has in any-keep-le _ _ d (part-has _ _ n l (has-keep (λ y. not (eqb k y)) c l i (ap not e)))))

without-alike : (k : ℕ) (c d : List ℕ) → alike (without k c) (without k d) ≡ true → nested c d ≡ true
unfolding alike nested
without-alike k c d h =
    by_cases (has k d)
    (λ e. or-il _ _ (without-part k c d (λ i. e) (search and_l)))
    (λ e. or-ir (part_of c d) _ (without-part k d c (λ i. clash i e) (search and_r)))

pub no-two-assign : (f : List ℕ → Bool) (l : ℕ) (cs : List (List ℕ)) → all_of f cs ≡ true → no_two nested cs ≡ true → no_two alike (assign l cs) ≡ true
unfolding assign without_lit
no-two-assign f l cs a n =
    no-two-map nested alike (without (opposite l)) f (λ c d i j. without-alike (opposite l) c d) _ (all-keep-le f _ cs a) (no-two-keep nested _ cs n)

-- The three parts --------------------------------------------------------------------------------------------------------
module _ (p : List ℕ) (a : ℕ) (es fs : List ℕ) (x : Expands p a es fs) (cs : List (List ℕ)) (tidy : all_of (tidy_clause p) cs ≡ true) where
  -- a clause of f: tidy, with one of the existentials
  abbrev in_f : List ℕ → Bool
  in_f c = tidy_clause p c && any_exist es c

  -- it keeps its literals over the new prefix
  abbrev sound : List ℕ → Bool
  sound c = each_once c && reduced (new_prefix p a es fs x) c

  abbrev side_false : List (List ℕ)
  side_false = assign (negated a) (touching es cs)

  abbrev side_true : List (List ℕ)
  side_true = assign (plain a) (touching es cs)

  abbrev renamed : List ℕ → List ℕ
  renamed = map (rename_lit es fs)

  all-touching : all_of in_f (touching es cs) ≡ true
  unfolding touching
  all-touching = all_keep _ _ cs ∙ all-le (tidy_clause p) _ cs (λ c t. by_cases (any_exist es c) (λ e. rw (e, t)) (λ e. rw e)) tidy

  -- of the other clauses
  all_others : (f : List ℕ → Bool) → ((c : List ℕ) → tidy_clause p c ≡ true → any_exist es c ≡ false → f c ≡ true) → all_of f (others es cs) ≡ true
  unfolding others
  all_others f h = all_keep f _ cs ∙ all-le (tidy_clause p) _ cs (λ c t. by_cases (any_exist es c) (λ e. rw e) (λ e. rw e (h c t e))) tidy

  -- of a side: f without a
  all-side : (f : List ℕ → Bool) → ((c : List ℕ) → tidy_clause p c ≡ true → any_exist es c ≡ true → f (drop_var a c) ≡ true)
      → (l : ℕ) → var l ≡ a → all_of f (assign l (touching es cs)) ≡ true
  all-side f h l e = assign-all f in_f l (λ c i. rw e (h c (search and_l) (search and_r))) (touching es cs) all-touching

  -- Each keeps all its literals
  drop-once : (c : List ℕ) → tidy_clause p c ≡ true → each_once (drop_var a c) ≡ true
  unfolding drop_var
  drop-once c t = once-keep _ c (ascends-once c (ascends-of p c t))

  drop-bound : (c : List ℕ) → tidy_clause p c ≡ true → bound p (drop_var a c) ≡ true
  unfolding drop_var bound
  drop-bound c t = all-keep-le _ _ c (unfold bound in bound_of p c t)

  drop-copy : (c : List ℕ) → any_exist es c ≡ true → any_exist (map plain fs) (renamed (drop_var a c)) ≡ true
  drop-copy c e = copy_seen es fs x.copies _ (exist-drop a es c x.apart e)

  sound-others : all_of sound (others es cs) ≡ true
  sound-others =
      all_others sound (λ c t e. and_i _ _ (ascends-once c (ascends-of p c t))
      (rw (drop-none a c (false_of _ (λ m. clash (x.touched c t m) e))) at (drop-reduced p a es fs x c t)))

  sound-false : all_of sound side_false ≡ true
  sound-false = all-side sound (λ c t e. and_i _ _ (drop-once c t) (drop-reduced p a es fs x c t)) (negated a) (var-of-negated a)

  sound-true : all_of sound (map renamed side_true) ≡ true
  sound-true =
      all_map sound renamed side_true
      ∙ all-side (λ c. sound (renamed c)) (λ c t e. and_i _ _
      (rename-once p es fs x.copies x.new _ (drop-bound c t) (drop-once c t))
      (copy-reduced p a es fs x _ (drop-copy c e))) (plain a) (var-of-plain a)

  pub sound-all : all_of sound (others es cs ++ (side_false ++ map renamed side_true)) ≡ true
  sound-all = all_append sound (others es cs) _ ∙ and_i _ _ sound-others (all_append sound side_false _ ∙ and_i _ _ sound-false sound-true)

  -- No two have the same literals
  module _ (n : no_two nested cs ≡ true) where
    -- a clause over the old prefix has no copy
    no_copy : (c : List ℕ) → bound p c ≡ true → any_exist (map plain fs) c ≡ false
    no_copy c b = exist-none fs c (λ v h. bound-not p c b v (x.new v h))

    apart-others : no_two alike (others es cs) ≡ true
    unfolding others
    apart-others = no-two-le nested alike alike-nested _ (no-two-keep nested _ cs n)

    apart-side : (l : ℕ) → no_two alike (assign l (touching es cs)) ≡ true
    unfolding touching
    apart-side l = no-two-assign (tidy_clause p) l _ (all-keep-le _ _ cs tidy) (no-two-keep nested _ cs n)

    apart-copies : no_two alike (map renamed side_true) ≡ true
    apart-copies =
        no-two-map alike alike renamed (bound p) (rename-alike p es fs x.copies x.new) side_true
        (all-side (bound p) (λ c t e. drop-bound c t) (plain a) (var-of-plain a)) (apart-side (plain a))

    -- told apart by an existential
    by-exist : (s : List ℕ) (c d : List ℕ) → alike c d ≡ true → any_exist s d ≡ true → any_exist s c ≡ true
    by-exist s c d h e = exist-part s d c (unfold alike in search and_r) e

    apart-sides : no_two alike (side_false ++ map renamed side_true) ≡ true
    apart-sides =
        no-two-apart alike (any_exist (map plain fs)) (by-exist (map plain fs)) side_false (map renamed side_true)
        (all-side (λ c. not (any_exist (map plain fs) c)) (λ c t e. ap not (no_copy _ (drop-bound c t))) (negated a) (var-of-negated a))
        (all_map _ renamed side_true ∙ all-side (λ c. any_exist (map plain fs) (renamed c)) (λ c t e. drop-copy c e) (plain a) (var-of-plain a))
        (apart-side (negated a)) apart-copies

    pub apart-all : no_two alike (others es cs ++ (side_false ++ map renamed side_true)) ≡ true
    apart-all =
        no-two-apart alike (any_exist seen) (by-exist seen) (others es cs) (side_false ++ map renamed side_true)
        (all_others (λ c. not (any_exist seen c)) (λ c t e. ap not (exist-neither es (map plain fs) c e (no_copy c (bound_of p c t)))))
        (all_append (any_exist seen) side_false _
        ∙ and_i _ _ (all-side (any_exist seen) (λ c t e. exist-left es _ _ (exist-drop a es c x.apart e)) (negated a) (var-of-negated a))
        (all_map (any_exist seen) renamed side_true
        ∙ all-side (λ c. any_exist seen (renamed c)) (λ c t e. exist-right es _ _ (drop-copy c e)) (plain a) (var-of-plain a)))
        apart-others apart-sides
      where
        seen : List ℕ
        seen = es ++ map plain fs
