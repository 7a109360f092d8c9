-- The clauses of step 7: what the recipes make of them is what document 01 says.
-- Assumes nothing.
use Prim.Native.Nat.{ℕ, ◌+◌, ◌*◌, ◌%◌}
use mathlib.Core.Path.{◌≡◌, refl, sym, ap, ◌∙◌}
use mathlib.Core.Bool.{Bool, true, false, ◌&&◌, not, cond}
use mathlib.Core.List.{List, [], ◌∷◌, ◌++◌, map, map-map, append_assoc}
use lib.Dec.{eqb, leb}
use lib.ListN.{length, length-append}
use native.Mathlib.Omega.{arith}
use Rattle.meaning.specs.Lists.{all_of, keep_if, has, without}
use Rattle.meaning.specs.Formula.{var, odd, plain, negated, is_var, mentions, drop_var, any_exist}
use Rattle.meaning.specs.WellFormed.{good_prefix, bound, max_variables}
use Rattle.rules.specs.Simplify.{without_lit, assign}
use Rattle.rules.specs.Eliminate.{all_exist, inner, fresh, rename_var, rename_lit, touching, others}
use Rattle.table.specs.Pending.{in_range}
use Rattle.recipes.specs.Recipe.{taken, reaches, copied, turned, some_of, fed, raws_by}
use Rattle.expanding.specs.Copies.{halves_by, expanded_by}
use Rattle.recipes.specs.declared.Which.TheVariants.{Near, Far}
use Rattle.recipes.specs.declared.Turn.TheVariants.{Same, Drop, Copy}
use Rattle.meaning.proofs.Basics.{by_cases, and_l, and_r, eqb-sym}
use Rattle.meaning.proofs.Lists.{all-kept, all-le}
use Rattle.meaning.proofs.Literals.{opp-plain, opp-negated}
use Rattle.meaning.proofs.Prefix.{mentioned-all}
use Rattle.rules.proofs.Fresh.{fresh-length}
use Rattle.recipes.proofs.FedLaws.{map_same, bound-range, fed-keep, raws-keep}
use Rattle.recipes.proofs.TurnLaws.{some-zero, some_in, fed-same, fed-drop}
use Rattle.expanding.proofs.ExpandPlaces.{rename-is, reaches-is, copied_is}
use Rattle.expanding.proofs.ExpandPrefix.{Split, no_copy, good_new}

-- two selections, one after the other
keep-both : {A : Type 0} (f g : A → Bool) (xs : List A) → keep_if f (keep_if g xs) ≡ keep_if (λ x. g x && f x) xs
unfolding keep_if
keep-both f g [] = refl
keep-both {A} f g (x ∷ xs) = go (g x) (keep-both f g xs)
  where
    both : List A
    both = keep_if (λ y. g y && f y) xs

    go : (b : Bool) → keep_if f (keep_if g xs) ≡ both → keep_if f (cond b (x ∷ keep_if g xs) (keep_if g xs)) ≡ cond (b && f x) (x ∷ both) both
    go true ih = rw ih
    go false ih = ih

-- what holds of a variable and of all copies holds of what it is renamed to
rename-all : (f : ℕ → Bool) (es fs : List ℕ) (v : ℕ) → all_of f fs ≡ true → f v ≡ true → f (rename_var es fs v) ≡ true
unfolding rename_var all_of
rename-all f [] fs v a h = h
rename-all f (e ∷ es) [] v a h = h
rename-all f (e ∷ es) (x ∷ fs) v a h = go (is_var v e) (rename-all f es fs v (and_r (f x) (all_of f fs) a) h)
  where
    go : (b : Bool) → f (rename_var es fs v) ≡ true → f (cond b x (rename_var es fs v)) ≡ true
    go true ih = and_l (f x) (all_of f fs) a
    go false ih = ih

var-half : (x l : ℕ) → var (2 * x + l % 2) ≡ x
unfolding var
var-half x l = omega arith

-- The clauses -------------------------------------------------------------------------------------------------------------
module _ (p : List ℕ) (a n s : ℕ) (good : good_prefix p ≡ true) (x : Split p a)
    (many : n ≡ length (inner a p)) (at : s + n ≡ length (drop_var a p)) where
  abbrev es : List ℕ
  es = inner a p

  abbrev fs : List ℕ
  fs = fresh p n

  abbrev new : List ℕ
  new = drop_var a p ++ map plain fs

  seam : new ≡ x.left ++ (es ++ map plain fs)
  seam = rw (x.whole, append_assoc)

  place_is : s ≡ length x.left
  place_is = omega (arith, at, many, length-append x.left (inner a p), ap length x.whole)

  good-seam : good_prefix (x.left ++ (es ++ map plain fs)) ≡ true
  good-seam = ap good_prefix (sym seam) ∙ good_new p a n good

  far-is : (c : List ℕ) → bound p c ≡ true → reaches new s c ≡ any_exist es c
  unfolding bound inner all_exist
  far-is c b =
      ap (λ (q : List ℕ). reaches q s c) seam
      ∙ ap (λ (i : ℕ). reaches (x.left ++ (es ++ map plain fs)) i c) place_is
      ∙ reaches-is x.left es fs good-seam c (all-kept (λ q. not (odd q)) _)
      (all-le (λ l. mentions p (var l)) (λ l. not (has (var l) fs)) c (λ l m. ap not (no_copy p n (var l) m)) b)

  copy_is : (l : ℕ) → mentions p (var l) ≡ true → copied new s n l ≡ rename_lit es fs l
  copy_is l m =
      ap (λ (q : List ℕ). copied q s n l) seam
      ∙ ap (λ (i : ℕ). copied (x.left ++ (es ++ map plain fs)) i n l) place_is
      ∙ copied_is x.left es fs good-seam n many (fresh-length p n ∙ many) l (no_copy p n (var l) m)

  module _ (here : all_of (λ q. in_range q) p ≡ true) (small : all_of (λ v. leb 1 v && leb v max_variables) fs ≡ true) where
    rename-range : (l : ℕ) → mentions p (var l) ≡ true → in_range (rename_lit es fs l) ≡ true
    unfolding in_range
    rename-range l m =
        rw (rename-is es fs l, var-half (rename_var es fs (var l)) l)
        (rename-all (λ v. leb 1 v && leb v max_variables) es fs (var l) small (mentioned-all (λ v. leb 1 v && leb v max_variables) p (var l) here m))

    some-copy : (i l : ℕ) → mentions p (var l) ≡ true
        → some_of (turned (Copy (negated a) s n) new i l) ≡ cond (not (eqb (negated a) l)) (rename_lit es fs l ∷ []) []
    unfolding turned
    some-copy i l m =
        rw (eqb-sym (negated a) l)
        (by_cases (eqb l (negated a)) (λ e. rw e some-zero) (λ e. rw (e, copy_is l m) (some_in (rename_lit es fs l) (rename-range l m))))

    fed-copy : (i : ℕ) (c : List ℕ) → bound p c ≡ true → fed (Copy (negated a) s n) new i c ≡ map (rename_lit es fs) (without (negated a) c)
    unfolding bound without
    fed-copy i c b =
        fed-keep (Copy (negated a) s n) new i (λ l. mentions p (var l)) (λ l. not (eqb (negated a) l)) (rename_lit es fs) c b
        (λ l m. some-copy i l m)

    module _ (cs : List (List ℕ)) (b : all_of (bound p) cs ≡ true) where
      others-are : raws_by (Near s) Same new 0 cs ≡ others es cs
      unfolding taken others
      others-are =
          raws-keep (Near s) Same new (bound p) (λ c. not (any_exist es c)) (λ c. c) 0 cs b (λ i c h. ap not (far-is c h))
          (λ i c h. fed-same new i c (bound-range p c here h))
          ∙ map_same (λ c. c) (λ y. refl) (keep_if (λ c. not (any_exist es c)) cs)

      -- the clauses with an inner existential and without a literal
      touching-without : (l : ℕ) → keep_if (λ c. any_exist es c && not (has l c)) cs ≡ without_lit l (touching es cs)
      unfolding without_lit touching
      touching-without l = sym (keep-both (λ c. not (has l c)) (any_exist es) cs)

      false-are : raws_by (Far s (negated a)) (Drop (plain a)) new 0 cs ≡ assign (negated a) (touching es cs)
      unfolding taken assign
      false-are =
          raws-keep (Far s (negated a)) (Drop (plain a)) new (bound p) (λ c. any_exist es c && not (has (negated a) c))
          (without (plain a)) 0 cs b
          (λ i c h. ap (λ (t : Bool). t && not (has (negated a) c)) (far-is c h))
          (λ i c h. fed-drop (plain a) new i c (bound-range p c here h))
          ∙ rw (touching-without (negated a), opp-negated a)

      true-are : raws_by (Far s (plain a)) (Copy (negated a) s n) new 0 cs ≡ map (map (rename_lit es fs)) (assign (plain a) (touching es cs))
      unfolding taken assign
      true-are =
          raws-keep (Far s (plain a)) (Copy (negated a) s n) new (bound p) (λ c. any_exist es c && not (has (plain a) c))
          (λ c. map (rename_lit es fs) (without (negated a) c)) 0 cs b
          (λ i c h. ap (λ (t : Bool). t && not (has (plain a) c)) (far-is c h))
          (λ i c h. fed-copy i c h)
          ∙ rw (touching-without (plain a), opp-plain a, map-map)

      pub expanded-are : expanded_by a s n new cs
          ≡ others es cs ++ (assign (negated a) (touching es cs) ++ map (map (rename_lit es fs)) (assign (plain a) (touching es cs)))
      unfolding expanded_by halves_by plain negated
      expanded-are = rw (others-are, false-are, true-are)
