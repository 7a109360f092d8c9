-- Copies are told apart: to rename loses nothing of clauses over the old prefix.
-- Assumes nothing.
use mathlib.Core.Path.{◌≡◌, refl, sym, ◌∙◌, ap}
use Prim.Native.Nat.{ℕ}
use mathlib.Core.Bool.{Bool, true, false, ◌&&◌, not, cond, false≢true}
use mathlib.Core.List.{List, [], ◌∷◌, map}
use lib.Dec.{eqb}
use Rattle.meaning.specs.Lists.{all_of, any_of, has, part_of}
use Rattle.meaning.specs.Formula.{var, odd, plain, negated, is_var, mentions, any_exist}
use Rattle.meaning.specs.WellFormed.{bound}
use Rattle.rules.specs.Eliminate.{rename_var, rename_lit}
use Rattle.meaning.proofs.Basics.{by_cases, clash, false_of, and_l, and_r, and_i, not-true, eqb-true}
use Rattle.meaning.proofs.Lists.{any-has, all-has, any-witness}
use Rattle.meaning.proofs.Literals.{lit-path, var-of-plain, odd-of-plain, var-of-negated, odd-of-negated}
use Rattle.rules.proofs.Rename.{Copies, rename-in, rename-out}
use Rattle.growth.proofs.ExpandLists.{each_once, alike, part-of, part-has, mentions-has, mentions-from, map-has, map-from}

-- The variable and the phase of a renamed literal ----------------------------------------------------------------------
module _ (es fs : List ℕ) (l : ℕ) where
  pub var-rename : var (rename_lit es fs l) ≡ rename_var es fs (var l)
  unfolding rename_lit
  var-rename = go (odd l)
    where
      go : (s : Bool) → var (cond s (negated (rename_var es fs (var l))) (plain (rename_var es fs (var l)))) ≡ rename_var es fs (var l)
      go true = var-of-negated (rename_var es fs (var l))
      go false = var-of-plain (rename_var es fs (var l))

  odd-rename : odd (rename_lit es fs l) ≡ odd l
  unfolding rename_lit
  odd-rename = go (odd l)
    where
      go : (s : Bool) → odd (cond s (negated (rename_var es fs (var l))) (plain (rename_var es fs (var l)))) ≡ s
      go true = odd-of-negated (rename_var es fs (var l))
      go false = odd-of-plain (rename_var es fs (var l))

-- two existentials have two copies
inner-apart : (es fs : List ℕ) → Copies es fs → (v w : ℕ) → mentions es v ≡ true → mentions es w ≡ true
    → rename_var es fs v ≡ rename_var es fs w → v ≡ w
unfolding rename_var mentions any_of is_var
inner-apart [] [] k v w m n e = absurd (false≢true m)
inner-apart [] (f ∷ fs) k v w m n e = absurd k
inner-apart (x ∷ es) [] k v w m n e = absurd k
inner-apart (x ∷ es) (f ∷ fs) k v w m n e =
    by_cases (eqb (var x) v)
    (λ i. by_cases (eqb (var x) w)
    (λ j. sym (eqb-true _ v i) ∙ eqb-true _ w j)
    (λ j. let z : f ≡ rename_var es fs w = rw (i, j) at e in clash (rw (← z) at (rename-in es fs k.4 w (rw j at n))) k.2))
    (λ i. by_cases (eqb (var x) w)
    (λ j. let z : rename_var es fs v ≡ f = rw (i, j) at e in clash (rw z at (rename-in es fs k.4 v (rw i at m))) k.2)
    (λ j. inner-apart es fs k.4 v w (rw i at m) (rw j at n) (rw (i, j) at e)))

-- Over a prefix that mentions no copy -----------------------------------------------------------------------------------
module _ (p es fs : List ℕ) (k : Copies es fs) (new : (v : ℕ) → has v fs ≡ true → mentions p v ≡ false) where
  -- a renamed variable of the prefix is a copy exactly if the variable is one of the existentials
  not-copy : (v w : ℕ) → mentions p w ≡ true → mentions es v ≡ true → mentions es w ≡ false → rename_var es fs v ≡ rename_var es fs w → v ≡ w
  not-copy v w n m o e = clash n (new w (rw (e, rename-out es fs w o) at (rename-in es fs k v m)))

  rename-apart : (v w : ℕ) → mentions p v ≡ true → mentions p w ≡ true → rename_var es fs v ≡ rename_var es fs w → v ≡ w
  rename-apart v w m n e =
      by_cases (mentions es v)
      (λ i. by_cases (mentions es w) (λ j. inner-apart es fs k v w i j e) (λ j. not-copy v w n i j e))
      (λ i. by_cases (mentions es w) (λ j. sym (not-copy w v m j i (sym e))) (λ j. sym (rename-out es fs v i) ∙ e ∙ rename-out es fs w j))

  lit-apart : (l m : ℕ) → mentions p (var l) ≡ true → mentions p (var m) ≡ true → rename_lit es fs l ≡ rename_lit es fs m → l ≡ m
  lit-apart l m i j e =
      lit-path l m
      (rename-apart (var l) (var m) i j (sym (var-rename es fs l) ∙ ap var e ∙ var-rename es fs m))
      (sym (odd-rename es fs l) ∙ ap odd e ∙ odd-rename es fs m)

  -- renamed clauses are parts of each other only if the clauses are
  rename-part : (c d : List ℕ) → bound p c ≡ true → bound p d ≡ true
      → part_of (map (rename_lit es fs) c) (map (rename_lit es fs) d) ≡ true → part_of c d ≡ true
  unfolding bound
  rename-part c d b e h =
      part-of c d (λ l i.
      let w : (m : ℕ) × (has m d ≡ true) × (rename_lit es fs l ≡ rename_lit es fs m) = map-from _ d _ (part-has _ _ h _ (map-has _ c l i)) in
      rw (lit-apart l w.0 (all-has _ c l b i) (all-has _ d w.0 e w.1) w.2) w.1)

  pub rename-alike : (c d : List ℕ) → bound p c ≡ true → bound p d ≡ true
      → alike (map (rename_lit es fs) c) (map (rename_lit es fs) d) ≡ true → alike c d ≡ true
  unfolding alike
  rename-alike c d b e h = and_i _ _ (rename-part c d b e (search and_l)) (rename-part d c e b (search and_r))

  -- each variable stands once as before
  pub rename-once : (c : List ℕ) → bound p c ≡ true → each_once c ≡ true → each_once (map (rename_lit es fs) c) ≡ true
  unfolding each_once bound all_of
  rename-once [] b h = refl
  rename-once (l ∷ c) b h =
      and_i _ _ (ap not (false_of _ (λ m. clash (found m) (search (and_l, not-true))))) (rename-once c (search and_r) (search and_r))
    where
      found : mentions (map (rename_lit es fs) c) (var (rename_lit es fs l)) ≡ true → mentions c (var l) ≡ true
      found m =
          let w : (y : ℕ) × (has y (map (rename_lit es fs) c) ≡ true) × (var y ≡ var (rename_lit es fs l)) = mentions-from _ _ m in
          let x : (k : ℕ) × (has k c ≡ true) × (w.0 ≡ rename_lit es fs k) = map-from _ c _ w.1 in
          let e : var l ≡ var x.0 = rename-apart _ _ (and_l (mentions p (var l)) _ b) (all-has _ c x.0 (and_r (mentions p (var l)) _ b) x.1)
          (sym (var-rename es fs l) ∙ sym w.2 ∙ ap var x.2 ∙ var-rename es fs x.0) in
          rw e (mentions-has c x.0 x.1)

-- a clause with one of the existentials has one of the copies
pub copy_seen : (es fs : List ℕ) → Copies es fs → (c : List ℕ) → any_exist es c ≡ true → any_exist (map plain fs) (map (rename_lit es fs) c) ≡ true
unfolding any_exist
copy_seen es fs k c h =
    let e : (q : ℕ) × (has q es ≡ true) × ((not (odd q) && mentions c (var q)) ≡ true) = any-witness _ es h in
    let w : (l : ℕ) × (has l c ≡ true) × (var l ≡ var e.0) = mentions-from c _ (and_r (not (odd e.0)) _ e.2) in
    let f : has (rename_var es fs (var w.0)) fs ≡ true = rename-in es fs k (var w.0) (rw w.2 (mentions-has es e.0 e.1)) in
    let x : var (plain (rename_var es fs (var w.0))) ≡ var (rename_lit es fs w.0) = var-of-plain _ ∙ sym (var-rename es fs w.0) in
    any-has _ _ (plain (rename_var es fs (var w.0))) (map-has plain fs _ f)
    (and_i _ _ (ap not (odd-of-plain _)) (rw x (mentions-has _ _ (map-has (rename_lit es fs) c w.0 w.1))))
