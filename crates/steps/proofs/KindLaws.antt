-- What the recipes make of a formula: the raw results of document 01's steps.
-- Assumes nothing.
use Prim.Native.Nat.{ℕ, zero, suc, ◌+◌, ◌<◌}
use mathlib.Core.Path.{◌≡◌, refl, sym, ap, ◌∙◌}
use mathlib.Core.Bool.{true, not}
use mathlib.Core.List.{List, [], ◌∷◌, ◌++◌, map}
use lib.ListN.{get_or}
use borrow.Author.Tests.{eq-eqb, ne_eqb}
use native.Mathlib.Omega.{arith}
use Rattle.meaning.specs.Lists.{all_of, has, without}
use Rattle.meaning.specs.Formula.{Formula, var, opposite, mentions, drop_var}
use Rattle.meaning.specs.WellFormed.{well_formed, fits}
use Rattle.rules.specs.Simplify.{clause_at, without_lit, assign, becomes_true, replace_at, subsume_raw, strengthen_lit, strengthen_raw, replace_lit, replaced}
use Rattle.table.specs.Pending.{in_range}
use Rattle.recipes.specs.Recipe.{taken, raw_by, raws_by, remade}
use Rattle.recipes.specs.declared.Which.{Which}
use Rattle.recipes.specs.declared.Which.TheVariants.{All, But, Without}
use Rattle.recipes.specs.declared.Turn.{Turn}
use Rattle.recipes.specs.declared.Turn.TheVariants.{Same, Drop, DropAt, Replace}
use Rattle.meaning.proofs.Basics.{false_of, and_l, and_r}
use Rattle.meaning.proofs.Lists.{keep_all}
use Rattle.meaning.proofs.Prefix.{mentioned-some, drop-none}
use Rattle.meaning.proofs.Parts.{good_of}
use Rattle.recipes.proofs.FedLaws.{in-range, raws-keep}
use Rattle.recipes.proofs.TurnLaws.{fed-same, fed-drop, fed-there, fed-elsewhere, fed-replace}

-- All clauses ---------------------------------------------------------------------------------------------------------
-- one clause is treated apart
module _ (w : Which) (t : Turn) (q : List ℕ) (n : ℕ) (same : (i : ℕ) (c : List ℕ) → all_of in_range c ≡ true → (i ≡ n → ⊥) → raw_by w t q i c ≡ c ∷ []) where
  raws-past : (i : ℕ) (cs : List (List ℕ)) → all_of (all_of in_range) cs ≡ true → n < i → raws_by w t q i cs ≡ cs
  unfolding raws_by all_of
  raws-past i [] a h = refl
  raws-past i (c ∷ cs) a h =
      rw (same i c (and_l (all_of in_range c) (all_of (all_of in_range) cs) a) (λ e. omega arith), raws-past (suc i) cs (and_r (all_of in_range c) (all_of (all_of in_range) cs) a) (omega arith))

  raws-at : (i b : ℕ) (cs new : List (List ℕ)) → all_of (all_of in_range) cs ≡ true → n ≡ i + b → raw_by w t q n (get_or cs b []) ≡ new → raws_by w t q i cs ≡ replace_at cs b new
  unfolding raws_by all_of replace_at
  raws-at i b [] new a e k = refl
  raws-at i zero (c ∷ cs) new a e k =
      let d : i ≡ n = omega arith in
      ap (λ (x : ℕ). raw_by w t q x c ++ raws_by w t q (suc i) cs) d ∙ rw (k, raws-past (suc i) cs (and_r (all_of in_range c) (all_of (all_of in_range) cs) a) (omega arith))
  raws-at i (suc b) (c ∷ cs) new a e k =
      rw (same i c (and_l (all_of in_range c) (all_of (all_of in_range) cs) a) (λ d. omega arith), raws-at (suc i) b cs new (and_r (all_of in_range c) (all_of (all_of in_range) cs) a) (omega arith) k)

but-raws : (b : ℕ) (q : List ℕ) (cs : List (List ℕ)) → all_of (all_of in_range) cs ≡ true → raws_by (But b) Same q 0 cs ≡ replace_at cs b []
unfolding raw_by taken
but-raws b q cs a =
    raws-at (But b) Same q b (λ i c r e. rw (ne_eqb i b e, fed-same q i c r)) 0 b cs [] a (omega arith) (rw (eq-eqb b b refl))

-- The raw results -------------------------------------------------------------------------------------------------------
pub remade-true : (φ : Formula) (l o : ℕ) → well_formed φ ≡ true → fits φ ≡ true → o ≡ opposite l → remade (Without l) (Drop o) (var l) φ ≡ becomes_true l φ
unfolding remade becomes_true assign without_lit taken
remade-true φ l o w f e =
    rw (e, raws-keep (Without l) (Drop (opposite l)) (drop_var (var l) φ.prefix) (all_of in_range) (λ c. not (has l c)) (without (opposite l)) 0 φ.clauses (in-range φ w f) (λ n c g. refl) (λ n c g. fed-drop (opposite l) (drop_var (var l) φ.prefix) n c g))

-- no variable is 0
drop-zero : (φ : Formula) → well_formed φ ≡ true → drop_var 0 φ.prefix ≡ φ.prefix
drop-zero φ w =
    drop-none 0 φ.prefix (false_of (mentions φ.prefix 0) (λ h. let z = mentioned-some φ.prefix 0 (good_of φ w) h in omega arith))

pub remade-but : (φ : Formula) (b : ℕ) → well_formed φ ≡ true → fits φ ≡ true → remade (But b) Same 0 φ ≡ subsume_raw φ b
unfolding remade subsume_raw
remade-but φ b w f = rw (but-raws b (drop_var 0 φ.prefix) φ.clauses (in-range φ w f), drop-zero φ w)

strip-raws : (b l : ℕ) (q : List ℕ) (cs : List (List ℕ)) → all_of (all_of in_range) cs ≡ true → all_of in_range (clause_at cs b) ≡ true → raws_by All (DropAt b l) q 0 cs ≡ replace_at cs b (without l (clause_at cs b) ∷ [])
unfolding raw_by taken clause_at
strip-raws b l q cs a h =
    raws-at All (DropAt b l) q b (λ i c r e. rw (fed-elsewhere b l q i c r e)) 0 b cs (without l (get_or cs b []) ∷ []) a (omega arith) (rw (fed-there b l q b (get_or cs b []) h refl))

pub range_at : (cs : List (List ℕ)) (b : ℕ) → all_of (all_of in_range) cs ≡ true → all_of in_range (clause_at cs b) ≡ true
unfolding all_of clause_at
range_at [] b a = refl
range_at (c ∷ cs) zero a = and_l (all_of in_range c) (all_of (all_of in_range) cs) a
range_at (c ∷ cs) (suc b) a = range_at cs b (and_r (all_of in_range c) (all_of (all_of in_range) cs) a)

pub remade-strip : (φ : Formula) (a b o : ℕ) → well_formed φ ≡ true → fits φ ≡ true → o ≡ opposite (strengthen_lit φ a b) → remade All (DropAt b o) 0 φ ≡ strengthen_raw φ a b
unfolding remade strengthen_raw
remade-strip φ a b o w f e =
    rw (e, strip-raws b (opposite (strengthen_lit φ a b)) (drop_var 0 φ.prefix) φ.clauses (in-range φ w f) (range_at φ.clauses b (in-range φ w f)), drop-zero φ w)

pub remade-replace : (φ : Formula) (l m : ℕ) → well_formed φ ≡ true → fits φ ≡ true → in_range m ≡ true → remade All (Replace l m) (var l) φ ≡ replaced l m φ
unfolding remade replaced taken
remade-replace φ l m w f n =
    rw (raws-keep All (Replace l m) (drop_var (var l) φ.prefix) (all_of in_range) (all_of in_range) (map (replace_lit l m)) 0 φ.clauses (in-range φ w f) (λ i c g. sym g) (λ i c g. fed-replace l m (drop_var (var l) φ.prefix) i c n g), keep_all (all_of in_range) φ.clauses (in-range φ w f))
