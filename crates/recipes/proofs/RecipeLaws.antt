-- Laws of recipes: one clause, one literal.
-- Assumes nothing.
use Prim.Native.Nat.{ℕ, suc, ◌+◌, ◌-◌, ◌*◌, ◌/◌, ◌%◌, ◌≤◌, ◌<◌}
use mathlib.Core.Path.{◌≡◌, refl, ap, ◌∙◌}
use mathlib.Core.Bool.{Bool, true, false, ◌&&◌, ◌||◌, not, cond}
use mathlib.Core.List.{List, [], ◌∷◌, ◌++◌, append-nil, append_assoc}
use lib.ListN.{length, get_or, take}
use lib.Seq.{take-suc, take_all}
use lib.Dec.{leb, ltb}
use borrow.Author.Tests.{eq-eqb, ne_eqb, lt-ltb, le-ltb}
use native.Mathlib.Omega.{arith}
use native.Mathlib.Numerals.{add-one}
use Rattle.meaning.specs.Lists.{all_of, any_of}
use Rattle.meaning.specs.Formula.{var, opposite, is_var}
use Rattle.rules.specs.Simplify.{replace_lit}
use Rattle.table.specs.Ranks.{good_entries}
use Rattle.table.specs.Pending.{in_range, Pends}
use Rattle.std.specs.Prelude.{Option}
use Rattle.permits.specs.Places.{place_from, place_of, within}
use Rattle.meaning.specs.WellFormed.{good_prefix}
use Rattle.recipes.specs.Recipe.{Ready, reaches, less, copy_of, copied, turned, some_of, fed}
use Rattle.recipes.specs.declared.Turn.{Turn}
use Rattle.permits.proofs.SideLaws.{not_behind}
use Rattle.table.proofs.RankLaws.{length-ranks}
use Rattle.table.proofs.PendingLaws.{range-is, range-bounds}
use Rattle.meaning.proofs.Basics.{false_of, and_l, and_r}
use Rattle.meaning.proofs.Prefix.{prefix-few}

pub ready-length : {q ranks : List ℕ} → Ready q ranks → length ranks ≡ 1024
ready-length {q} {ranks} r = ap length r.ranked ∙ length-ranks q

place-le : (k : ℕ) (q : List ℕ) (v : ℕ) → place_from (suc k) q v ≤ k + length q
unfolding place_from
place-le k [] v = omega arith
place-le k (e ∷ q) v = go (is_var v e) (place-le (suc k) q v)
  where
    go : (b : Bool) → place_from (suc (suc k)) q v ≤ suc k + length q → cond b (suc k) (place_from (suc (suc k)) q v) ≤ k + length (e ∷ q)
    go true h = omega arith
    go false h = omega arith

pub place-small : {q ranks : List ℕ} → Ready q ranks → (v m : ℕ) → m ≡ place_of q v → m ≤ 1023
unfolding place_of good_entries
place-small {q} {ranks} r v m e =
    omega (arith, place-le 0 q v, prefix-few 1023 q (and_l (good_prefix q) (all_of (λ x. leb (var x) 1023) q) r.good) (and_r (good_prefix q) (all_of (λ x. leb (var x) 1023) q) r.good))

-- A clause reaches behind a place exactly if it is not within it -----------------------------------------------
pub reaches-not : (q : List ℕ) (n : ℕ) (c : List ℕ) → not (within q n c) ≡ reaches q n c
unfolding within reaches all_of any_of
reaches-not q n [] = refl
reaches-not q n (l ∷ c) = rw (not_behind n (place_of q (var l))) at (go (ltb n (place_of q (var l))) (reaches-not q n c))
  where
    go : (b : Bool) → not (within q n c) ≡ reaches q n c → not (not b && within q n c) ≡ (b || reaches q n c)
    go true ih = refl
    go false ih = ih

-- Which clauses -------------------------------------------------------------------------------------------------
pub far-both : (a b h k : Bool) → h ≡ a → h ≡ true → k ≡ b → not k ≡ (a && not b)
far-both a b h k e t d = rw (← e, t, ← d)

pub far-near : (a b h : Bool) → h ≡ a → h ≡ false → false ≡ (a && b)
far-near a b h e t = rw (← e, t)

-- One literal ---------------------------------------------------------------------------------------------------
pub less-same : (l k : ℕ) → k ≡ l → 0 ≡ less l k
unfolding less
less-same l k e = rw (eq-eqb k l e)

pub less_other : (l k : ℕ) → (k ≡ l → ⊥) → k ≡ less l k
unfolding less
less_other l k e = rw (ne_eqb k l e)

pub replace-old : (l m k : ℕ) → k ≡ l → m ≡ replace_lit l m k
unfolding replace_lit
replace-old l m k e = rw (eq-eqb k l e)

pub replace-opposite : (l m k o u : ℕ) → (k ≡ l → ⊥) → o ≡ opposite l → k ≡ o → u ≡ opposite m → u ≡ replace_lit l m k
unfolding replace_lit
replace-opposite l m k o u d p e q = rw (ne_eqb k l d, ← p, eq-eqb k o e) q

pub replace-other : (l m k o : ℕ) → (k ≡ l → ⊥) → o ≡ opposite l → (k ≡ o → ⊥) → k ≡ replace_lit l m k
unfolding replace_lit
replace-other l m k o d p e = rw (ne_eqb k l d, ← p, ne_eqb k o e)

module _ (q : List ℕ) (s n k m : ℕ) (at : m ≡ place_of q (k / 2)) where
  pub copied-far : s < m → (e : ℕ) → e ≡ get_or q (m - 1 + n) 0 → 2 * (e / 2) + k % 2 ≡ copied q s n k
  unfolding copied copy_of var
  copied-far h e p = rw (← at, lt-ltb s m h, ← p)

  pub copied-near : m ≤ s → k ≡ copied q s n k
  unfolding copied var
  copied-near h = rw (← at, le-ltb s m h)

-- Some literal --------------------------------------------------------------------------------------------------
pub some-low : (raw s : List ℕ) (p : Option ℕ) (l : ℕ) → l < 2 → Pends raw s p → Pends (raw ++ some_of l) s p
unfolding some_of
some-low raw s p l h k =
    rw (false_of (in_range l) (λ t. let b = range-bounds l t in omega arith), append-nil raw) k

pub some-high : (raw s : List ℕ) (p : Option ℕ) (l : ℕ) → 2047 < l → Pends raw s p → Pends (raw ++ some_of l) s p
unfolding some_of
some-high raw s p l h k =
    rw (false_of (in_range l) (λ t. let b = range-bounds l t in omega arith), append-nil raw) k

pub some_is : (raw s : List ℕ) (p : Option ℕ) (l : ℕ) → 2 ≤ l → l < 2048 → Pends (raw ++ (l ∷ [])) s p → Pends (raw ++ some_of l) s p
unfolding some_of
some_is raw s p l a b k = rw (range-is l a b) k

-- A whole clause ------------------------------------------------------------------------------------------------
fed-snoc : (t : Turn) (q : List ℕ) (i : ℕ) (c : List ℕ) (k : ℕ) → fed t q i (c ++ (k ∷ [])) ≡ fed t q i c ++ some_of (turned t q i k)
unfolding fed
fed-snoc t q i [] k = append-nil (some_of (turned t q i k))
fed-snoc t q i (x ∷ c) k = rw (fed-snoc t q i c k, append_assoc)

pub feed-start : (t : Turn) (q : List ℕ) (i : ℕ) (c raw s : List ℕ) (p : Option ℕ) → Pends raw s p → Pends (raw ++ fed t q i (take 0 c)) s p
unfolding fed
feed-start t q i c raw s p h = rw (append-nil raw) h

pub feed-turn : (t : Turn) (q : List ℕ) (i : ℕ) (c : List ℕ) (j : ℕ) → j < length c → (k : ℕ) → k ≡ turned t q i (get_or c j 0) → (raw s : List ℕ) (p : Option ℕ) → Pends ((raw ++ fed t q i (take j c)) ++ some_of k) s p → Pends (raw ++ fed t q i (take (j + 1) c)) s p
feed-turn t q i c j h k e raw s p d =
    rw (add-one, take-suc c j 0 h, fed-snoc, ← e, ← append_assoc) d

pub feed-end : (t : Turn) (q : List ℕ) (i : ℕ) (c : List ℕ) (j : ℕ) → length c ≤ j → (raw s : List ℕ) (p : Option ℕ) → Pends (raw ++ fed t q i (take j c)) s p → Pends (raw ++ fed t q i c) s p
feed-end t q i c j h raw s p d = rw (take_all j c h) at d
