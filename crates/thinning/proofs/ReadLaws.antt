-- What the loops over clauses and literals ask for.
-- Assumes nothing.
use Prim.Native.Nat.{ℕ, ◌+◌, ◌/◌, ◌≤◌, ◌<◌}
use mathlib.Core.Path.{◌≡◌, sym, ap, ◌∙◌}
use mathlib.Core.Bool.{Bool, true, false}
use mathlib.Core.List.{List, [], ◌∷◌, foldl}
use lib.Dec.{leb}
use lib.ListN.{length, get_or, drop, drop_of_length-le}
use lib.Seq.{drop-cons}
use native.Mathlib.Numerals.{add-one}
use native.Mathlib.Omega.{arith}
use borrow.Author.Tests.{leb-true, leb-false}
use Rattle.meaning.specs.Lists.{all_of, keep_if, same}
use Rattle.meaning.specs.Formula.{Formula, var, opposite}
use Rattle.meaning.specs.WellFormed.{bound, well_formed, fits, max_variables}
use Rattle.table.specs.Table.{Holds}
use Rattle.table.specs.Ranks.{small}
use Rattle.table.specs.declared.Counts.{Counts}
use Rattle.meaning.proofs.Basics.{by_cases, eqb-eq, eqb-ne}
use Rattle.meaning.proofs.Literals.{var-opp}
use Rattle.meaning.proofs.Lists.{all-le}
use Rattle.meaning.proofs.Parts.{room_of, bound_all}
use Rattle.meaning.proofs.Prefix.{bound-numbers}
use Rattle.table.proofs.HoldLaws.{count-clauses, holds-bounds}
use Rattle.table.proofs.DecodeLaws.{decode-holds}
use Rattle.table.proofs.LoopLaws.{all_get_d}
use Rattle.table.proofs.StayLaws.{small-below}
use Rattle.thinning.specs.Going.{Readable, NextOf}

-- The clauses of the source -------------------------------------------------------------------------------------------
pub few : {φ : Formula} {t : List ℕ} {c : Counts} → Holds φ t c → length φ.clauses ≤ 2047
few {φ} {t} {c} h = omega (arith, count-clauses h, (holds-bounds h).clauses)

-- the clauses of a well formed formula that passes no limit
small_all : (φ : Formula) → well_formed φ ≡ true → fits φ ≡ true → all_of (all_of small) φ.clauses ≡ true
unfolding small
small_all φ w f =
    all-le (bound φ.prefix) (all_of small) φ.clauses
    (λ c b. bound-numbers (λ v. leb v max_variables) φ.prefix c (room_of φ f).numbers b)
    (bound_all φ w)

module _ {source : List ℕ} {c : Counts} (r : Readable source c) where
  pub read_small : {φ : Formula} → Holds φ source c → all_of (all_of small) φ.clauses ≡ true
  read_small {φ} h = small_all φ (ap well_formed (sym (decode-holds φ source c h)) ∙ r.well) h.fitting

  -- x is clause i
  pub clause-small : (i : ℕ) → i < c.clauses → (x : List ℕ) → ((φ : Formula) → Holds φ source c → x ≡ get_or φ.clauses i []) → all_of small x ≡ true
  clause-small i n x is =
      let h = r.held.holds in
      ap (all_of small) (is r.held.formula h) ∙ all_get_d (all_of small) [] r.held.formula.clauses i (read_small h) (omega (arith, count-clauses h))

-- x is an item of a clause
pub small_item : (c : List ℕ) (k x : ℕ) → all_of small c ≡ true → k < length c → x ≡ get_or c k x → x < 2048
small_item c k x a n e = small-below x (ap small e ∙ all_get_d small x c k a n)

-- the opposite of a literal has a flag, too
pub opposite-below : (l : ℕ) → l < 2048 → (r : ℕ) → r ≡ opposite l → r < 2048
opposite-below l h r e = let v : opposite l / 2 ≡ l / 2 = unfold var in var-opp l in omega (arith, e)

-- One element more: x is that at index i, and y what is computed with it ------------------------------------------------
pub fold_next : {A B : Type 0} (f : B → A → B) (d : A) (s : List A) (i : ℕ) (h : B) {b : B} → b ≡ foldl f h (drop i s) → i < length s → (x : A) → x ≡ get_or s i d → (y : B) → y ≡ f h x → b ≡ foldl f y (drop (i + 1) s)
fold_next f d s i h inv k x is y e = rw (e, is) (inv ∙ rw (add-one, drop-cons s i d))

pub fold_last : {A B : Type 0} (f : B → A → B) (s : List A) (i : ℕ) (h : B) {b : B} → b ≡ foldl f h (drop i s) → length s ≤ i → h ≡ b
fold_last f s i h inv k = sym (inv ∙ rw (drop_of_length-le s {i = i} k))

-- What passes a test, from index i on -----------------------------------------------------------------------------------
module _ (f : ℕ → Bool) (c : List ℕ) (i : ℕ) where
  keep-here : i < length c → f (get_or c i 0) ≡ true → keep_if f (drop i c) ≡ get_or c i 0 ∷ keep_if f (drop (i + 1) c)
  unfolding keep_if
  keep-here h p = rw (add-one, drop-cons c i 0, p)

  pub keep-past : i < length c → f (get_or c i 0) ≡ false → keep_if f (drop i c) ≡ keep_if f (drop (i + 1) c)
  unfolding keep_if
  keep-past h p = rw (add-one, drop-cons c i 0, p)

  keep-end : length c ≤ i → keep_if f (drop i c) ≡ []
  unfolding keep_if
  keep-end h = rw (drop_of_length-le c {i = i} h)

-- Two such selections are compared: the tests pass at i and at j.
module _ (f g : ℕ → Bool) (a b : List ℕ) (i j : ℕ) {s : Bool} (inv : s ≡ same (keep_if f (drop i a)) (keep_if g (drop j b))) where
  module _ (h : i < length a) (p : f (get_or a i 0) ≡ true) where
    pub walk-longer : length b ≤ j → false ≡ s
    unfolding same
    walk-longer n = sym (inv ∙ rw (keep-here f a i h p, keep-end g b j n))

    module _ (k : j < length b) (q : g (get_or b j 0) ≡ true) where
      pub walk-differs : (get_or a i 0 ≡ get_or b j 0 → ⊥) → false ≡ s
      unfolding same
      walk-differs n = sym (inv ∙ rw (keep-here f a i h p, keep-here g b j k q, eqb-ne (get_or a i 0) (get_or b j 0) n))

      pub walk_turn : get_or a i 0 ≡ get_or b j 0 → (x y : ℕ) → NextOf f a (i + 1) x → NextOf g b (j + 1) y → s ≡ same (keep_if f (drop x a)) (keep_if g (drop y b))
      unfolding same
      walk_turn e x y m n = inv ∙ rw (keep-here f a i h p, keep-here g b j k q, eqb-eq e, m.rest, n.rest)

  pub walk_end : length a ≤ i → (j < length b → g (get_or b j 0) ≡ true) → leb (length b) j ≡ s
  unfolding same
  walk_end h q =
      by_cases (leb (length b) j)
      (λ n. n ∙ sym (inv ∙ rw (keep-end f a i h, keep-end g b j (leb-true (length b) j n))))
      (λ n. let k = leb-false (length b) j n in n ∙ sym (inv ∙ rw (keep-end f a i h, keep-here g b j k (q k))))
