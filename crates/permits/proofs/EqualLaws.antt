-- Step 5, equality: the pair of clauses, and which literal of it is replaced by what.
-- Assumes nothing.
use Prim.Native.Nat.{ℕ, ◌/◌, ◌≤◌, ◌<◌}
use mathlib.Core.Path.{◌≡◌, refl, sym, ap, ◌∙◌}
use mathlib.Core.Bool.{Bool, true, false, ◌&&◌}
use mathlib.Core.List.{List, [], ◌∷◌}
use lib.ListN.{length, get_or}
use lib.Dec.{eqb, ltb}
use borrow.Author.Tests.{lt-ltb, le-ltb}
use native.Mathlib.Omega.{arith}
use Rattle.meaning.specs.Lists.{same}
use Rattle.meaning.specs.Formula.{Formula, var, opposite, mentions, right_of}
use Rattle.meaning.specs.WellFormed.{well_formed}
use Rattle.rules.specs.Simplify.{clause_at, opposite_pair, equality_permitted, replaced, equality_of, equality_raw}
use Rattle.permits.specs.Places.{place_of}
use Rattle.permits.specs.Choices.{replacing, replacement_of}
use Rattle.permits.specs.declared.Replacement.{Replacement}
use Rattle.meaning.proofs.Basics.{by_cases, eqb-eq, eqb-ne}
use Rattle.meaning.proofs.Parts.{good_of}
use Rattle.table.proofs.TestLaws.{same-lengths}
use Rattle.rules.proofs.Permitted.{equality-says, tidy-pair}
use Rattle.permits.proofs.PlaceLaws.{right-by-place}

-- The pair ------------------------------------------------------------------------------------------------------
two : (x : List ℕ) → length x ≡ 2 → x ≡ get_or x 0 0 ∷ get_or x 1 0 ∷ []
two [] e = absurd (omega arith)
two (k ∷ []) e = absurd (omega arith)
two (k ∷ l ∷ []) e = refl
two (k ∷ l ∷ m ∷ x) e = absurd (omega arith)

pub pair-x : (x y : List ℕ) → (length x ≡ 2 → ⊥) → false ≡ opposite_pair x y
unfolding opposite_pair
pair-x [] y h = refl
pair-x (k ∷ []) y h = refl
pair-x (k ∷ l ∷ []) y h = absurd (h refl)
pair-x (k ∷ l ∷ m ∷ x) y h = refl

module _ (x y : List ℕ) (long : length x ≡ 2) where
  pair_same : opposite_pair x y ≡ same y (opposite (get_or x 0 0) ∷ opposite (get_or x 1 0) ∷ [])
  unfolding opposite_pair
  pair_same = ap (λ (l : List ℕ). opposite_pair l y) (two x long)

  pub pair-y : (length y ≡ 2 → ⊥) → false ≡ opposite_pair x y
  pair-y h = sym (pair_same ∙ same-lengths y (opposite (get_or x 0 0) ∷ opposite (get_or x 1 0) ∷ []) h)

  module _ (also : length y ≡ 2) where
    pair_is : opposite_pair x y ≡ (eqb (get_or y 0 0) (opposite (get_or x 0 0)) && (eqb (get_or y 1 0) (opposite (get_or x 1 0)) && true))
    unfolding same
    pair_is = pair_same ∙ ap (λ (l : List ℕ). same l (opposite (get_or x 0 0) ∷ opposite (get_or x 1 0) ∷ [])) (two y also)

    pub pair-first : (o : ℕ) → o ≡ opposite (get_or x 0 0) → (get_or y 0 0 ≡ o → ⊥) → false ≡ opposite_pair x y
    pair-first o e h = sym (pair_is ∙ rw (← e, eqb-ne (get_or y 0 0) o h))

    pub pair-second : (o u : ℕ) → o ≡ opposite (get_or x 0 0) → get_or y 0 0 ≡ o → u ≡ opposite (get_or x 1 0) → eqb (get_or y 1 0) u ≡ opposite_pair x y
    pair-second o u e h f = sym (pair_is ∙ rw (← e, ← f, eqb-eq h) (last (eqb (get_or y 1 0) u)))
      where
        last : (b : Bool) → (b && true) ≡ b
        last true = refl
        last false = refl

-- What is replaced ----------------------------------------------------------------------------------------------
pub equality-raw : (φ : Formula) (a : ℕ) → equality_raw φ a ≡ replaced (replacement_of φ a).old (replacement_of φ a).new φ
unfolding equality_raw equality_of replacement_of replacing
equality-raw φ a =
    let c = clause_at φ.clauses a in
    by_cases (mentions (right_of (var (get_or c 0 0)) φ.prefix) (var (get_or c 1 0))) (λ t. rw t) (λ t. rw t)

module _ (φ : Formula) (w : well_formed φ ≡ true) (a b : ℕ) (ok : equality_permitted φ a b ≡ true) (k l : ℕ) (is-k : k ≡ get_or (clause_at φ.clauses a) 0 0) (is-l : l ≡ get_or (clause_at φ.clauses a) 1 0) (u v : ℕ) (at-k : u ≡ place_of φ.prefix (k / 2)) (at-l : v ≡ place_of φ.prefix (l / 2)) where
  right_is : mentions (right_of (var k) φ.prefix) (var l) ≡ ltb u v
  unfolding var
  right_is =
      let s = equality-says φ a b ok in
      let t = tidy-pair φ w a b s in
      let ek : k ≡ s.k = is-k ∙ ap (λ (c : List ℕ). get_or c 0 0) s.is-a in
      let el : l ≡ s.l = is-l ∙ ap (λ (c : List ℕ). get_or c 1 0) s.is-a in
      right-by-place φ.prefix (k / 2) (l / 2) (good_of φ w) (rw ek t.in-k) (rw el t.in-l) ∙ rw (← at-k, ← at-l)

  is-replacing : replacement_of φ a ≡ replacing φ.prefix k l
  unfolding replacement_of
  is-replacing = rw (← is-k, ← is-l)

  pub replace-l : (o : ℕ) (r : Replacement) → u < v → o ≡ opposite k → r ≡ record { old = l; new = o } → r ≡ replacement_of φ a
  unfolding replacing
  replace-l o r h e q = q ∙ sym (is-replacing ∙ rw (right_is, lt-ltb u v h, ← e))

  pub replace-k : (o : ℕ) (r : Replacement) → v ≤ u → o ≡ opposite l → r ≡ record { old = k; new = o } → r ≡ replacement_of φ a
  unfolding replacing
  replace-k o r h e q = q ∙ sym (is-replacing ∙ rw (right_is, le-ltb u v h, ← e))
