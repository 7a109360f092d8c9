-- The index of the first clause that passes a test: it passes, no lower one does, and it is the only such index. Assumes nothing.
use mathlib.Core.Path.{◌≡◌, refl}
use Prim.Native.Nat.{ℕ, zero, suc, ◌<◌}
use native.Mathlib.Omega.{arith}
use mathlib.Core.Bool.{Bool, true, false, ◌||◌, not, cond, false≢true}
use mathlib.Core.List.{List, [], ◌∷◌}
use lib.Dec.{ltb}
use lib.ListN.{length}
use borrow.Author.Tests.{ltb-true, lt-ltb}
use Rattle.meaning.specs.Lists.{any_of}
use Rattle.rules.specs.Simplify.{clause_at, is_clause}
use Rattle.reasons.specs.Reason.{first_index}
use Rattle.meaning.proofs.Basics.{by_cases, clash, not-true}
use Rattle.meaning.proofs.Lists.{any_none}
use Rattle.rules.proofs.Permitted.{all-at}

pub neither-less : (m n : ℕ) → ltb m n ≡ false → ltb n m ≡ false → m ≡ n
neither-less m n x y =
    let p : (m < n → ⊥) = λ k. clash (lt-ltb m n k) x in
    let q : (n < m → ⊥) = λ k. clash (lt-ltb n m k) y in
    omega arith

module _ (f : List ℕ → Bool) where
  pub index-finds : (cs : List (List ℕ)) → any_of f cs ≡ true → (first_index f cs < length cs) × (f (clause_at cs (first_index f cs)) ≡ true)
  unfolding any_of first_index clause_at
  index-finds [] h = absurd (false≢true h)
  index-finds (c ∷ cs) h = go (f c) refl h (index-finds cs)
    where
      go : (s : Bool) → f c ≡ s → (s || any_of f cs) ≡ true
          → (any_of f cs ≡ true → (first_index f cs < length cs) × (f (clause_at cs (first_index f cs)) ≡ true))
          → (cond s 0 (suc (first_index f cs)) < length (c ∷ cs)) × (f (clause_at (c ∷ cs) (cond s 0 (suc (first_index f cs)))) ≡ true)
      go true e k ih = (omega arith, e)
      go false e k ih = let r = ih k in (omega arith, r.1)

  pub index-lowest : (cs : List (List ℕ)) (j : ℕ) → j < first_index f cs → f (clause_at cs j) ≡ false
  unfolding first_index clause_at
  index-lowest [] j h = absurd (omega arith)
  index-lowest (c ∷ cs) j h = go (f c) refl j h (index-lowest cs)
    where
      go : (s : Bool) → f c ≡ s → (j : ℕ) → j < cond s 0 (suc (first_index f cs)) → ((j : ℕ) → j < first_index f cs → f (clause_at cs j) ≡ false) → f (clause_at (c ∷ cs) j) ≡ false
      go true e j k ih = absurd (omega arith)
      go false e zero k ih = e
      go false e (suc j) k ih = ih j (omega arith)

  pub any_at : (cs : List (List ℕ)) (i : ℕ) → i < length cs → f (clause_at cs i) ≡ true → any_of f cs ≡ true
  unfolding is_clause
  any_at cs i h e =
      by_cases (any_of f cs) (λ a. a) (λ a. clash e (not-true _ (all-at (λ c. not (f c)) cs i (lt-ltb i (length cs) h) (any_none f cs a))))

  pub index_is : (cs : List (List ℕ)) (i : ℕ) → i < length cs → f (clause_at cs i) ≡ true → ((j : ℕ) → j < i → f (clause_at cs j) ≡ false) → first_index f cs ≡ i
  index_is cs i h e low =
      let r = index-finds cs (any_at cs i h e) in
      by_cases (ltb (first_index f cs) i)
      (λ a. clash r.1 (low (first_index f cs) (ltb-true _ _ a)))
      (λ a. by_cases (ltb i (first_index f cs)) (λ b. clash e (index-lowest cs i (ltb-true _ _ b))) (λ b. neither-less (first_index f cs) i a b))
