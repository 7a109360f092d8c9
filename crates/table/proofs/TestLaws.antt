-- Laws of the tests on clauses, as the loops of src/tests.rt ask for them.
-- Assumes nothing.
use Prim.Native.Nat.{ℕ, suc, ◌+◌, ◌-◌, ◌%◌, ◌≤◌, ◌<◌}
use mathlib.Core.Path.{◌≡◌, refl, sym, ap, ◌∙◌}
use mathlib.Core.Bool.{Bool, true, false, ◌&&◌}
use mathlib.Core.List.{List, [], ◌∷◌}
use lib.ListN.{length, get_or, drop, drop_of_length-le}
use lib.Seq.{drop-cons}
use lib.Dec.{eqb}
use native.Mathlib.Numerals.{add-one}
use native.Mathlib.Omega.{arith}
use Rattle.meaning.specs.Lists.{has, part_of, same}
use Rattle.meaning.specs.Formula.{opposite}
use Rattle.meaning.proofs.Basics.{eqb-eq, eqb-ne}
use Rattle.meaning.proofs.Literals.{odd-of, even-of}
use Rattle.table.proofs.LoopLaws.{any_found, any-turn, any-end, all-fails, all_end}

module _ (l : ℕ) (s : List ℕ) (i : ℕ) (inv : has l s ≡ has l (drop i s)) where
  pub has-found : i < length s → get_or s i 0 ≡ l → true ≡ has l s
  unfolding has
  has-found h e = any_found (λ k. eqb l k) 0 s i inv h (eqb-eq (sym e))

  pub has-turn : i < length s → (get_or s i 0 ≡ l → ⊥) → has l s ≡ has l (drop (i + 1) s)
  unfolding has
  has-turn h e = any-turn (λ k. eqb l k) 0 s i inv h (eqb-ne l (get_or s i 0) (λ q. e (sym q)))

  pub has_end : length s ≤ i → false ≡ has l s
  unfolding has
  has_end h = any-end (λ k. eqb l k) 0 s i inv h

module _ (b a : List ℕ) (i : ℕ) (inv : part_of a b ≡ part_of (drop i a) b) where
  pub part-fails : i < length a → has (get_or a i 0) b ≡ false → false ≡ part_of a b
  unfolding part_of
  part-fails h e = all-fails (λ l. has l b) 0 a i inv h e

  pub part_end : length a ≤ i → true ≡ part_of a b
  unfolding part_of
  part_end h = all_end (λ l. has l b) 0 a i inv h

pub same-lengths : (a b : List ℕ) → (length a ≡ length b → ⊥) → same a b ≡ false
unfolding same
same-lengths [] [] h = absurd (h refl)
same-lengths [] (y ∷ b) h = refl
same-lengths (x ∷ a) [] h = refl
same-lengths (x ∷ a) (y ∷ b) h = rw (same-lengths a b (λ e. h (ap suc e))) (and-false (eqb x y))
  where
    and-false : (t : Bool) → (t && false) ≡ false
    and-false true = refl
    and-false false = refl

module _ (a b : List ℕ) (i : ℕ) (inv : same a b ≡ same (drop i a) (drop i b)) where
  pub same_differs : i < length a → i < length b → (get_or a i 0 ≡ get_or b i 0 → ⊥) → false ≡ same a b
  unfolding same
  same_differs h k e = sym (inv ∙ rw (drop-cons a i 0, drop-cons b i 0, eqb-ne (get_or a i 0) (get_or b i 0) e))

  pub same_turn : i < length a → i < length b → get_or a i 0 ≡ get_or b i 0 → same a b ≡ same (drop (i + 1) a) (drop (i + 1) b)
  unfolding same
  same_turn h k e = inv ∙ rw (add-one, drop-cons a i 0, drop-cons b i 0, eqb-eq e)

  pub same_end : length a ≤ i → length b ≤ i → true ≡ same a b
  unfolding same
  same_end h k = sym (inv ∙ rw (drop_of_length-le a {i = i} h, drop_of_length-le b {i = i} k))

-- the opposite literal
pub flip-even : (l : ℕ) → l % 2 ≡ 0 → l + 1 ≡ opposite l
unfolding opposite
flip-even l e = rw (even-of l e)

pub flip-odd : (l : ℕ) → (l % 2 ≡ 0 → ⊥) → l - 1 ≡ opposite l
unfolding opposite
flip-odd l e = rw (odd-of l (omega arith))
