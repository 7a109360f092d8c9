-- Stamps in a filter: each that was put in is there, whatever is put in later.
-- Assumes nothing.
use Prim.Native.Nat.{ℕ, ◌+◌, ◌*◌, ◌<◌}
use mathlib.Core.Path.{◌≡◌, refl, sym, ap, ◌∙◌}
use mathlib.Core.Bool.{Bool, true, false}
use mathlib.Core.List.{List, [], ◌∷◌, foldl}
use native.Mathlib.Nat.{mul-le-mul_right, suc-mul}
use native.Mathlib.Numerals.{add-one}
use native.Mathlib.Omega.{arith}
use lib.Bits.{bit_or}
use lib.Dec.{eqb}
use lib.ListN.{length, get_or, take, length-set}
use lib.Seq.{get_or-set_same, get_or-set_other, take-suc}
use Rattle.meaning.specs.Lists.{all_of, any_of, same}
use Rattle.meaning.proofs.Basics.{by_cases, clash, false_of, and_l, and_r, or_elim, eqb-true, eqb-false, eqb-eq}
use Rattle.meaning.proofs.Lists.{all-le, all_snoc, same-path}
use Rattle.stamps.specs.Stamp.{hash_on, hash_of, place_of, word_of, bits_of, marked, with_stamp, stamped}
use Rattle.stamps.proofs.BitLaws.{put-own, put-more}

-- The place -------------------------------------------------------------------------------------------------------
hash-from : (h : ℕ) (c : List ℕ) → h < 4294967296 → foldl hash_on h c < 4294967296
hash-from h [] k = k
hash-from h (l ∷ c) k = hash-from (hash_on h l) c (unfold hash_on in omega arith)

hash-small : (c : List ℕ) → hash_of c < 4294967296
unfolding hash_of
hash-small c = hash-from 0 c (omega arith)

-- a place in n words is one of their parts
pub place-small : (n h : ℕ) (c : List ℕ) → 0 < n → h ≡ hash_of c → h * n < 4294967296 * n
place-small n h c some e = rw e (omega (arith, mul-le-mul_right n (hash-small c), suc-mul (hash_of c) n))

word_small : (n : ℕ) (c : List ℕ) → 0 < n → word_of (place_of n c) < n
unfolding word_of place_of
word_small n c some = omega (arith, place-small n (hash_of c) c some refl)

pub stamp-length : (f x : List ℕ) → length (with_stamp f x) ≡ length f
unfolding with_stamp
stamp-length f x = length-set f (word_of (place_of (length f) x)) (marked f x)

-- Stamps --------------------------------------------------------------------------------------------------------
module _ (f x : List ℕ) (some : 0 < length f) where
  abbrev at : List ℕ → ℕ
  at c = place_of (length f) c

  own : get_or (with_stamp f x) (word_of (at x)) 0 ≡ marked f x
  unfolding with_stamp
  own = get_or-set_same f (word_of (at x)) (marked f x) 0 (word_small (length f) x some)

  -- a stamp that is put in is there
  pub stamp-own : stamped (with_stamp f x) x ≡ true
  unfolding stamped marked
  stamp-own =
      let e : get_or (with_stamp f x) (word_of (at x)) 0 ≡ bit_or (get_or (with_stamp f x) (word_of (at x)) 0) (bits_of (at x)) =
      rw own (put-own (get_or f (word_of (at x)) 0) (bits_of (at x))) in
      rw (stamp-length f x) (eqb-eq e)

  -- and one that was there stays
  pub stamp-stays : (c : List ℕ) → stamped f c ≡ true → stamped (with_stamp f x) c ≡ true
  unfolding stamped marked
  stamp-stays c e =
      let was : get_or f (word_of (at c)) 0 ≡ marked f c = eqb-true (get_or f (word_of (at c)) 0) (marked f c) e in
      rw (stamp-length f x) (eqb-eq (by_cases (eqb (word_of (at c)) (word_of (at x))) (λ q. same_word (eqb-true (word_of (at c)) (word_of (at x)) q) was) (λ q. other_word (eqb-false (word_of (at c)) (word_of (at x)) q) was)))
    where
      same_word : word_of (at c) ≡ word_of (at x) → get_or f (word_of (at c)) 0 ≡ marked f c → get_or (with_stamp f x) (word_of (at c)) 0 ≡ bit_or (get_or (with_stamp f x) (word_of (at c)) 0) (bits_of (at c))
      same_word q was =
          unfold marked in
          rw (q, own) (put-more (get_or f (word_of (at x)) 0) (bits_of (at c)) (bits_of (at x)) (rw q at was))

      other_word : (word_of (at c) ≡ word_of (at x) → ⊥) → get_or f (word_of (at c)) 0 ≡ marked f c → get_or (with_stamp f x) (word_of (at c)) 0 ≡ bit_or (get_or (with_stamp f x) (word_of (at c)) 0) (bits_of (at c))
      other_word q was =
          unfold marked with_stamp in rw (get_or-set_other f (word_of (at x)) (word_of (at c)) (marked f x) 0 q) was

  -- of all clauses
  pub every-stays : (cs : List (List ℕ)) → all_of (stamped f) cs ≡ true → all_of (stamped (with_stamp f x)) cs ≡ true
  every-stays cs a = all-le (stamped f) (stamped (with_stamp f x)) cs stamp-stays a

  -- one clause more, where it is the next one of a list
  pub every-next : (cs : List (List ℕ)) (i : ℕ) → i < length cs → x ≡ get_or cs i [] → all_of (stamped f) (take i cs) ≡ true → all_of (stamped (with_stamp f x)) (take (i + 1) cs) ≡ true
  every-next cs i h e a =
      rw (add-one i, take-suc cs i [] h, ← e)
      (all_snoc (stamped (with_stamp f x)) (take i cs) x (every-stays (take i cs) a) stamp-own)

-- what fails a test is none of the clauses that pass it
pub not_there : (t : List ℕ → Bool) (x : List ℕ) (cs : List (List ℕ)) → all_of t cs ≡ true → t x ≡ false → any_of (same x) cs ≡ false
unfolding all_of any_of
not_there t x [] a n = refl
not_there t x (c ∷ cs) a n =
    false_of (any_of (same x) (c ∷ cs))
    (λ e. or_elim (same x c) (any_of (same x) cs) e
    (λ q. clash (and_l (t c) (all_of t cs) a) (ap t (sym (same-path x c q)) ∙ n))
    (λ q. clash q (not_there t x cs (and_r (t c) (all_of t cs) a) n)))
