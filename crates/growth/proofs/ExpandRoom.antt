-- When the new prefix of step 7 passes no limit: exactly if there are enough free numbers.
-- Assumes nothing.
use mathlib.Core.Path.{◌≡◌, refl, sym, ◌∙◌, ap}
use Prim.Native.Nat.{ℕ, zero, suc, ◌+◌, ◌-◌, ◌≤◌}
use mathlib.Core.Bool.{Bool, true, ◌&&◌, not}
use mathlib.Core.List.{List, [], ◌∷◌, ◌++◌, map}
use native.Mathlib.Omega.{arith}
use lib.Dec.{leb}
use lib.ListN.{length, take, length-append, length-map}
use borrow.Author.Tests.{leb-true, le-leb}
use Rattle.meaning.specs.Lists.{all_of, up_from}
use Rattle.meaning.specs.Formula.{var, plain, mentions, drop_var}
use Rattle.meaning.specs.WellFormed.{good_prefix}
use Rattle.rules.specs.Eliminate.{fresh}
use Rattle.meaning.proofs.Basics.{iff, clash, false_of, and_l, and_r, and_i}
use Rattle.meaning.proofs.Lists.{all_append, all_map, all-le, all-keep-le, all-of-has}
use Rattle.meaning.proofs.Literals.{var-of-plain}
use Rattle.meaning.proofs.Prefix.{prefix-few, forall-mentioned}
use Rattle.rules.proofs.Rename.{copies-mention}
use Rattle.rules.proofs.Fresh.{fresh-length}
use Rattle.rules.proofs.Good.{good-append, good_right}
use Rattle.rules.proofs.Place.{Place, place}
use Rattle.growth.proofs.ExpandLists.{mentions-has}
use Rattle.growth.proofs.ExpandClauses.{Expands, new_prefix}

-- The numbers of the copies --------------------------------------------------------------------------------------------
up-below : (s n t : ℕ) → s + n ≤ suc t → all_of (λ v. leb v t) (up_from s n) ≡ true
unfolding up_from all_of
up-below s zero t h = refl
up-below s (suc n) t h = and_i _ _ (le-leb s t (omega arith)) (up-below (suc s) n t (omega arith))

all_take : (f : ℕ → Bool) (n : ℕ) (xs : List ℕ) → all_of f xs ≡ true → all_of f (take n xs) ≡ true
unfolding all_of
all_take f zero xs h = refl
all_take f (suc n) [] h = h
all_take f (suc n) (x ∷ xs) h = let r = all_take f n xs (search and_r) in search (and_i, and_l)

-- the n smallest free numbers are at most the entries and n
fresh-below : (p : List ℕ) (n : ℕ) → all_of (λ v. leb v (length p + n)) (fresh p n) ≡ true
unfolding fresh
fresh-below p n = all_take _ n _ (all-keep-le _ _ _ (up-below 1 (length p + n) (length p + n) (omega arith)))

copies-below : (p : List ℕ) (n t : ℕ) → length p + n ≤ t → all_of (λ q. leb (var q) t) (map plain (fresh p n)) ≡ true
copies-below p n t h =
    all_map (λ q. leb (var q) t) plain (fresh p n)
    ∙ all-le (λ v. leb v (length p + n)) _ (fresh p n)
    (λ v k. rw (var-of-plain v) (le-leb v t (let m = leb-true v (length p + n) k in omega arith))) (fresh-below p n)

-- The new prefix -------------------------------------------------------------------------------------------------------
drop-length : (p : List ℕ) (v : ℕ) → good_prefix p ≡ true → mentions p v ≡ true → suc (length (drop_var v p)) ≡ length p
drop-length p v good h =
    let at : Place p v = place p v good h in
    let x : length (drop_var v p) ≡ length (at.left ++ at.right) = ap length at.rest in
    let y : length p ≡ length (at.left ++ (at.entry ∷ at.right)) = ap length at.whole in
    omega (arith, length-append at.left at.right, length-append at.left (at.entry ∷ at.right))

all_drop : (f : ℕ → Bool) (v : ℕ) (p : List ℕ) → all_of f p ≡ true → all_of f (drop_var v p) ≡ true
unfolding drop_var
all_drop f v p h = all-keep-le f _ p h

module _ (p : List ℕ) (a : ℕ) (es : List ℕ) (n : ℕ) (x : Expands p a es (fresh p n)) where
  abbrev q : List ℕ
  q = new_prefix p a es (fresh p n) x

  abbrev numbers : List ℕ → Bool
  numbers = all_of (λ k. leb (var k) 1023)

  copies_length : length (map plain (fresh p n)) ≡ n
  copies_length = length-map (fresh p n) plain ∙ fresh-length p n

  pub new-length : length q ≡ length p - 1 + n
  new-length =
      omega (arith, length-append (drop_var a p) (map plain (fresh p n)), copies_length, drop-length p a x.good (forall-mentioned p a x.forall))

  -- the old prefix with the copies is good: so it has no more entries than there are numbers
  few : good_prefix q ≡ true → numbers p ≡ true → numbers (map plain (fresh p n)) ≡ true → length p + n ≤ 1023
  few good old new =
      let g : good_prefix (p ++ map plain (fresh p n)) ≡ true = good-append p _ x.good (good_right (drop_var a p) _ good) apart in
      let h : length (p ++ map plain (fresh p n)) ≤ 1023 = prefix-few 1023 (p ++ map plain (fresh p n)) g (all_append _ p _ ∙ and_i _ _ old new) in
      omega (arith, length-append p (map plain (fresh p n)), copies_length)
    where
      apart : all_of (λ k. not (mentions (map plain (fresh p n)) (var k))) p ≡ true
      apart = all-of-has _ p (λ k h. ap not (copies-mention _ _ ∙ false_of _ (λ i. clash (mentions-has p k h) (x.new (var k) i))))

  pub new-fits : good_prefix q ≡ true → numbers p ≡ true → (leb (length q) 1023 && numbers q) ≡ leb (length p + n) 1023
  new-fits good old =
      iff _ _
      (λ h. le-leb (length p + n) 1023
      (few good old (and_r (numbers (drop_var a p)) _ (sym (all_append _ (drop_var a p) _) ∙ and_r (leb (length q) 1023) _ h))))
      (λ h. let k = leb-true (length p + n) 1023 h in
      and_i _ _ (le-leb (length q) 1023 (omega (arith, new-length)))
      (all_append _ (drop_var a p) _ ∙ and_i _ _ (all_drop _ a p old) (copies-below p n 1023 k)))
