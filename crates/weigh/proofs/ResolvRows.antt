-- The resolvents of the pairs, positive clause by positive clause.
-- Assumes nothing.
use Prim.Native.Nat.{ℕ, zero, suc, ◌+◌, ◌-◌, ◌*◌, ◌≤◌, ◌<◌}
use mathlib.Core.Path.{◌≡◌, refl, sym, ap, ◌∙◌}
use mathlib.Core.Bool.{Bool, true, false, ◌||◌}
use mathlib.Core.List.{List, [], ◌∷◌}
use lib.ListN.{length, get_or, take, drop, take-append-drop}
use lib.Seq.{take-append-le, drop-append-add, take-add, drop-drop, take-nil, get_or-take, length-take-le}
use native.Mathlib.Omega.{arith}
use native.Mathlib.Nat.{zero-mul, suc-mul, mul-le-mul_right, not-suc-le-zero, le_of_suc-le-suc}
use native.Mathlib.Numerals.{add-one}
use Rattle.meaning.specs.Lists.{all_of, any_of}
use Rattle.meaning.specs.Formula.{Formula, plain, negated}
use Rattle.meaning.specs.Tidy.{tidy}
use Rattle.meaning.specs.WellFormed.{well_formed, bound}
use Rattle.rules.specs.Eliminate.{with_lit, resolvents_of, resolvents}
use Rattle.resolvents.specs.Resolvent.{resolvent, becomes, fits_in}
use Rattle.weigh.specs.Resolving.{rest_of, raw_resolvents, any_gives, row_gives, came_before}
use Rattle.meaning.proofs.Basics.{and_l, and_r}
use Rattle.meaning.proofs.Lists.{any_append, any-agree, all_append}
use Rattle.meaning.proofs.TidyPrefix.{tidy-drop}
use Rattle.table.proofs.LoopLaws.{any_found, any-turn, any-end}
use Rattle.weigh.proofs.ResolvPairs.{one-length}
use Rattle.weigh.proofs.ResolvResult.{raws-bound, raw-free}
use Rattle.resolvents.proofs.ResolvFits.{not-fits}

-- A row ------------------------------------------------------------------------------------------------------------------------
one-take : (a : ℕ) (x : List ℕ) (ys : List (List ℕ)) (m : ℕ) → take m (resolvents_of a x ys) ≡ resolvents_of a x (take m ys)
unfolding resolvents_of
one-take a x [] m = take-nil m ∙ ap (resolvents_of a x) (sym (take-nil m))
one-take a x (y ∷ ys) zero = refl
one-take a x (y ∷ ys) (suc m) = rw (one-take a x ys m)

-- the resolvents of the positive clause i with the first m negative ones
pub row_is : (a : ℕ) (xs ys : List (List ℕ)) (i m : ℕ) → i < length xs → m ≤ length ys
    → take m (drop (i * length ys) (resolvents a xs ys)) ≡ resolvents_of a (get_or xs i []) (take m ys)
unfolding resolvents
row_is a [] ys i m h l = absurd (not-suc-le-zero h)
row_is a (x ∷ xs) ys zero m h l =
    rw (zero-mul (length ys)) (take-append-le m (resolvents_of a x ys) (resolvents a xs ys) (omega (arith, one-length a x ys)) ∙ one-take a x ys m)
row_is a (x ∷ xs) ys (suc i) m h l =
    let e : suc i * length ys ≡ length (resolvents_of a x ys) + i * length ys = omega (arith, suc-mul i (length ys), one-length a x ys) in
    rw (e, drop-append-add (resolvents_of a x ys) (resolvents a xs ys) (i * length ys)) (row_is a xs ys i m (le_of_suc-le-suc h) l)

-- what is said of a row's raw clauses and of the negative clauses
pub any-row : (f : List ℕ → Bool) (a : ℕ) (x : List ℕ) (ys : List (List ℕ)) → any_of f (resolvents_of a x ys) ≡ any_of (λ y. f (resolvent a x y)) ys
unfolding any_of resolvents_of resolvent
any-row f a x [] = refl
any-row f a x (y ∷ ys) = ap (λ (b : Bool). f (resolvent a x y) || b) (any-row f a x ys)

none_of : (f : List ℕ → Bool) (ys : List (List ℕ)) → ((y : List ℕ) → f y ≡ false) → any_of f ys ≡ false
unfolding any_of
none_of f [] h = refl
none_of f (y ∷ ys) h = rw (h y, none_of f ys h)

pub all-part : (f : List ℕ → Bool) (from m : ℕ) (l : List (List ℕ)) → all_of f l ≡ true → all_of f (take m (drop from l)) ≡ true
all-part f from m l h =
    and_l (all_of f (take m (drop from l))) (all_of f (drop m (drop from l)))
    (sym (all_append f (take m (drop from l)) (drop m (drop from l))) ∙ ap (all_of f) (take-append-drop m (drop from l))
    ∙ and_r (all_of f (take from l)) (all_of f (drop from l)) (sym (all_append f (take from l) (drop from l)) ∙ ap (all_of f) (take-append-drop from l) ∙ h))

module _ (φ : Formula) (w : well_formed φ ≡ true) (a i m : ℕ) (h : i < length (with_lit (plain a) φ.clauses))
    (l : m ≤ length (with_lit (negated a) φ.clauses)) (c : List ℕ) where
  abbrev x : List ℕ
  x = get_or (with_lit (plain a) φ.clauses) i []

  -- the old prefix serves for what does not have the variable
  row_made : any_gives φ a x m c ≡ row_gives φ a i m c
  unfolding any_gives row_gives raw_resolvents
  row_made =
      let row = row_is a (with_lit (plain a) φ.clauses) (with_lit (negated a) φ.clauses) i m h l in
      sym (any-row (λ raw. becomes c (tidy φ.prefix raw)) a x (take m (with_lit (negated a) φ.clauses))) ∙ rw (← row)
      (any-agree (bound (rest_of φ a)) (λ raw. becomes c (tidy φ.prefix raw)) (λ raw. becomes c (tidy (rest_of φ a) raw)) _
      (all-part (bound (rest_of φ a)) (i * length (with_lit (negated a) φ.clauses)) m
      (resolvents a (with_lit (plain a) φ.clauses) (with_lit (negated a) φ.clauses))
      (unfold raw_resolvents in raws-bound φ w a))
      (λ raw b. ap (becomes c) (sym (tidy-drop a φ.prefix raw (raw-free φ w a raw b)))))

  pub row-some : (z : List ℕ) → z ≡ x → (r : Bool) → r ≡ any_gives φ a z m c → r ≡ row_gives φ a i m c
  row-some z e r q = q ∙ rw e row_made

  -- where x has a literal that the clause lacks
  pub row-none : (z : List ℕ) → z ≡ x → (b : Bool) → b ≡ fits_in φ.prefix c (2 * a) z → b ≡ false → false ≡ row_gives φ a i m c
  unfolding any_gives plain
  row-none z e b is n =
      sym (sym row_made ∙ none (take m (with_lit (negated a) φ.clauses)))
    where
      none : (ys : List (List ℕ)) → any_of (λ y. becomes c (tidy φ.prefix (resolvent a x y))) ys ≡ false
      none ys = none_of (λ y. becomes c (tidy φ.prefix (resolvent a x y))) ys
          (λ y. not-fits φ.prefix x y c a (rw (← e) (sym is ∙ n)))

-- the partners of one clause, one by one
module _ (φ : Formula) (a : ℕ) (x : List ℕ) (m : ℕ) (l : m ≤ length (with_lit (negated a) φ.clauses)) (c : List ℕ) (j : ℕ)
    (inv : any_gives φ a x m c
    ≡ any_of (λ y. becomes c (tidy φ.prefix (resolvent a x y))) (drop j (take m (with_lit (negated a) φ.clauses)))) where
  few : length (take m (with_lit (negated a) φ.clauses)) ≡ m
  few = length-take-le m (with_lit (negated a) φ.clauses) l

  module _ (h : j < m) (y : List ℕ) (e : y ≡ get_or (with_lit (2 * a + 1) φ.clauses) j []) (b : Bool)
      (is : b ≡ becomes c (tidy φ.prefix (resolvent a x y))) where
    partner : becomes c (tidy φ.prefix (resolvent a x (get_or (take m (with_lit (negated a) φ.clauses)) j []))) ≡ b
    unfolding negated
    partner = ap (λ (z : List ℕ). becomes c (tidy φ.prefix (resolvent a x z)))
        (get_or-take m (with_lit (2 * a + 1) φ.clauses) j [] h ∙ sym e) ∙ sym is

    pub partner-found : b ≡ true → true ≡ any_gives φ a x m c
    partner-found t =
        any_found (λ y. becomes c (tidy φ.prefix (resolvent a x y))) [] (take m (with_lit (negated a) φ.clauses)) j inv (omega (arith, few))
        (partner ∙ t)

    pub partner-turn : b ≡ false
        → any_gives φ a x m c ≡ any_of (λ y. becomes c (tidy φ.prefix (resolvent a x y))) (drop (j + 1) (take m (with_lit (negated a) φ.clauses)))
    partner-turn t =
        any-turn (λ y. becomes c (tidy φ.prefix (resolvent a x y))) [] (take m (with_lit (negated a) φ.clauses)) j inv (omega (arith, few))
        (partner ∙ t)

  pub partner-end : m ≤ j → false ≡ any_gives φ a x m c
  partner-end h =
      any-end (λ y. becomes c (tidy φ.prefix (resolvent a x y))) [] (take m (with_lit (negated a) φ.clauses)) j inv (omega (arith, few))

-- All rows before a pair ----------------------------------------------------------------------------------------------------------
module _ (f : List ℕ → Bool) (l : List (List ℕ)) (n k i : ℕ) (inv : any_of f (take k l) ≡ any_of f (take (k - i * n) (drop (i * n) l))) where
  more : (i + 1) * n ≤ k → any_of f (take k l) ≡ (any_of f (take n (drop (i * n) l)) || any_of f (take (k - (i + 1) * n) (drop ((i + 1) * n) l)))
  more h =
      let s : (i + 1) * n ≡ i * n + n = rw add-one (suc-mul i n ∙ omega arith) in
      let e : k - i * n ≡ n + (k - (i + 1) * n) = omega (arith, s) in
      let d : drop n (drop (i * n) l) ≡ drop ((i + 1) * n) l = drop-drop n (i * n) l ∙ ap (λ (j : ℕ). drop j l) (sym s) in
      inv ∙ ap (λ (j : ℕ). any_of f (take j (drop (i * n) l))) e ∙ ap (any_of f) (take-add n (k - (i + 1) * n) (drop (i * n) l))
      ∙ any_append f (take n (drop (i * n) l)) (take (k - (i + 1) * n) (drop n (drop (i * n) l)))
      ∙ ap (λ (z : List (List ℕ)). any_of f (take n (drop (i * n) l)) || any_of f (take (k - (i + 1) * n) z)) d

  module _ (h : (i + 1) * n ≤ k) (b : Bool) (is : b ≡ any_of f (take n (drop (i * n) l))) where
    row-found : b ≡ true → true ≡ any_of f (take k l)
    row-found t = sym (more h ∙ rw (← is, t))

    row-turn : b ≡ false → any_of f (take k l) ≡ any_of f (take (k - (i + 1) * n) (drop ((i + 1) * n) l))
    row-turn t = more h ∙ rw (← is, t)

-- the rows from the positive clause i on, as far as before pair k
unfoldable pub rows_from : Formula → ℕ → ℕ → ℕ → List ℕ → Bool
rows_from φ a k i c =
    any_of (λ raw. becomes c (tidy (rest_of φ a) raw))
    (take (k - i * length (with_lit (negated a) φ.clauses)) (drop (i * length (with_lit (negated a) φ.clauses)) (raw_resolvents φ a)))

pub rows_start : (φ : Formula) (a k : ℕ) (c : List ℕ) → came_before φ a k c ≡ rows_from φ a k 0 c
unfolding came_before rows_from
rows_start φ a k c =
    let e : k - 0 ≡ k = omega arith in
    rw (zero-mul (length (with_lit (negated a) φ.clauses)), e)

module _ (φ : Formula) (a k n m j : ℕ) (is : n ≡ length (with_lit (2 * a + 1) φ.clauses)) (whole : k ≡ m * n + j) (c : List ℕ) (i : ℕ)
    (inv : came_before φ a k c ≡ rows_from φ a k i c) where
  whole_row : i < m → (i + 1) * n ≤ k
  whole_row h = omega (arith, mul-le-mul_right n h)

  module _ (h : i < m) (b : Bool) (said : b ≡ row_gives φ a i n c) where
    pub rows-found : b ≡ true → true ≡ came_before φ a k c
    unfolding came_before rows_from row_gives negated
    rows-found t =
        row-found (λ raw. becomes c (tidy (rest_of φ a) raw)) (raw_resolvents φ a) n k i (rw (← is) at inv) (whole_row h) b (rw (← is) at said) t

    pub rows-turn : b ≡ false → came_before φ a k c ≡ rows_from φ a k (i + 1) c
    unfolding came_before rows_from row_gives negated
    rows-turn t =
        rw (← is) (row-turn (λ raw. becomes c (tidy (rest_of φ a) raw)) (raw_resolvents φ a) n k i (rw (← is) at inv) (whole_row h) b (rw (← is) at said) t)

  pub rows_end : i ≡ m → (r : Bool) → r ≡ row_gives φ a m j c → r ≡ came_before φ a k c
  unfolding rows_from row_gives negated
  rows_end e r q =
      let d : k - m * n ≡ j = omega arith in
      q ∙ sym (inv ∙ rw (e, ← is, d))
