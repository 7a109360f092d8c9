-- The resolvents before a pair, by the numbers of the pair's clauses in the formula.
-- Assumes nothing.
use Prim.Native.Nat.{ℕ, zero, suc, ◌+◌, ◌*◌, ◌≤◌, ◌<◌}
use mathlib.Core.Path.{◌≡◌, refl, sym, ap, ap₂, fun_ext, ◌∙◌}
use mathlib.Core.Bool.{Bool, true, ◌&&◌, ◌||◌}
use mathlib.Core.List.{List, [], ◌∷◌, ◌++◌}
use lib.ListN.{length, get_or, take, drop}
use lib.Seq.{take-add, take-append-add}
use native.Mathlib.Omega.{arith}
use native.Mathlib.Nat.{zero-mul, suc-mul, le_of_suc-le-suc}
use Rattle.meaning.specs.Lists.{any_of, keep_if, has}
use Rattle.meaning.specs.Formula.{Formula, plain, negated}
use Rattle.meaning.specs.Tidy.{tidy}
use Rattle.meaning.specs.WellFormed.{well_formed, bound}
use Rattle.rules.specs.Eliminate.{with_lit, resolvents_of, resolvents}
use Rattle.index.specs.Index.{clauses_with}
use Rattle.resolvents.specs.Resolvent.{resolvent, becomes}
use Rattle.weigh.specs.Resolving.{rest_of, raw_resolvents, came_before, PairOf}
use Rattle.weigh.specs.declared.pairing.Pair.{Pair}
use Rattle.earlier.specs.Earlier.{makes, made_earlier}
use Rattle.meaning.proofs.Lists.{any_append, any-agree, any-keep, all-kept}
use Rattle.table.proofs.LoopLaws.{all_get_d}
use Rattle.earlier.proofs.AnyLaws.{any-and}
use Rattle.earlier.proofs.ListedLaws.{listed-take}
use Rattle.weigh.proofs.ResolvPairs.{one-length}
use Rattle.meaning.proofs.TidyPrefix.{tidy-drop}
use Rattle.weigh.proofs.ResolvResult.{raws-bound, raw-free}
use Rattle.weigh.proofs.ResolvRows.{row_is, any-row, all-part}
use Rattle.sides.proofs.FileLaws.{listed-clause, listed-there}
use Rattle.weigh.proofs.ResolvFile.{positive-there, negative-there}

-- All pairs of some positive clauses ---------------------------------------------------------------------------------------
rows_take : (a : ℕ) (xs ys : List (List ℕ)) (i : ℕ) → i ≤ length xs → take (i * length ys) (resolvents a xs ys) ≡ resolvents a (take i xs) ys
unfolding resolvents
rows_take a xs ys zero h = rw (zero-mul (length ys))
rows_take a [] ys (suc i) h = absurd (omega arith)
rows_take a (x ∷ xs) ys (suc i) h =
    let e : suc i * length ys ≡ length (resolvents_of a x ys) + i * length ys = omega (arith, suc-mul i (length ys), one-length a x ys) in
    rw (e, take-append-add (resolvents_of a x ys) (resolvents a xs ys) (i * length ys))
    (ap (λ (r : List (List ℕ)). resolvents_of a x ys ++ r) (rows_take a xs ys i (le_of_suc-le-suc h)))

any-rows : (f : List ℕ → Bool) (a : ℕ) (xs ys : List (List ℕ))
    → any_of f (resolvents a xs ys) ≡ any_of (λ x. any_of (λ y. f (resolvent a x y)) ys) xs
unfolding resolvents any_of
any-rows f a [] ys = refl
any-rows f a (x ∷ xs) ys = any_append f (resolvents_of a x ys) (resolvents a xs ys) ∙ ap₂ ◌||◌ (any-row f a x ys) (any-rows f a xs ys)

-- those with a literal are selected by a test
module _ (φ : Formula) (a : ℕ) (c : List ℕ) where
  abbrev f : List ℕ → Bool
  f raw = becomes c (tidy φ.prefix raw)

  partners-are : (x : List ℕ) (ys : List (List ℕ)) → has (plain a) x ≡ true
      → any_of (λ y. f (resolvent a x y)) (with_lit (negated a) ys) ≡ any_of (makes φ a c x) ys
  unfolding with_lit makes
  partners-are x ys h =
      any-keep (λ y. f (resolvent a x y)) (has (negated a)) ys
      ∙ ap (λ (b : Bool). any_of (λ y. b && (has (negated a) y && f (resolvent a x y))) ys) (sym h)

  rows_are : (xs ys : List (List ℕ))
      → any_of (λ x. any_of (λ y. f (resolvent a x y)) (with_lit (negated a) ys)) (with_lit (plain a) xs) ≡ any_of (λ x. any_of (makes φ a c x) ys) xs
  unfolding with_lit makes
  rows_are xs ys =
      any-keep (λ x. any_of (λ y. f (resolvent a x y)) (keep_if (has (negated a)) ys)) (has (plain a)) xs
      ∙ ap (λ (g : List ℕ → Bool). any_of g xs)
      (fun_ext (λ x. ap (λ (b : Bool). has (plain a) x && b) (any-keep (λ y. f (resolvent a x y)) (has (negated a)) ys)
      ∙ sym (any-and (has (plain a) x) (λ y. has (negated a) y && f (resolvent a x y)) ys)))

  module _ (w : well_formed φ ≡ true) (k i j : ℕ) (whole : k ≡ i * length (with_lit (negated a) φ.clauses) + j)
      (i-there : i < length (with_lit (plain a) φ.clauses)) (j-there : j < length (with_lit (negated a) φ.clauses)) where
    -- the old prefix serves for what does not have the variable
    old-prefix : came_before φ a k c ≡ any_of f (take k (raw_resolvents φ a))
    unfolding came_before
    old-prefix =
        sym (any-agree (bound (rest_of φ a)) f (λ raw. becomes c (tidy (rest_of φ a) raw)) (take k (raw_resolvents φ a))
        (all-part (bound (rest_of φ a)) 0 k (raw_resolvents φ a) (raws-bound φ w a))
        (λ raw b. ap (becomes c) (sym (tidy-drop a φ.prefix raw (raw-free φ w a raw b)))))

    has-own : has (plain a) (get_or (with_lit (plain a) φ.clauses) i []) ≡ true
    unfolding with_lit
    has-own = all_get_d (has (plain a)) [] (keep_if (has (plain a)) φ.clauses) i (all-kept (has (plain a)) φ.clauses) i-there

    module _ (m n : ℕ) (is_m : m ≡ get_or (clauses_with φ.clauses (plain a)) i 0) (is-n : n ≡ get_or (clauses_with φ.clauses (negated a)) j 0) where
      positive-number : get_or (with_lit (plain a) φ.clauses) i [] ≡ get_or φ.clauses m []
      positive-number =
          sym (ap (λ (p : ℕ). get_or φ.clauses p []) is_m
          ∙ listed-clause φ.clauses (plain a) (clauses_with φ.clauses (plain a)) refl i i-there)

      rows_before : take i (with_lit (plain a) φ.clauses) ≡ with_lit (plain a) (take m φ.clauses)
      rows_before =
          listed-take (plain a) φ.clauses i (listed-there φ.clauses (plain a) (clauses_with φ.clauses (plain a)) refl i i-there)
          ∙ ap (λ (p : ℕ). with_lit (plain a) (take p φ.clauses)) (sym is_m)

      columns-before : take j (with_lit (negated a) φ.clauses) ≡ with_lit (negated a) (take n φ.clauses)
      columns-before =
          listed-take (negated a) φ.clauses j (listed-there φ.clauses (negated a) (clauses_with φ.clauses (negated a)) refl j j-there)
          ∙ ap (λ (p : ℕ). with_lit (negated a) (take p φ.clauses)) (sym is-n)

      pub came-is : came_before φ a k c ≡ made_earlier φ a c m n
      unfolding raw_resolvents made_earlier
      came-is =
          let xs = with_lit (plain a) φ.clauses in
          let ys = with_lit (negated a) φ.clauses in
          let raws = resolvents a xs ys in
          old-prefix
          ∙ ap (λ (p : ℕ). any_of f (take p raws)) whole
          ∙ ap (any_of f) (take-add (i * length ys) j raws)
          ∙ any_append f (take (i * length ys) raws) (take j (drop (i * length ys) raws))
          ∙ ap₂ ◌||◌
          (ap (any_of f) (rows_take a xs ys i (omega arith) ∙ ap (λ (zs : List (List ℕ)). resolvents a zs ys) rows_before)
          ∙ any-rows f a (with_lit (plain a) (take m φ.clauses)) ys ∙ rows_are (take m φ.clauses) φ.clauses)
          (ap (any_of f) (row_is a xs ys i j i-there (omega arith) ∙ ap₂ (resolvents_of a) positive-number columns-before)
          ∙ any-row f a (get_or φ.clauses m []) (with_lit (negated a) (take n φ.clauses))
          ∙ partners-are (get_or φ.clauses m []) (take n φ.clauses) (rw positive-number at has-own))

-- The pairs before one, by the numbers of its clauses ---------------------------------------------------------------------------
pub came-told : (φ : Formula) → well_formed φ ≡ true → (a : ℕ) (c : List ℕ) (p : Pair) → PairOf φ a p → (m n : ℕ)
    → m ≡ get_or (clauses_with φ.clauses (2 * a)) p.row 0 → n ≡ get_or (clauses_with φ.clauses (2 * a + 1)) p.column 0 → (r : Bool)
    → r ≡ made_earlier φ a c m n → r ≡ came_before φ a p.number c
unfolding plain negated
came-told φ w a c p g m n is_m is-n r e =
    e ∙ sym (came-is φ a c w p.number p.row p.column g.placed.whole (positive-there φ a p g) (negative-there φ a p g) m n is_m is-n)
