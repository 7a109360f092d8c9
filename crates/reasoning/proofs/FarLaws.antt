-- What is too far right, on a table: by places in the clauses, and the lowest clause by its index.
-- Assumes nothing.
use Prim.Native.Nat.{ℕ, ◌+◌, ◌≤◌, ◌<◌}
use mathlib.Core.Path.{◌≡◌, refl, sym, ap, ◌∙◌}
use mathlib.Core.Bool.{Bool, true, false, not}
use mathlib.Core.List.{List, [], ◌∷◌}
use lib.ListN.{length, get_or, take, drop, drop_of_length-le, get_or-eq_default}
use lib.Seq.{drop-cons}
use lib.Dec.{leb, ltb}
use native.Mathlib.Numerals.{add-one}
use native.Mathlib.Nat.{add-zero, zero-add}
use native.Mathlib.Omega.{arith}
use borrow.Author.Tests.{le-leb, lt-leb, ltb-true, ltb-false}
use Rattle.meaning.specs.Lists.{any_of, first_passing}
use Rattle.meaning.specs.Formula.{Formula, var, mentions}
use Rattle.meaning.specs.WellFormed.{bound, good_prefix, well_formed}
use Rattle.rules.specs.Simplify.{clause_at}
use Rattle.rules.specs.Eliminate.{from_universal, avoids}
use Rattle.table.specs.Table.{Holds}
use Rattle.table.specs.declared.Counts.{Counts}
use Rattle.permits.specs.Places.{place_of, within}
use Rattle.reasons.specs.Reason.{far_part, reaches_far, first_index, far_clause, leftmost_in, far_variable}
use Rattle.meaning.proofs.Basics.{by_cases}
use Rattle.meaning.proofs.Lists.{all-agree}
use Rattle.meaning.proofs.Parts.{bound_of}
use Rattle.rules.proofs.Permitted.{tidy-at}
use Rattle.table.proofs.HoldLaws.{count-clauses, prefix-is}
use Rattle.permits.proofs.AndLaws.{and_second, and_none}
use Rattle.permits.proofs.ClauseLaws.{present}
use Rattle.permits.proofs.PlaceLaws.{behind}
use Rattle.reasoning.proofs.BehindLaws.{right_is}

-- What stands behind n entries is avoided exactly by the clauses within n ------------------------------------------
not_behind : (n m : ℕ) → not (ltb n m) ≡ leb m n
not_behind n m = by_cases (ltb n m) (λ t. ap not t ∙ sym (lt-leb m n (ltb-true n m t))) (λ t. ap not t ∙ sym (le-leb m n (ltb-false n m t)))

avoids-within : (p c : List ℕ) (n : ℕ) → good_prefix p ≡ true → bound p c ≡ true → avoids (drop n p) c ≡ within p n c
unfolding avoids within bound
avoids-within p c n g b =
    all-agree (λ l. mentions p (var l)) (λ l. not (mentions (drop n p) (var l))) (λ l. leb (place_of p (var l)) n) c b
    (λ l m. ap not (behind n p (var l) g m) ∙ not_behind n (place_of p (var l)))

-- A clause that reaches too far: h says whether it has x, w whether it is within n
module _ (c : List ℕ) (x : ℕ) (h : Bool) (has-x : h ≡ mentions c x) where
  pub reaches-is : h ≡ true → (p : List ℕ) (n : ℕ) (w : Bool) → w ≡ within p n c → good_prefix p ≡ true → bound p c ≡ true → not w ≡ reaches_far (drop n p) x c
  unfolding reaches_far
  reaches-is e p n w k g b = and_second (mentions c x) _ h (not w) has-x e (ap not (k ∙ sym (avoids-within p c n g b)))

  pub reaches-not : h ≡ false → (far : List ℕ) → false ≡ reaches_far far x c
  unfolding reaches_far
  reaches-not e far = and_none (mentions c x) _ h has-x e

-- The lowest that passes, at index i ---------------------------------------------------------------------------------
module _ (f : List ℕ → Bool) (cs : List (List ℕ)) (i : ℕ) (inv : first_index f cs ≡ i + first_index f (drop i cs)) where
  pub index-found : i < length cs → f (get_or cs i []) ≡ true → i ≡ first_index f cs
  unfolding first_index
  index-found h e = sym (inv ∙ rw (drop-cons cs i [], e) (add-zero i))

  pub index-turn : i < length cs → f (get_or cs i []) ≡ false → first_index f cs ≡ i + 1 + first_index f (drop (i + 1) cs)
  unfolding first_index
  index-turn h e =
      let k : first_index f (drop i cs) ≡ 1 + first_index f (drop (i + 1) cs) = rw (add-one, drop-cons cs i [], e) (omega arith) in
      omega (arith, inv)

  pub index-end : length cs ≤ i → i ≡ first_index f cs
  unfolding first_index
  index-end h = sym (inv ∙ rw (drop_of_length-le cs {i = i} h) (add-zero i))

-- From a table that holds the formula --------------------------------------------------------------------------------
module _ {φ : Formula} {t : List ℕ} {c : Counts} (h : Holds φ t c) (w : well_formed φ ≡ true) where
  -- clause i, as it is read, has only variables of the prefix
  pub clause-bound : (i : ℕ) → i < c.clauses → (d : List ℕ) → d ≡ get_or φ.clauses i [] → bound φ.prefix d ≡ true
  unfolding clause_at
  clause-bound i k d e = ap (bound φ.prefix) e ∙ bound_of φ.prefix (clause_at φ.clauses i) (tidy-at φ w i (present h i k))

pub far-start : (f : List ℕ → Bool) (cs : List (List ℕ)) → first_index f cs ≡ 0 + first_index f cs
far-start f cs = sym (zero-add (first_index f cs))

-- The loop over the clauses, at clause i, read as d: b says whether it reaches the part s
module _ {φ : Formula} {t : List ℕ} {c : Counts} (h : Holds φ t c) (w : well_formed φ ≡ true) (x i : ℕ) (s : List ℕ) (part : far_part φ x ≡ s) (inv : first_index (reaches_far s x) φ.clauses ≡ i + first_index (reaches_far s x) (drop i φ.clauses)) where
  abbrev far : List ℕ → Bool
  far = reaches_far s x

  clause-is : first_index far φ.clauses ≡ far_clause φ x
  unfolding far_clause
  clause-is = ap (λ (q : List ℕ). first_index (reaches_far q x) φ.clauses) (sym part)

  module _ (k : i < c.clauses) (d : List ℕ) (is : d ≡ get_or φ.clauses i []) (b : Bool) (said : bound φ.prefix d ≡ true → b ≡ far d) where
    there : i < length φ.clauses
    there = omega (arith, count-clauses h)

    far-is : far (get_or φ.clauses i []) ≡ b
    far-is = ap far (sym is) ∙ sym (said (clause-bound h w i k d is))

    pub far-found : b ≡ true → i ≡ far_clause φ x
    far-found e = index-found far φ.clauses i inv there (far-is ∙ e) ∙ clause-is

    pub far-turn : b ≡ false → first_index far φ.clauses ≡ i + 1 + first_index far (drop (i + 1) φ.clauses)
    far-turn e = index-turn far φ.clauses i inv there (far-is ∙ e)

  pub far-end : c.clauses ≤ i → i ≡ far_clause φ x
  far-end k = index-end far φ.clauses i inv (omega (arith, count-clauses h)) ∙ clause-is

never : (p : List ℕ) → var (first_passing (λ q. false) p) ≡ 0
unfolding first_passing var
never [] = refl
never (q ∷ p) = never p

-- The leftmost such variable of clause i, and that there is none past the end ------------------------------------------
module _ {φ : Formula} {t : List ℕ} {c : Counts} (h : Holds φ t c) (n i : ℕ) where
  pub variable-is : (d : List ℕ) → d ≡ get_or φ.clauses i [] → (r : ℕ) → r ≡ leftmost_in (drop n (take c.variables t)) d → r ≡ leftmost_in (drop n φ.prefix) (clause_at φ.clauses i)
  unfolding clause_at
  variable-is d e r q = q ∙ rw (prefix-is h, e)

  pub variable-none : c.clauses ≤ i → 0 ≡ leftmost_in (drop n φ.prefix) (clause_at φ.clauses i)
  unfolding clause_at leftmost_in
  variable-none k =
      let e : get_or φ.clauses i [] ≡ [] = get_or-eq_default φ.clauses [] {n = i} (omega (arith, count-clauses h)) in
      rw e (sym (none (drop n φ.prefix)))
    where
      none : (p : List ℕ) → var (first_passing (λ q. mentions [] (var q)) p) ≡ 0
      none p = unfold mentions any_of in never p

-- What keeps x from being resolved: m is its place, i the clause, y the variable, u the universal -----------------------
module _ {φ : Formula} {t : List ℕ} {c : Counts} (h : Holds φ t c) (x m : ℕ) (at : m ≡ place_of φ.prefix x) (there : mentions φ.prefix x ≡ true) (n : ℕ) (part : from_universal (drop m (take c.variables t)) ≡ drop n (take c.variables t)) where
  pub part-is : far_part φ x ≡ drop n φ.prefix
  unfolding far_part
  part-is = ap from_universal (sym (right_is h x m at there)) ∙ part ∙ ap (drop n) (prefix-is h)

  pub far-is-variable : (i y : ℕ) → i ≡ far_clause φ x → y ≡ leftmost_in (drop n φ.prefix) (clause_at φ.clauses i) → y ≡ far_variable φ x
  unfolding far_variable
  far-is-variable i y e q = q ∙ rw (← part-is, e)
