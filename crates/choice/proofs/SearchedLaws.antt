-- What stays searched after a step.
-- Assumes nothing.
use Prim.Native.Nat.{ℕ, ◌+◌, ◌-◌, ◌*◌, ◌≤◌, min}
use mathlib.Core.Path.{◌≡◌, ap, ◌∙◌}
use mathlib.Core.Bool.{true, false, ◌&&◌, not}
use mathlib.Core.List.{List, [], ◌++◌}
use lib.Dec.{eqb}
use lib.ListN.{length, take, length-append}
use lib.Seq.{take-nil}
use borrow.Author.Tests.{ltb-true}
use native.Mathlib.Omega.{arith}
use Rattle.meaning.specs.Lists.{any_of, has, part_of, without, same}
use Rattle.meaning.specs.Formula.{Formula, var, opposite, is_var, mentions, drop_var, existential, universal}
use Rattle.meaning.specs.Tidy.{build_on, tidied}
use Rattle.meaning.specs.WellFormed.{tidy_clause, well_formed}
use Rattle.rules.specs.Simplify.{is_clause, pure_permitted, subsume_raw, replace_at, strengthens, strengthen_permitted, strengthen_raw}
use Rattle.rules.specs.Eliminate.{without_var}
use Rattle.rules.specs.Entry.{pure, subsume, strengthen, resolve}
use Rattle.rules.specs.Step.{raw_of, result_of}
use Rattle.index.specs.Index.{clauses_with}
use Rattle.walks.specs.Walks.{some_strengthens}
use Rattle.search.specs.Searched.{Searched, SearchedTo}
use Rattle.weigh.specs.Resolving.{rest_of, stay_of, raw_resolvents, pairs, resolved_to}
use Rattle.meaning.proofs.Basics.{clash, false_of, and_l, and_r, and_i}
use Rattle.meaning.proofs.Lists.{any-le, any-keep-le}
use Rattle.meaning.proofs.Parts.{good_of, tidy_of, distinct_of}
use Rattle.meaning.proofs.Again.{build-same}
use Rattle.rules.proofs.Permitted.{pure-says, strengthen-says}
use Rattle.weigh.proofs.ResolvResult.{result-is}
use Rattle.weigh.proofs.ResolvStay.{stay-clauses}
use Rattle.choice.proofs.StayLaws.{first_more, keep-first, build-first, gone-first, gone-all, gone-distinct, replaced-first, gone_with, gone-is, no_pairs, pure-is-resolved}

-- Among fewer clauses, with fewer existentials --------------------------------------------------------------------
-- fewer existentials strengthen less
weaker : (p q : List ℕ) → ((v : ℕ) → existential q v ≡ true → existential p v ≡ true) → (x y : List ℕ)
    → some_strengthens q x y ≡ true → some_strengthens p x y ≡ true
unfolding some_strengthens strengthens
weaker p q e x y =
    any-le (strengthens q x y) (strengthens p x y) x
    (λ l k. and_i (existential p (var l)) (has (opposite l) y && part_of (without l x) y)
    (e (var l) (and_l (existential q (var l)) (has (opposite l) y && part_of (without l x) y) k))
    (and_r (existential q (var l)) (has (opposite l) y && part_of (without l x) y) k))

pub searched-fewer : {p q : List ℕ} {cs ds : List (List ℕ)} → ((v : ℕ) → existential q v ≡ true → existential p v ≡ true)
    → ((x : List ℕ) → any_of (same x) ds ≡ true → any_of (same x) cs ≡ true) → Searched p cs → Searched q ds
searched-fewer {p} {q} {cs} {ds} e i h =
    record {
      no-part = λ x y a b. h.no-part x y (i x a) (i y b);
      no-stronger = λ x y a b. false_of (some_strengthens q x y) (λ s. clash (weaker p q e x y s) (h.no-stronger x y (i x a) (i y b)));
    }

-- without a variable there are fewer existentials
drop-exists : (a : ℕ) (p : List ℕ) (v : ℕ) → existential (drop_var a p) v ≡ true → existential p v ≡ true
unfolding existential drop_var has
drop-exists a p v h = any-keep-le (λ k. eqb (2 * v) k) (λ q. not (is_var a q)) p h

-- By kind ---------------------------------------------------------------------------------------------------------
-- 3: one clause goes
pub searched-subsume : (φ : Formula) → well_formed φ ≡ true → (a b m : ℕ) → SearchedTo φ m → (n : ℕ) → n ≡ m - 1 → SearchedTo (result_of φ subsume a b) n
unfolding SearchedTo result_of raw_of tidied subsume_raw
searched-subsume φ w a b m q n e =
    let cs = replace_at φ.clauses b [] in
    let well : well_formed (record { prefix = φ.prefix; clauses = cs }) ≡ true =
    unfold well_formed in
    rw (good_of φ w, gone-all (tidy_clause φ.prefix) φ.clauses b (tidy_of φ w)) (gone-distinct φ.clauses b (distinct_of φ w)) in
    rw (build-same (record { prefix = φ.prefix; clauses = cs }) well)
    (searched-fewer (λ v k. k) (λ x h. gone-first (same x) φ.clauses b n m (omega arith) h) q)

-- 4: the clauses before the one that is shortened stay
pub searched-strengthen : (φ : Formula) → well_formed φ ≡ true → (a b : ℕ) → strengthen_permitted φ a b ≡ true → (m : ℕ) → SearchedTo φ m
    → (n : ℕ) → n ≡ min m b → SearchedTo (result_of φ strengthen a b) n
unfolding SearchedTo result_of raw_of tidied strengthen_raw is_clause
searched-strengthen φ w a b h m q n e =
    rw (replaced-first φ w b (ltb-true b (length φ.clauses) (strengthen-says φ a b h).there-b) _ n (omega arith))
    (searched-fewer (λ v k. k) (λ x i. first_more (same x) n m φ.clauses (omega arith) i) q)

-- 2 and 6: the clauses without the variable stay
module _ (φ : Formula) (w : well_formed φ ≡ true) (a m : ℕ) (q : SearchedTo φ m) where
  searched-stay : (n : ℕ) → n ≤ m - gone_with φ a → Searched (rest_of φ a) (take n (stay_of φ a))
  unfolding SearchedTo without_var
  searched-stay n l =
      searched-fewer (drop-exists a φ.prefix)
      (λ x h. keep-first (same x) (λ c. not (mentions c a)) φ.clauses n m (omega (arith, stay-clauses φ w a)) h) q

  searched-resolved : (n : ℕ) → n ≤ m - gone_with φ a → n ≤ length (stay_of φ a) → SearchedTo (result_of φ resolve a 0) n
  unfolding SearchedTo resolved_to
  searched-resolved n l k =
      rw (result-is φ w a, build-first (rest_of φ a) (stay_of φ a) (take (pairs φ a) (raw_resolvents φ a)) n k) (searched-stay n l)

  searched-lone : pure_permitted φ a ≡ true → (universal φ.prefix a ≡ true → gone_with φ a ≡ 0) → (n : ℕ) → n ≤ m - gone_with φ a
      → SearchedTo (result_of φ pure a 0) n
  unfolding SearchedTo resolved_to build_on
  searched-lone h u n l =
      let one = (pure-says φ a h).one-phase in
      rw (pure-is-resolved φ a one u, result-is φ w a, no_pairs φ a one u, take-nil (pairs φ a)) (searched-stay n l)

  -- kind 2: x and y clauses have the two literals
  module _ (h : pure_permitted φ a ≡ true) (x y : ℕ) (is_x : x ≡ length (clauses_with φ.clauses (2 * a)))
      (is_y : y ≡ length (clauses_with φ.clauses (2 * a + 1))) where
    pub searched-absent : x + y ≡ 0 → SearchedTo (result_of φ pure a 0) m
    searched-absent z = searched-lone h (λ u. omega (arith, gone-is φ a)) m (omega (arith, gone-is φ a))

    pub searched-pure : universal φ.prefix a ≡ false → (n : ℕ) → n ≡ m - (x + y) → SearchedTo (result_of φ pure a 0) n
    searched-pure u n e = searched-lone h (λ v. clash v u) n (omega (arith, gone-is φ a))

-- kind 6: the resolvents are put behind the clauses that stay. s are the clauses with the variable
pub searched-resolve : (φ : Formula) → well_formed φ ≡ true → (a m : ℕ) → SearchedTo φ m → m ≡ length φ.clauses → (s : List ℕ)
    → s ≡ clauses_with φ.clauses (2 * a) ++ clauses_with φ.clauses (2 * a + 1) → (n : ℕ) → n ≡ m - length s → SearchedTo (result_of φ resolve a 0) n
searched-resolve φ w a m q k s is n e =
    let g = gone-is φ a in
    let l = ap length is ∙ length-append (clauses_with φ.clauses (2 * a)) (clauses_with φ.clauses (2 * a + 1)) in
    searched-resolved φ w a m q n (omega arith) (omega (arith, stay-clauses φ w a))
