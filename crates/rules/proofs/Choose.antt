-- The choice within one kind: what is taken counts and comes first; where nothing is taken no entry of the kind counts. Assumes nothing.
use mathlib.Core.Path.{◌≡◌, refl, sym, ◌∙◌, ap}
use Prim.Native.Nat.{ℕ, zero, suc, ◌+◌, ◌<◌, ◌≤◌}
use native.Mathlib.Omega.{arith}
use mathlib.Core.Bool.{true, false, ◌&&◌, ◌||◌, true≢false, false≢true}
use mathlib.Core.List.{[], ◌∷◌}
use lib.Dec.{eqb, ltb, leb}
use lib.ListN.{length}
use borrow.Author.Tests.{leb-true, ltb-true}
use Rattle.meaning.specs.Lists.{all_of, any_of, has, up_from}
use Rattle.meaning.specs.Formula.{Formula, var, is_var, mentions}
use Rattle.meaning.specs.WellFormed.{weight, fits}
use Rattle.rules.specs.Simplify.{is_clause, strengthen_lit}
use Rattle.rules.specs.Entry.{Kind, unit, pure, subsume, strengthen, equality, resolve, expand, uses_b}
use Rattle.rules.specs.Step.{permitted, result_of}
use Rattle.rules.specs.Choice.{costly, allowed_call, none, found, indices, variables, firsts, seconds, candidate}
use Rattle.meaning.proofs.Basics.{by_cases, false_of, and_l, and_r, or-il, or-ir, or_elim, eqb-true, eqb-eq, eqb-sym, eqb-false, or-false, clash}
use Rattle.meaning.proofs.Lists.{any-le, any-map, all_map, all-has}
use Rattle.rules.proofs.Before.{before, in_order, precedes}
use Rattle.rules.proofs.Entries.{Fields}
use Rattle.rules.proofs.Search.{FirstPair, found-pair, none-pair, Lightest, found-lightest, none-lightest}
use Rattle.meaning.proofs.Parts.{room_of, Room}
use Rattle.meaning.proofs.Prefix.{exists-mentioned, forall-mentioned}
use Rattle.rules.proofs.Permitted.{unit-says, pure-says, SubsumeSays, subsume-says, StrengthenSays, strengthen-says, EqualitySays, equality-says, expand-says, resolve-says, wanted-permitted, allowed-wanted}

-- The lists hold every a and b that a permitted step can have -------------------------------------------------
up-has : (s n c : ℕ) → s ≤ c → c < s + n → has c (up_from s n) ≡ true
unfolding up_from has any_of
up-has s zero c h k = absurd (let z : c < s + 0 = k in omega arith)
up-has s (suc n) c h k =
    by_cases (eqb c s)
    (λ e. or-il _ _ e)
    (λ e. let i : (c ≡ s → ⊥) = eqb-false c s e in or-ir (eqb c s) _ (up-has (suc s) n c (omega arith) (omega arith)))

up-below : (s n c : ℕ) → has c (up_from s n) ≡ true → c < s + n
unfolding up_from has any_of
up-below s zero c h = absurd (false≢true h)
up-below s (suc n) c h = or_elim _ _ h (λ e. let i : c ≡ s = eqb-true c s e in omega arith) (λ e. omega (arith, up-below (suc s) n c e))

-- b is used, or 0: so it is in every entry that is not bad
abbrev pub Used : Kind → ℕ → Type 0
Used k d = (uses_b k || eqb d 0) ≡ true

-- a and b are in the kind's lists
abbrev pub Listed : Formula → Kind → ℕ → ℕ → Type 0
Listed φ k c d = (has c (firsts φ k) ≡ true) × (has d (seconds φ k) ≡ true)

module _ (φ : Formula) where
  index-has : (c : ℕ) → is_clause φ.clauses c ≡ true → has c (indices φ) ≡ true
  unfolding indices is_clause
  index-has c h = let i : c < length φ.clauses = ltb-true c _ h in up-has 0 _ c (omega arith) (omega arith)

  pub index_below : (c : ℕ) → has c (indices φ) ≡ true → c < length φ.clauses
  unfolding indices
  index_below c h = let i : c < 0 + length φ.clauses = up-below 0 _ c h in omega arith

  variable-has : (c : ℕ) → mentions φ.prefix c ≡ true → has c (variables φ) ≡ true
  unfolding variables has mentions is_var
  variable-has c h = any-map _ var _ ∙ any-le _ _ _ (λ q e. eqb-sym c (var q) ∙ e) h

  pub variable-mentions : (c : ℕ) → has c (variables φ) ≡ true → mentions φ.prefix c ≡ true
  unfolding variables has mentions is_var
  variable-mentions c h = any-le _ _ _ (λ q e. eqb-sym (var q) c ∙ e) (sym (any-map _ var _) ∙ h)

  variable-below : all_of (λ q. leb (var q) 1023) φ.prefix ≡ true → (c : ℕ) → has c (variables φ) ≡ true → c ≤ 1023
  unfolding variables
  variable-below h c i = leb-true c 1023 (all-has _ _ c (all_map (λ v. leb v 1023) var _ ∙ h) i)

  zero_is : (d : ℕ) → has d (0 ∷ []) ≡ eqb d 0
  unfolding has any_of
  zero_is d = or-false (eqb d 0)

  pub listed : (k : Kind) (a b : ℕ) → Used k b → permitted φ k a b ≡ true → Listed φ k a b
  unfolding permitted firsts seconds uses_b
  listed unit a b u h = (index-has a (unit-says φ a h).there, zero_is b ∙ u)
  listed pure a b u h = (variable-has a (pure-says φ a h).inside, zero_is b ∙ u)
  listed subsume a b u h = let s : SubsumeSays φ a b = subsume-says φ a b h in (index-has a s.there-a, index-has b s.there-b)
  listed strengthen a b u h = let s : StrengthenSays φ a b (strengthen_lit φ a b) = strengthen-says φ a b h in (index-has a s.there-a, index-has b s.there-b)
  listed equality a b u h = let s : EqualitySays φ a b = equality-says φ a b h in (index-has a s.there-a, index-has b s.there-b)
  listed resolve a b u h = (variable-has a (exists-mentioned _ a (resolve-says φ a h).exists), zero_is b ∙ u)
  listed expand a b u h = (variable-has a (forall-mentioned _ a (expand-says φ a h).forall), zero_is b ∙ u)

  -- what is listed can be written as an entry
  pub fields-of : fits φ ≡ true → (k : Kind) (a b : ℕ) → Listed φ k a b → Fields k a b
  unfolding firsts seconds uses_b
  fields-of f k a b l = go k l.0 l.1
    where
      o : Room φ
      o = room_of φ f

      i-small : (c : ℕ) → has c (indices φ) ≡ true → c < 2048
      i-small c h = omega (arith, index_below c h, o.clauses)

      v-small : (c : ℕ) → has c (variables φ) ≡ true → c < 2048
      v-small c h = omega (arith, variable-below o.numbers c h)

      z-small : (c : ℕ) → has c (0 ∷ []) ≡ true → c < 2048
      z-small c h = let z : c ≡ 0 = eqb-true c 0 (sym (zero_is c) ∙ h) in omega arith

      go : (k : Kind) → has a (firsts φ k) ≡ true → has b (seconds φ k) ≡ true → Fields k a b
      go unit x y = record { a_small = i-small a x; b-small = z-small b y; b-used = sym (zero_is b) ∙ y }
      go pure x y = record { a_small = v-small a x; b-small = z-small b y; b-used = sym (zero_is b) ∙ y }
      go subsume x y = record { a_small = i-small a x; b-small = i-small b y; b-used = refl }
      go strengthen x y = record { a_small = i-small a x; b-small = i-small b y; b-used = refl }
      go equality x y = record { a_small = i-small a x; b-small = i-small b y; b-used = refl }
      go resolve x y = record { a_small = v-small a x; b-small = z-small b y; b-used = sym (zero_is b) ∙ y }
      go expand x y = record { a_small = v-small a x; b-small = z-small b y; b-used = sym (zero_is b) ∙ y }

-- One kind ---------------------------------------------------------------------------------------------------
costly-b : (k : Kind) → costly k ≡ true → uses_b k ≡ false
unfolding costly uses_b
costly-b unit e = absurd (false≢true e)
costly-b pure e = absurd (false≢true e)
costly-b subsume e = absurd (false≢true e)
costly-b strengthen e = absurd (false≢true e)
costly-b equality e = absurd (false≢true e)
costly-b resolve e = refl
costly-b expand e = refl

no-b : (k : Kind) → costly k ≡ true → (d : ℕ) → Used k d → d ≡ 0
no-b k e d u = eqb-true d 0 (rw (costly-b k e) at u)

zero-b : (φ : Formula) (k : Kind) → costly k ≡ true → (d : ℕ) → d ≡ 0 → has d (seconds φ k) ≡ true
unfolding seconds
zero-b φ k e d z = rw (costly-b k e) (zero_is φ d ∙ eqb-eq z)

module _ (E : ℕ) (φ : Formula) where
  -- the step of this kind that the run takes: it counts, and none that counts comes before it
  pub record Best (k : Kind) (a b : ℕ) : Type 0 where
    pub counts : allowed_call E φ k a b ≡ true
    pub listed-as : Listed φ k a b
    pub first : (c d : ℕ) → Used k d → precedes φ k c d a b ≡ true → allowed_call E φ k c d ≡ false

  allowed-listed : (k : Kind) (a b : ℕ) → Used k b → allowed_call E φ k a b ≡ true → Listed φ k a b
  allowed-listed k a b u h = listed φ k a b u (wanted-permitted E φ k a b (allowed-wanted E φ k a b h))

  best-first : (k : Kind) (a b : ℕ) → costly k ≡ false → FirstPair (allowed_call E φ k) (firsts φ k) (seconds φ k) a b → Best k a b
  unfolding precedes in_order
  best-first k a b e r = record { counts = r.passes; listed-as = (r.in-a, r.in_b); first = order }
    where
      order : (c d : ℕ) → Used k d → precedes φ k c d a b ≡ true → allowed_call E φ k c d ≡ false
      order c d u h = false_of _ (λ i. true≢false (sym i ∙ r.first c d (allowed-listed k c d u i).1 (rw e at h)))

  best-light : (k : Kind) (a b : ℕ) → costly k ≡ true → Lightest (λ a. allowed_call E φ k a 0) (λ a. weight (result_of φ k a 0)) (firsts φ k) a b → Best k a b
  unfolding precedes
  best-light k a b e r = record { counts = ap (allowed_call E φ k a) r.no-b ∙ r.passes; listed-as = (r.inside, zero-b φ k e b r.no-b); first = order }
    where
      w : ℕ → ℕ
      w c = weight (result_of φ k c 0)

      no_less : (c : ℕ) → has c (firsts φ k) ≡ true → (ltb (w c) (w a) || (eqb (w c) (w a) && before (firsts φ k) c a)) ≡ true → allowed_call E φ k c 0 ≡ true
          → ⊥
      no_less c l h i =
          or_elim _ _ h
          (λ j. let x : w c < w a = ltb-true (w c) (w a) j in let y : w a ≤ w c = r.least c l i in omega arith)
          (λ j. let x : w c ≡ w a = eqb-true (w c) (w a) (search and_l) in let y : w a < w c = r.first c (search and_r) i in omega arith)

      order : (c d : ℕ) → Used k d → precedes φ k c d a b ≡ true → allowed_call E φ k c d ≡ false
      order c d u h = false_of _ (λ i. no_less c (allowed-listed k c d u i).0 (rw e at h) (ap (allowed_call E φ k c) (sym (no-b k e d u)) ∙ i))

  pub find-found : (k : Kind) (a b : ℕ) → candidate E φ k ≡ found a b → Best k a b
  unfolding candidate
  find-found k a b h =
      by_cases (costly k)
      (λ e. best-light k a b e (found-lightest _ _ _ a b (rw e at h)))
      (λ e. best-first k a b e (found-pair _ _ _ a b (rw e at h)))

  pub find_none : (k : Kind) → candidate E φ k ≡ none → (c d : ℕ) → Used k d → allowed_call E φ k c d ≡ false
  unfolding candidate
  find_none k h c d u =
      false_of _
      (λ i. by_cases (costly k)
      (λ e. clash (ap (allowed_call E φ k c) (sym (no-b k e d u)) ∙ i) (none-lightest _ _ _ (rw e at h) c (allowed-listed k c d u i).0))
      (λ e. clash i (none-pair _ _ _ (rw e at h) c d (allowed-listed k c d u i).0 (allowed-listed k c d u i).1)))
