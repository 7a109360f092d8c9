-- The clauses of f and the existentials right of the universal, by places.
-- Assumes nothing.
use mathlib.Core.Path.{◌≡◌, refl, sym, ◌∙◌, ap, ap₂}
use Prim.Native.Nat.{ℕ, ◌+◌}
use mathlib.Core.Bool.{true, false, ◌&&◌, not}
use mathlib.Core.List.{List, [], ◌∷◌}
use lib.Dec.{ltb}
use lib.ListN.{length, drop}
use Rattle.meaning.specs.Lists.{has}
use Rattle.meaning.specs.Formula.{var, odd, mentions, existential, universal, right_of, any_exist}
use Rattle.meaning.specs.WellFormed.{good_prefix}
use Rattle.rules.specs.Eliminate.{inner}
use Rattle.permits.specs.Variables.{existentials}
use Rattle.permits.specs.Places.{place_of}
use Rattle.meaning.proofs.Basics.{clash, false_of, iff, and_l, and_r, and_i}
use Rattle.meaning.proofs.Lists.{any-has, any-witness, any-keep-le, has-keep}
use Rattle.meaning.proofs.Literals.{negated-is}
use Rattle.meaning.proofs.Prefix.{one-kind, exists-mentioned}
use Rattle.permits.proofs.PlaceLaws.{place-right, right-by-place}
use Rattle.growth.specs.Expanding.{inner_lit, reaches, share_of, clauses_of, literals_of, expanded_clauses, expanded_literals}
use Rattle.growth.proofs.ExpandLists.{mentions-has, mentions-from}
use Rattle.growth.proofs.ExpandClauses.{right-has, right-exists, right-witness, exist-of}
use Rattle.growth.proofs.ExpandSums.{share_by, clauses_by, literals_by}

-- an entry of an existential is even
entry-odd : (p : List ℕ) (q : ℕ) → has q p ≡ true → odd q ≡ true → universal p (var q) ≡ true
unfolding universal
entry-odd p q h o = ap (λ (k : ℕ). has k p) (sym (negated-is q o)) ∙ h

entry-even : (p : List ℕ) (q : ℕ) → good_prefix p ≡ true → has q p ≡ true → existential p (var q) ≡ true → odd q ≡ false
entry-even p q g h e = false_of _ (λ o. clash (entry-odd p q h o) (one-kind p g (var q) e))

inner-has : (q a : ℕ) (p : List ℕ) → has q (inner a p) ≡ true → has q (right_of a p) ≡ true
unfolding inner has
inner-has q a p h = any-keep-le _ _ _ h

has_inner : (q a : ℕ) (p : List ℕ) → has q (right_of a p) ≡ true → odd q ≡ false → has q (inner a p) ≡ true
unfolding inner
has_inner q a p h e = has-keep _ _ q h (ap not e)

module _ (p : List ℕ) (a : ℕ) (g : good_prefix p ≡ true) (m : mentions p a ≡ true) where
  -- a literal right of a
  right-lit : (v : ℕ) → existential p v ≡ true → mentions (right_of a p) v ≡ ltb (place_of p a) (place_of p v)
  right-lit v e = right-by-place p a v g m (exists-mentioned p v e)

  reach-exist : (c : List ℕ) → reaches p (place_of p a) c ≡ true → any_exist (inner a p) c ≡ true
  unfolding reaches inner_lit
  reach-exist c h =
      let w : (l : ℕ) × (has l c ≡ true) × ((existential p (var l) && ltb (place_of p a) (place_of p (var l))) ≡ true) = any-witness _ c h in
      let e : existential p (var w.0) ≡ true = and_l _ _ w.2 in
      let q : (q : ℕ) × (has q (right_of a p) ≡ true) × (var q ≡ var w.0) =
      mentions-from _ _ (right-lit _ e ∙ and_r (existential p (var w.0)) _ w.2) in
      let o : odd q.0 ≡ false = entry-even p q.0 g (right-has q.0 a p q.1) (rw q.2 e) in
      exist-of _ c q.0 (has_inner q.0 a p q.1 o) o (rw q.2 (mentions-has c w.0 w.1))

  exist-reach : (c : List ℕ) → any_exist (inner a p) c ≡ true → reaches p (place_of p a) c ≡ true
  unfolding reaches inner_lit
  exist-reach c h =
      let w : (q : ℕ) × (has q (inner a p) ≡ true) × (odd q ≡ false) × (mentions c (var q) ≡ true) = right-witness _ c h in
      let r : has w.0 (right_of a p) ≡ true = inner-has w.0 a p w.1 in
      let l : (l : ℕ) × (has l c ≡ true) × (var l ≡ var w.0) = mentions-from c _ w.3 in
      let e : existential p (var l.0) ≡ true = right-exists w.0 a (var l.0) p r w.2 l.2 in
      any-has _ c l.0 l.1 (and_i _ _ e (sym (right-lit _ e) ∙ rw l.2 (mentions-has _ w.0 r)))

  share-is : (c : List ℕ) → share_of p (place_of p a) a c ≡ share_by a (inner a p) c
  unfolding share_of share_by
  share-is c = rw (iff (reaches p (place_of p a) c) (any_exist (inner a p) c) (reach-exist c) (exist-reach c))

  pub clauses-by : (cs : List (List ℕ)) → expanded_clauses p (place_of p a) a cs ≡ clauses_by a (inner a p) cs
  unfolding expanded_clauses clauses_by
  clauses-by [] = refl
  clauses-by (c ∷ cs) = ap₂ ◌+◌ (ap clauses_of (share-is c)) (clauses-by cs)

  pub literals-by : (cs : List (List ℕ)) → expanded_literals p (place_of p a) a cs ≡ literals_by a (inner a p) cs
  unfolding expanded_literals literals_by
  literals-by [] = refl
  literals-by (c ∷ cs) = ap₂ ◌+◌ (ap (λ s. literals_of s (length c)) (share-is c)) (literals-by cs)

  pub inner-count : existentials (drop (place_of p a) p) ≡ length (inner a p)
  unfolding existentials inner
  inner-count = rw (place-right p a m)
