-- The branches of src/lib.rt, and the turn and the ends of its loop.
-- Assumes nothing.
use mathlib.Core.Path.{◌≡◌, ◌∙◌, ap}
use Prim.Native.Nat.{ℕ, zero, suc, ◌+◌, ◌*◌, ◌/◌, ◌≤◌, ◌<◌}
use mathlib.Core.Bool.{Bool, true, false, not}
use mathlib.Core.List.{List, [], ◌∷◌}
use native.Mathlib.Omega.{arith}
use native.Mathlib.Numerals.{add-one}
use lib.Dec.{ltb}
use lib.ListN.{length, get_or, take, drop, drop_of_length-le, length-take, length-drop}
use lib.Seq.{drop-cons}
use borrow.Author.Tests.{lt-ltb, le-ltb}
use Rattle.meaning.specs.Formula.{Formula, var, odd, mentions, existential}
use Rattle.meaning.specs.WellFormed.{literals, weight}
use Rattle.table.specs.Table.{Holds, counts_of}
use Rattle.table.specs.declared.Counts.{Counts}
use Rattle.permits.specs.Variables.{existentials}
use Rattle.permits.specs.Places.{place_of}
use Rattle.meaning.proofs.Weight.{keep-length}
use Rattle.table.proofs.HoldLaws.{room}
use Rattle.permits.proofs.AndLaws.{and_second, and_none}
use Rattle.growth.specs.Expanding.{inner_lit, reaches, share_of, clauses_of, literals_of, expanded_clauses, expanded_literals, expanded_size, weight_of, counts_fit, weighed_counts}
use Rattle.growth.specs.declared.Weighed.TheVariants.{Over, Fitting, Wide}
use Rattle.growth.specs.declared.Share.{Share}
use Rattle.growth.specs.declared.Share.TheVariants.{Stays, Loses, Doubles}
use Rattle.growth.specs.declared.Size.{Size}

-- A clause --------------------------------------------------------------------------------------------------------------
module _ (p : List ℕ) (n l v : ℕ) (is : v ≡ l / 2) (e : Bool) (said : e ≡ existential p v) where
  pub inner-is : e ≡ true → (m : ℕ) → m ≡ place_of p v → ltb n m ≡ inner_lit p n l
  unfolding inner_lit var
  inner-is t m q = and_second _ _ e (ltb n m) (said ∙ ap (existential p) is) t (rw (q, is))

  pub inner-not : e ≡ false → false ≡ inner_lit p n l
  unfolding inner_lit var
  inner-not t = and_none _ _ e (said ∙ ap (existential p) is) t

module _ (p : List ℕ) (n a : ℕ) (c : List ℕ) (r : Bool) (is : r ≡ reaches p n c) where
  pub share-stays : r ≡ false → Stays ≡ share_of p n a c
  unfolding share_of
  share-stays t = rw (← is, t)

  pub share-loses : r ≡ true → (m : Bool) → m ≡ mentions c a → m ≡ true → Loses ≡ share_of p n a c
  unfolding share_of
  share-loses t m q u = rw (← is, t, ← q, u)

  pub share-doubles : r ≡ true → (m : Bool) → m ≡ mentions c a → m ≡ false → Doubles ≡ share_of p n a c
  unfolding share_of
  share-doubles t m q u = rw (← is, t, ← q, u)

-- All clauses -------------------------------------------------------------------------------------------------------------
-- x clauses and y literals of the clauses before i; what is left makes the whole
pub record Summing (p : List ℕ) (n a : ℕ) (cs : List (List ℕ)) (i x y : ℕ) : Type 0 where
  pub clauses : x + expanded_clauses p n a (drop i cs) ≡ expanded_clauses p n a cs
  pub literals : y + expanded_literals p n a (drop i cs) ≡ expanded_literals p n a cs

pub sum-start : (p : List ℕ) (n a : ℕ) (cs : List (List ℕ)) → Summing p n a cs 0 0 0
sum-start p n a cs = record { clauses = omega arith; literals = omega arith }

module _ (p : List ℕ) (n a : ℕ) (cs : List (List ℕ)) (i x y : ℕ) (g : Summing p n a cs i x y) where
  pub sum-turn : i < length cs → (c : List ℕ) → c ≡ get_or cs i [] → (s : Share) → s ≡ share_of p n a c
      → (k m : ℕ) → k ≡ clauses_of s → m ≡ literals_of s (length c) → Summing p n a cs (i + 1) (x + k) (y + m)
  unfolding expanded_clauses expanded_literals
  sum-turn h c e s f k m u v =
      let d : drop i cs ≡ c ∷ drop (i + 1) cs = rw (add-one, e) (drop-cons cs i [] h) in
      let one : expanded_clauses p n a (drop i cs) ≡ k + expanded_clauses p n a (drop (i + 1) cs) = rw (d, u, f) in
      let two : expanded_literals p n a (drop i cs) ≡ m + expanded_literals p n a (drop (i + 1) cs) = rw (d, v, f) in
      record { clauses = omega (arith, one, g.clauses); literals = omega (arith, two, g.literals) }

  pub sum-end : length cs ≤ i → ◌≡◌ {A = Size} (record { clauses = x; literals = y }) (expanded_size p n a cs)
  unfolding expanded_size expanded_clauses expanded_literals
  sum-end h =
      let d : drop i cs ≡ [] = drop_of_length-le cs {i = i} h in
      let one : expanded_clauses p n a (drop i cs) ≡ 0 = rw d in
      let two : expanded_literals p n a (drop i cs) ≡ 0 = rw d in
      let u : x ≡ expanded_clauses p n a cs = omega (arith, one, g.clauses) in
      let v : y ≡ expanded_literals p n a cs = omega (arith, two, g.literals) in
      rw (u, v)

-- Bounds ----------------------------------------------------------------------------------------------------------------
pub clauses-few : (s : Share) (k : ℕ) → k ≡ clauses_of s → k ≤ 2
unfolding clauses_of
clauses-few Stays k e = omega arith
clauses-few Loses k e = omega arith
clauses-few Doubles k e = omega arith

pub literals-few : (s : Share) (m k : ℕ) → k ≡ literals_of s m → k ≤ 2 * m
unfolding literals_of
literals-few Stays m k e = omega arith
literals-few Loses m k e = omega arith
literals-few Doubles m k e = omega arith

pub take-few : (v m : ℕ) (t : List ℕ) → v ≤ m → length (take v t) ≤ m
take-few v m t h = omega (arith, length-take v t)

-- no more existentials than entries
pub existentials-few : (p : List ℕ) (from k m : ℕ) → k ≡ existentials (drop from p) → length p ≤ m → k ≤ m
unfolding existentials
existentials-few p from k m e h = omega (arith, e, keep-length (λ q. not (odd q)) (drop from p), length-drop from p)

-- a clause has no more literals than all
get_d-few : (cs : List (List ℕ)) (i : ℕ) → length (get_or cs i []) ≤ literals cs
unfolding literals
get_d-few [] i = omega arith
get_d-few (c ∷ cs) zero = omega arith
get_d-few (c ∷ cs) (suc i) = let h = get_d-few cs i in omega arith

pub clause-few : {φ : Formula} {t : List ℕ} {e : Counts} → Holds φ t e → (i : ℕ) (c : List ℕ) → c ≡ get_or φ.clauses i [] → length c ≤ 8191
clause-few {φ} {t} {e} h i c is = let r = room h in rw is (omega (arith, get_d-few φ.clauses i, r.literals))

-- The counts against the limits and the bound --------------------------------------------------------------------------------
module _ (d : Counts) where
  module _ (below w : ℕ) (is : w ≡ weight_of d) where
    pub weighs-over : below ≤ w → Over ≡ weighed_counts below d
    unfolding weighed_counts
    weighs-over h = rw (← is, le-ltb w below h)

    module _ (h : w < below) (f : Bool) (said : f ≡ counts_fit d) where
      pub weighs-fitting : f ≡ true → Fitting w ≡ weighed_counts below d
      unfolding weighed_counts
      weighs-fitting t = rw (← is, lt-ltb w below h, ← said, t)

      pub weighs-wide : f ≡ false → Wide ≡ weighed_counts below d
      unfolding weighed_counts
      weighs-wide t = rw (← is, lt-ltb w below h, ← said, t)

-- the weight by the counts
pub weight_is : (ψ : Formula) (d : Counts) → d ≡ counts_of ψ d.second → d.variables + (d.clauses + d.literals) ≡ weight ψ
unfolding counts_of weight
weight_is ψ d is = ap (λ (x : Counts). x.variables + (x.clauses + x.literals)) is
