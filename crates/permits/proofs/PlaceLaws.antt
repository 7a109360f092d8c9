-- Ranks and places: what the rank of a variable says of it, and that places tell what stands right of what.
-- Assumes nothing.
use Prim.Native.Nat.{ℕ, zero, suc, ◌+◌, ◌-◌, ◌*◌, ◌/◌, ◌%◌, ◌≤◌, ◌<◌}
use mathlib.Core.Path.{◌≡◌, refl, sym, ap, ◌∙◌}
use mathlib.Core.Bool.{Bool, true, false, ◌&&◌, ◌||◌, not, cond}
use mathlib.Core.List.{List, [], ◌∷◌}
use lib.ListN.{get_or, drop}
use lib.Dec.{eqb, ltb, leb}
use borrow.Author.Tests.{lt-ltb, le-ltb, leb-true}
use native.Mathlib.Omega.{arith}
use native.Mathlib.Nat.{add-suc, suc-add, zero-add, sub-zero}
use Rattle.meaning.specs.Lists.{any_of, all_of, has}
use Rattle.meaning.specs.Formula.{Formula, var, odd, is_var, mentions, existential, universal, right_of}
use Rattle.meaning.specs.WellFormed.{good_prefix, well_formed, fits}
use Rattle.table.specs.Ranks.{rank_from, ranks_of, good_entries}
use Rattle.permits.specs.Places.{place_from, place_of}
use Rattle.meaning.proofs.Basics.{by_cases, clash, false_of, and_l, and_r, and_i, or_l, or_r, or-false, eqb-true, eqb-false, eqb-eq, eqb-ne}
use Rattle.meaning.proofs.Literals.{even-of}
use Rattle.meaning.proofs.Prefix.{good-out, good-tail, eqb-plain, eqb-negated, not-existential, not-universal, mentioned-all}
use Rattle.meaning.proofs.Parts.{good_of, room_of}
use Rattle.table.proofs.RankLaws.{rank-at, rank-there}

-- A good prefix with its numbers in range -----------------------------------------------------------------------
pub entries-of : (φ : Formula) → well_formed φ ≡ true → fits φ ≡ true → good_entries φ.prefix ≡ true
unfolding good_entries
entries-of φ w f = and_i (good_prefix φ.prefix) (all_of (λ q. leb (var q) 1023) φ.prefix) (good_of φ w) (room_of φ f).numbers

pub good-entries : (p : List ℕ) → good_entries p ≡ true → good_prefix p ≡ true
unfolding good_entries
good-entries p g = and_l (good_prefix p) (all_of (λ q. leb (var q) 1023) p) g

-- a variable over 1,023 is not there
pub large-out : (p : List ℕ) (v : ℕ) → good_entries p ≡ true → 1023 < v → mentions p v ≡ false
unfolding good_entries
large-out p v g h =
    false_of (mentions p v)
    (λ m. let s = leb-true v 1023 (mentioned-all (λ n. leb n 1023) p v (and_r (good_prefix p) (all_of (λ q. leb (var q) 1023) p) g) m) in omega arith)

-- Ranks ---------------------------------------------------------------------------------------------------------
rank-absent : (k : ℕ) (p : List ℕ) (v : ℕ) → mentions p v ≡ false → rank_from k p v ≡ 0
unfolding rank_from mentions any_of is_var
rank-absent k [] v h = refl
rank-absent k (q ∷ p) v h = rw (or_l (eqb (var q) v) (mentions p v) h) (rank-absent (suc k) p v (or_r (eqb (var q) v) (mentions p v) h))

module _ (p : List ℕ) (v : ℕ) (good : good_entries p ≡ true) where
  pub rank-large : 1023 < v → 0 ≡ rank_from 1 p v
  rank-large h = sym (rank-absent 1 p v (large-out p v good h))

  pub rank-read : v ≤ 1023 → (ranks : List ℕ) → ranks ≡ ranks_of p → get_or ranks v 0 ≡ rank_from 1 p v
  rank-read h ranks e = ap (λ (r : List ℕ). get_or r v 0) e ∙ rank-at p v (omega arith)

  pub rank-mentions : (r : ℕ) → r ≡ rank_from 1 p v → not (eqb r 0) ≡ mentions p v
  rank-mentions r e = rw (e, rank-there 0 p v) (twice (mentions p v))
    where
      twice : (b : Bool) → not (not b) ≡ b
      twice true = refl
      twice false = refl

rank-odd : (k q : ℕ) → odd (2 * k + q % 2) ≡ odd q
unfolding odd
rank-odd k q = let e : (2 * k + q % 2) % 2 ≡ q % 2 = omega arith in rw e

universal-from : (k : ℕ) (p : List ℕ) (v : ℕ) → good_prefix p ≡ true → odd (rank_from k p v) ≡ universal p v
unfolding rank_from universal has any_of is_var
universal-from k [] v g = even-of 0 refl
universal-from k (q ∷ p) v g = rw eqb-negated (go (eqb (var q) v) refl (universal-from (suc k) p v (good-tail q p g)))
  where
    go : (b : Bool) → eqb (var q) v ≡ b → odd (rank_from (suc k) p v) ≡ universal p v → odd (cond b (2 * k + q % 2) (rank_from (suc k) p v)) ≡ ((b && odd q) || universal p v)
    go true e ih =
        let out : universal p v ≡ false = not-universal p v (rw (eqb-true (var q) v e) at (good-out q p g)) in
        rw (rank-odd k q, out) (sym (or-false (odd q)))
    go false e ih = ih

-- the entry of a variable that is there is even exactly if it is existential
existential-from : (k : ℕ) (p : List ℕ) (v : ℕ) → good_prefix p ≡ true → existential p v ≡ (mentions p v && not (odd (rank_from k p v)))
unfolding rank_from existential mentions has any_of is_var
existential-from k [] v g = refl
existential-from k (q ∷ p) v g = rw eqb-plain (go (eqb (var q) v) refl (existential-from (suc k) p v (good-tail q p g)))
  where
    go : (b : Bool) → eqb (var q) v ≡ b → existential p v ≡ (mentions p v && not (odd (rank_from (suc k) p v))) → ((b && not (odd q)) || existential p v) ≡ ((b || mentions p v) && not (odd (cond b (2 * k + q % 2) (rank_from (suc k) p v))))
    go true e ih =
        let out : existential p v ≡ false = not-existential p v (rw (eqb-true (var q) v e) at (good-out q p g)) in
        rw (rank-odd k q, out) (or-false (not (odd q)))
    go false e ih = ih

module _ (p : List ℕ) (v : ℕ) (good : good_entries p ≡ true) (r : ℕ) (is : r ≡ rank_from 1 p v) where
  pub rank-universal : eqb (r % 2) 1 ≡ universal p v
  unfolding odd
  rank-universal = ap (λ (n : ℕ). eqb (n % 2) 1) is ∙ universal-from 1 p v (good-entries p good)

  pub rank-zero : r ≡ 0 → false ≡ existential p v
  rank-zero z = sym (not-existential p v (sym (rank-mentions p v good r is) ∙ ap not (eqb-eq z)))

  even-not : eqb (r % 2) 0 ≡ not (odd r)
  unfolding odd
  even-not = by_cases (eqb (r % 2) 0) (λ z. let n = eqb-true (r % 2) 0 z in z ∙ sym (ap not (eqb-ne (r % 2) 1 (λ o. omega arith)))) (λ z. let n = eqb-false (r % 2) 0 z in z ∙ sym (ap not (eqb-eq {m = r % 2} (omega arith))))

  pub rank-existential : (r ≡ 0 → ⊥) → eqb (r % 2) 0 ≡ existential p v
  rank-existential z =
      let m : mentions p v ≡ true = sym (rank-mentions p v good r is) ∙ ap not (eqb-ne r 0 z) in
      even-not ∙ sym (existential-from 1 p v (good-entries p good) ∙ rw (m, ← is))

-- Places --------------------------------------------------------------------------------------------------------
place-from : (k : ℕ) (p : List ℕ) (v : ℕ) → rank_from k p v / 2 ≡ place_from k p v
unfolding rank_from place_from
place-from k [] v = refl
place-from k (q ∷ p) v = go (is_var v q) (place-from (suc k) p v)
  where
    go : (b : Bool) → rank_from (suc k) p v / 2 ≡ place_from (suc k) p v → cond b (2 * k + q % 2) (rank_from (suc k) p v) / 2 ≡ cond b k (place_from (suc k) p v)
    go true ih = omega arith
    go false ih = ih

pub rank-place : (p : List ℕ) (v r : ℕ) → r ≡ rank_from 1 p v → r / 2 ≡ place_of p v
unfolding place_of
rank-place p v r e = ap (λ (n : ℕ). n / 2) e ∙ place-from 1 p v

-- What places tell ------------------------------------------------------------------------------------------------
place-least : (k : ℕ) (p : List ℕ) (v : ℕ) → mentions p v ≡ true → k ≤ place_from k p v
unfolding place_from mentions any_of
place-least k [] v m = clash m refl
place-least k (q ∷ p) v m = go (is_var v q) m (λ n. place-least (suc k) p v n)
  where
    go : (b : Bool) → (b || mentions p v) ≡ true → (mentions p v ≡ true → suc k ≤ place_from (suc k) p v) → k ≤ cond b k (place_from (suc k) p v)
    go true n ih = omega arith
    go false n ih = let h = ih n in omega arith

-- what stands right of a variable is what is left behind its place
place-drop : (k : ℕ) (p : List ℕ) (v : ℕ) → mentions p v ≡ true → drop (place_from (suc k) p v - k) p ≡ right_of v p
unfolding place_from right_of mentions any_of
place-drop k [] v m = clash m refl
place-drop k (q ∷ p) v m = go (is_var v q) m (λ n. place-drop (suc k) p v n) (λ n. place-least (suc (suc k)) p v n)
  where
    go : (b : Bool) → (b || mentions p v) ≡ true → (mentions p v ≡ true → drop (place_from (suc (suc k)) p v - suc k) p ≡ right_of v p) → (mentions p v ≡ true → suc (suc k) ≤ place_from (suc (suc k)) p v) → drop (cond b (suc k) (place_from (suc (suc k)) p v) - k) (q ∷ p) ≡ cond b p (right_of v p)
    go true n ih least = let e : suc k - k ≡ suc zero = omega arith in ap (λ (j : ℕ). drop j (q ∷ p)) e
    go false n ih least =
        let h = least n in
        let e : place_from (suc (suc k)) p v - k ≡ suc (place_from (suc (suc k)) p v - suc k) = omega arith in
        ap (λ (j : ℕ). drop j (q ∷ p)) e ∙ ih n

pub place-right : (p : List ℕ) (v : ℕ) → mentions p v ≡ true → drop (place_of p v) p ≡ right_of v p
unfolding place_of
place-right p v m = ap (λ (j : ℕ). drop j p) (sym (sub-zero (place_from 1 p v))) ∙ place-drop 0 p v m

drop-out : (i : ℕ) (p : List ℕ) (w : ℕ) → mentions p w ≡ false → mentions (drop i p) w ≡ false
unfolding mentions any_of
drop-out zero p w m = m
drop-out (suc i) [] w m = refl
drop-out (suc i) (q ∷ p) w m = drop-out i p w (or_r (is_var w q) (mentions p w) m)

-- a variable stands behind the first i entries exactly if its place is over i
behind-from : (k i : ℕ) (p : List ℕ) (w : ℕ) → good_prefix p ≡ true → mentions p w ≡ true → mentions (drop i p) w ≡ ltb (k + i) (place_from (suc k) p w)
unfolding place_from mentions any_of is_var
behind-from k i [] w g m = clash m refl
behind-from k zero (q ∷ p) w g m = m ∙ sym (lt-ltb (k + 0) (place_from (suc k) (q ∷ p) w) (let h = place-least (suc k) (q ∷ p) w m in omega arith))
behind-from k (suc i) (q ∷ p) w g m = go (eqb (var q) w) refl m (λ n. behind-from (suc k) i p w (good-tail q p g) n)
  where
    go : (b : Bool) → eqb (var q) w ≡ b → (b || mentions p w) ≡ true → (mentions p w ≡ true → mentions (drop i p) w ≡ ltb (suc k + i) (place_from (suc (suc k)) p w)) → mentions (drop i p) w ≡ ltb (k + suc i) (cond b (suc k) (place_from (suc (suc k)) p w))
    go true e n ih =
        let out : mentions p w ≡ false = rw (eqb-true (var q) w e) at (good-out q p g) in
        drop-out i p w out ∙ sym (le-ltb (k + suc i) (suc k) (omega arith))
    go false e n ih = ih n ∙ ap (λ (j : ℕ). ltb j (place_from (suc (suc k)) p w)) (suc-add k i ∙ sym (add-suc k i))

pub behind : (i : ℕ) (p : List ℕ) (w : ℕ) → good_prefix p ≡ true → mentions p w ≡ true → mentions (drop i p) w ≡ ltb i (place_of p w)
unfolding place_of
behind i p w g m = behind-from 0 i p w g m ∙ ap (λ (j : ℕ). ltb j (place_from 1 p w)) (zero-add i)

-- so places tell which of two variables stands further right
pub right-by-place : (p : List ℕ) (v w : ℕ) → good_prefix p ≡ true → mentions p v ≡ true → mentions p w ≡ true → mentions (right_of v p) w ≡ ltb (place_of p v) (place_of p w)
right-by-place p v w g m n = ap (λ (s : List ℕ). mentions s w) (sym (place-right p v m)) ∙ behind (place_of p v) p w g n
