-- What the code finds in the tables.
-- Assumes nothing.
use Prim.Native.Nat.{ℕ, zero, suc, ◌+◌, ◌*◌, ◌≤◌, ◌<◌}
use mathlib.Core.Path.{◌≡◌, refl, sym, ap, ◌∙◌}
use mathlib.Core.Bool.{Bool, true, false}
use mathlib.Core.List.{List, ◌∷◌}
use native.Mathlib.Omega.{arith}
use borrow.Author.Tests.{ltb-true, ltb-false}
use lib.Dec.{eqb, ltb}
use lib.ListN.{length, get_or, take, drop, length-take, get_or-eq_default, drop_of_length-le}
use lib.Seq.{get_or-take, get_or-drop}
use Rattle.meaning.specs.Lists.{has}
use Rattle.meaning.specs.Formula.{universal}
use Rattle.meaning.proofs.Basics.{by_cases, eqb-true, eqb-false}
use Rattle.table.specs.Lent.{named}
use Rattle.table.specs.declared.Counts.{Counts}
use Rattle.table.proofs.TestLaws.{has-found, has-turn, has_end}
use Rattle.why.specs.Places.{prefix_part, prefix_counted, start_in}

-- A number of the prefix -----------------------------------------------------------------------------------------
module _ (first second : List ℕ) (c : Counts) (i : ℕ) where
  pub place-past : 1022 < i → 0 ≡ get_or (prefix_part first second c) i 0
  unfolding prefix_part
  place-past h = let t = named first second c in sym (get_or-eq_default (take 1023 t) 0 (omega (arith, length-take 1023 t)))

  pub place-second : i ≤ 1022 → c.second ≡ true → get_or second i 0 ≡ get_or (prefix_part first second c) i 0
  unfolding prefix_part named
  place-second h e = rw e (sym (get_or-take 1023 second i 0 (omega arith)))

  pub place-first : i ≤ 1022 → c.second ≡ false → get_or first i 0 ≡ get_or (prefix_part first second c) i 0
  unfolding prefix_part named
  place-first h e = rw e (sym (get_or-take 1023 first i 0 (omega arith)))

-- A variable with an `a` -----------------------------------------------------------------------------------------
-- the loop over all places: past the part for the prefix there are zeros
module _ (first second : List ℕ) (c : Counts) (v i : ℕ) (inv : has (2 * v + 1) (prefix_counted first second c) ≡ has (2 * v + 1) (drop i (prefix_counted first second c))) where
  pub over : c.variables ≤ i → false ≡ universal (prefix_counted first second c) v
  unfolding universal prefix_counted
  over h =
      let p = prefix_part first second c in
      has_end (2 * v + 1) (take c.variables p) i inv (omega (arith, length-take c.variables p))

  -- x is the number at place i
  module _ (h : i < c.variables) (x : ℕ) (e : x ≡ get_or (prefix_part first second c) i 0) where
    there : get_or (prefix_counted first second c) i 0 ≡ x
    unfolding prefix_counted
    there = get_or-take c.variables (prefix_part first second c) i 0 h ∙ sym e

    pub found : (r : Bool) → r ≡ eqb (2 * v + 1) x → r ≡ true → true ≡ universal (prefix_counted first second c) v
    unfolding universal
    found r d k =
        let l = prefix_counted first second c in
        let z : 2 * v + 1 ≡ x = eqb-true (2 * v + 1) x (sym d ∙ k) in
        by_cases (ltb i (length l))
        (λ s. has-found (2 * v + 1) l i inv (ltb-true i (length l) s) (there ∙ sym z))
        (λ s. let y : get_or l i 0 ≡ 0 = get_or-eq_default l 0 (ltb-false i (length l) s) in absurd (omega (arith, there)))

    pub turn : (r : Bool) → r ≡ eqb (2 * v + 1) x → r ≡ false → has (2 * v + 1) (prefix_counted first second c) ≡ has (2 * v + 1) (drop (i + 1) (prefix_counted first second c))
    turn r d k =
        let l = prefix_counted first second c in
        by_cases (ltb i (length l))
        (λ s. has-turn (2 * v + 1) l i inv (ltb-true i (length l) s) (λ y. eqb-false (2 * v + 1) x (sym d ∙ k) (sym y ∙ there)))
        (λ s. let y : length l ≤ i = ltb-false i (length l) s in let f : length l ≤ i + 1 = omega arith in inv ∙ rw (drop_of_length-le l y, drop_of_length-le l f))

-- Where a clause begins ------------------------------------------------------------------------------------------
end-at : (m n : ℕ) (t : List ℕ) (k : ℕ) → k < n → get_or t (m + k) 0 ≡ get_or (take n (drop m t)) k 0
end-at m n t k h = sym (get_or-take n (drop m t) k 0 h ∙ get_or-drop m t k 0)

module _ (t : List ℕ) where
  pub start_first : (i : ℕ) → i ≡ 0 → 0 ≡ start_in t i
  unfolding start_in
  start_first i e = rw e

  pub start-past : (i : ℕ) → 2047 < i → 0 ≡ start_in t i
  unfolding start_in
  start-past i h = sym (get_or-eq_default (0 ∷ take 2047 (drop 1023 t)) 0 {n = i} (omega (arith, length-take 2047 (drop 1023 t))))

  pub start-end : (i : ℕ) → (i ≡ 0 → ⊥) → i ≤ 2047 → get_or t (1022 + i) 0 ≡ start_in t i
  unfolding start_in
  start-end zero z h = absurd (z refl)
  start-end (suc k) z h = ap (λ (j : ℕ). get_or t j 0) (omega arith) ∙ end-at 1023 2047 t k (omega arith)
