-- A raw clause on its way into the table: what putting a literal comes to.
-- Assumes nothing.
use Prim.Native.Nat.{ℕ, ◌+◌, ◌/◌, ◌≤◌, ◌<◌}
use mathlib.Core.Path.{◌≡◌, refl, sym, ap, ◌∙◌, subst}
use mathlib.Core.Bool.{true, false}
use mathlib.Core.List.{List, [], ◌∷◌, ◌++◌, append_assoc, append-nil}
use lib.ListN.{length, get_or, take}
use lib.Seq.{take-suc, take_all, length-take-le}
use lib.Dec.{leb}
use borrow.Author.Tests.{le-leb, leb-true}
use native.Mathlib.Omega.{arith}
use native.Mathlib.Numerals.{add-one}
use Rattle.meaning.specs.Lists.{all_of, any_of, has}
use Rattle.meaning.specs.Formula.{var, opposite}
use Rattle.meaning.specs.Tidy.{insert_new, ascending, both_phases}
use Rattle.table.specs.Ranks.{small}
use Rattle.table.specs.Pending.{in_range, Pends, Pended}
use Rattle.std.specs.Prelude.{Option, Some, None, is_none}
use Rattle.std.proofs.lemmas.Option.{none-some}
use Rattle.meaning.proofs.Basics.{and_l, and_r, and_i}
use Rattle.meaning.proofs.Lists.{all_snoc}
use Rattle.table.proofs.LoopLaws.{all_get_d}
use Rattle.table.proofs.SortLaws.{ascending-snoc, has-ascending, insert-there, insert-longer, both-snoc, single-opp, small-ascending, ascending-few}

pub range-is : (l : ℕ) → 2 ≤ l → l < 2048 → in_range l ≡ true
unfolding in_range var
range-is l h k = and_i (leb 1 (l / 2)) (leb (l / 2) 1023) (le-leb 1 (l / 2) (omega arith)) (le-leb (l / 2) 1023 (omega arith))

pub range-bounds : (l : ℕ) → in_range l ≡ true → (2 ≤ l) × (l < 2048)
unfolding in_range var
range-bounds l h =
    let a = leb-true 1 (l / 2) (and_l (leb 1 (l / 2)) (leb (l / 2) 1023) h) in
    let b = leb-true (l / 2) 1023 (and_r (leb 1 (l / 2)) (leb (l / 2) 1023) h) in
    (omega arith, omega arith)

-- nothing is kept of a clause with both phases; of another its literals
pub pends-none : {raw s : List ℕ} → length s ≡ 1023 → all_of in_range raw ≡ true → both_phases raw ≡ true → Pends raw s None
pends-none e a b = record { room = e; within = λ n z. absurd (none-some n z); range = a; phases = sym b; sorted = λ n z. absurd (none-some n z) }

pub pends-some : {raw s : List ℕ} (n : ℕ) → length s ≡ 1023 → n ≤ 1023 → all_of in_range raw ≡ true → both_phases raw ≡ false → take n s ≡ ascending raw
    → Pends raw s (Some n)
pends-some {raw} {s} n e w a b k =
    record {
      room = e;
      within = λ m z. let q : n ≡ m = cc in rw q at w;
      range = a;
      phases = sym b;
      sorted = λ m z. let q : n ≡ m = cc in subst (λ (y : ℕ). take y s ≡ ascending raw) q k;
    }

pub pends-empty : (s : List ℕ) → length s ≡ 1023 → Pends [] s (Some 0)
pends-empty s e = pends-some 0 e (omega arith) (unfold all_of in refl) (unfold both_phases any_of in refl) (unfold ascending in refl)

pub pended : {raw s : List ℕ} {p : Option ℕ} → Pends raw s p → Pended s p
pended {raw} {s} {p} h = record { raw = raw; pends = h }

-- One literal more --------------------------------------------------------------------------------------------
module _ {raw s : List ℕ} {p : Option ℕ} (h : Pends raw s p) where
  -- as long as no variable has both phases
  module _ (n : ℕ) (one : p ≡ Some n) where
    single : both_phases raw ≡ false
    single = sym h.phases ∙ ap is_none one

    pub has-pending : (l : ℕ) → has l (take n s) ≡ has l raw
    has-pending l = ap (has l) (h.sorted n one) ∙ has-ascending l raw

    pub small-pending : all_of small (take n s) ≡ true
    small-pending = ap (all_of small) (h.sorted n one) ∙ small-ascending raw h.range

  module _ (l : ℕ) (lo : 2 ≤ l) (hi : l < 2048) where
    range-more : all_of in_range (raw ++ (l ∷ [])) ≡ true
    range-more = all_snoc in_range raw l h.range (range-is l lo hi)

    pub put_both : p ≡ None → Pends (raw ++ (l ∷ [])) s None
    put_both e = pends-none h.room range-more (both-snoc raw l ∙ rw (sym h.phases ∙ ap is_none e))

    module _ (n : ℕ) (one : p ≡ Some n) where
      -- both_phases of the longer clause is whether the opposite literal is there
      phases-more : both_phases (raw ++ (l ∷ [])) ≡ has (opposite l) (take n s)
      phases-more = both-snoc raw l ∙ rw (single n one) (sym (has-pending n one (opposite l)))

      pub put-there : has l (take n s) ≡ true → Pends (raw ++ (l ∷ [])) s (Some n)
      put-there e =
          let i : has l raw ≡ true = sym (has-pending n one l) ∙ e in
          pends-some n h.room (h.within n one) range-more
          (both-snoc raw l ∙ rw (single n one) (single-opp raw l (single n one) i))
          (h.sorted n one ∙ sym (ascending-snoc raw l ∙ insert-there l raw i))

      pub put_other : has (opposite l) (take n s) ≡ true → Pends (raw ++ (l ∷ [])) s None
      put_other e = pends-none h.room range-more (phases-more ∙ e)

      module _ (new : has l (take n s) ≡ false) (free : has (opposite l) (take n s) ≡ false) where
        few : length (insert_new l (take n s)) ≤ 1023
        few = rw (h.sorted n one, ← ascending-snoc raw l) (ascending-few (raw ++ (l ∷ [])) range-more (phases-more ∙ free))

        pub put-room : n < 1023
        put-room = omega (arith, few, insert-longer l (take n s) new, length-take-le n s (omega (arith, h.room, h.within n one)))

        pub put-new : (s' : List ℕ) → length s' ≡ length s → take (n + 1) s' ≡ insert_new l (take n s) → Pends (raw ++ (l ∷ [])) s' (Some (n + 1))
        put-new s' e d =
            pends-some (n + 1) (e ∙ h.room) (omega (arith, put-room)) range-more (phases-more ∙ free)
            (d ∙ ap (insert_new l) (h.sorted n one) ∙ sym (ascending-snoc raw l))

-- All literals of a clause more: i of them are put --------------------------------------------------------------
pub put-turn : (raw clause : List ℕ) (i : ℕ) (s : List ℕ) (p : Option ℕ) → i < length clause → Pends ((raw ++ take i clause) ++ (get_or clause i 0 ∷ [])) s p → Pends (raw ++ take (i + 1) clause) s p
put-turn raw clause i s p h k =
    rw (add-one i, take-suc clause i 0 h, ← append_assoc raw (take i clause) (get_or clause i 0 ∷ [])) k

pub put-start : (raw clause s : List ℕ) (p : Option ℕ) → Pends raw s p → Pends (raw ++ take 0 clause) s p
put-start raw clause s p h = rw (append-nil raw) h

pub put-end : (raw clause : List ℕ) (i : ℕ) (s : List ℕ) (p : Option ℕ) → length clause ≤ i → Pends (raw ++ take i clause) s p → Pends (raw ++ clause) s p
put-end raw clause i s p h k = rw (take_all i clause h) at k

pub range_at : (clause : List ℕ) (i : ℕ) → all_of in_range clause ≡ true → i < length clause → (2 ≤ get_or clause i 0) × (get_or clause i 0 < 2048)
range_at clause i a h = range-bounds (get_or clause i 0) (all_get_d in_range 0 clause i a h)
