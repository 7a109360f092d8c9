-- A table is laid out right, with its prefix numbers in range, exactly if it holds the formula that it decodes to.
-- Assumes nothing.
use Prim.Native.Nat.{ℕ, zero, suc, ◌+◌, ◌-◌, ◌≤◌}
use mathlib.Core.Path.{◌≡◌, refl, sym, ap, ◌∙◌}
use mathlib.Core.Bool.{true}
use mathlib.Core.List.{List, [], ◌∷◌, ◌++◌}
use lib.ListN.{length, take, drop, replicate, length-drop, length-replicate, take-append-drop}
use lib.Seq.{drop-drop, take-add, take_all, take-take, length-take-le}
use lib.Dec.{eqb, leb}
use borrow.Author.Tests.{eq-eqb, le-leb, eqb-true, leb-true}
use native.Mathlib.Omega.{arith}
use native.Mathlib.Nat.{sub-zero, zero-add}
use Rattle.meaning.specs.Lists.{all_of}
use Rattle.meaning.specs.Formula.{Formula, var}
use Rattle.meaning.specs.WellFormed.{literals}
use Rattle.table.specs.Table.{all_literals, ends_from, pad, table_of, counts_of, cut, decode, Holds}
use Rattle.judging.specs.Layout.{all_zero, ends_up_to, layout_ok}
use Rattle.table.specs.declared.Counts.{Counts}
use Rattle.meaning.proofs.Basics.{and_l, and_r, and_i}
use Rattle.meaning.proofs.Parts.{Room, of_room}
use Rattle.table.proofs.PadLaws.{length-all}
use Rattle.table.proofs.TableLaws.{free-prefix, free-ends, free-literals, table-ends}
use Rattle.table.proofs.HoldLaws.{room, holds-bounds, count-variables, count-clauses, count-literals}
use Rattle.table.proofs.InsertLaws.{drop-take}
use Rattle.judging.proofs.LayoutLaws.{Laid, laid, of-laid}

-- From the test to the table ----------------------------------------------------------------------------------
zeros : (l : List ℕ) → all_zero l ≡ true → l ≡ replicate (length l) 0
unfolding all_zero all_of
zeros [] e = refl
zeros (x ∷ l) e =
    ap (λ (y : ℕ). y ∷ l) (eqb-true x 0 (and_l (eqb x 0) (all_zero l) e)) ∙ ap (λ (r : List ℕ). 0 ∷ r) (zeros l (and_r (eqb x 0) (all_zero l) e))

-- a list whose numbers from k on are zero is its first k, padded
pad-part : (l : List ℕ) (n k : ℕ) → length l ≡ n → k ≤ n → all_zero (drop k l) ≡ true → pad n (take k l) ≡ l
unfolding pad
pad-part l n k e h z =
    let a : length (take k l) ≡ k = length-take-le k l (omega arith) in
    ap (λ (i : ℕ). take k l ++ replicate (n - i) 0) a
    ∙ ap (λ (i : ℕ). take k l ++ replicate (i - k) 0) (sym e)
    ∙ ap (λ (i : ℕ). take k l ++ replicate i 0) (sym (length-drop k l))
    ∙ ap (λ (r : List ℕ). take k l ++ r) (sym (zeros (drop k l) z))
    ∙ take-append-drop k l

nil : (k m : ℕ) → k ≡ m → m - k ≡ 0
nil k m e = omega arith

take_split : (k x m : ℕ) (l : List ℕ) → k ≤ x → x ≤ m → take (m - k) (drop k l) ≡ take (x - k) (drop k l) ++ take (m - x) (drop x l)
take_split k x m l p q =
    let a : m - k ≡ (x - k) + (m - x) = omega arith in
    let b : k + (x - k) ≡ x = omega arith in
    ap (λ (n : ℕ). take n (drop k l)) a
    ∙ take-add (x - k) (m - x) (drop k l)
    ∙ ap (λ (z : List ℕ). take (x - k) (drop k l) ++ take (m - x) z) (drop-drop (x - k) k l ∙ ap (λ (n : ℕ). drop n l) b)

-- cutting at ends that are right, and joining again
pub record Cut (k : ℕ) (es : List ℕ) (m : ℕ) (l : List ℕ) (cs : List (List ℕ)) : Type 0 where
  pub least : k ≤ m
  pub ends : ends_from k cs ≡ es
  pub all : all_literals cs ≡ take (m - k) (drop k l)
  pub count : length cs ≡ length es

cut_right : (k : ℕ) (es : List ℕ) (m : ℕ) (l : List ℕ) → ends_up_to k es m ≡ true → m ≤ length l → Cut k es m l (cut k es l)
unfolding ends_up_to cut ends_from all_literals
cut_right k [] m l h r =
    let e : k ≡ m = eqb-true k m h in
    record { least = omega arith; ends = refl; all = sym (ap (λ (n : ℕ). take n (drop k l)) (nil k m e)); count = refl }
cut_right k (x ∷ es) m l h r =
    let q : k ≤ x = leb-true k x (and_l (leb k x) (ends_up_to x es m) h) in
    let ih = cut_right x es m l (and_r (leb k x) (ends_up_to x es m) h) r in
    let d : length (take (x - k) (drop k l)) ≡ x - k = length-take-le (x - k) (drop k l) (simp length-drop (omega (arith, ih.least))) in
    let s : k + length (take (x - k) (drop k l)) ≡ x = omega arith in
    record {
      least = omega (arith, ih.least);
      ends = ap (λ (n : ℕ). n ∷ ends_from n (cut x es l)) s ∙ ap (λ (z : List ℕ). x ∷ z) ih.ends;
      all = ap (λ (z : List ℕ). take (x - k) (drop k l) ++ z) ih.all ∙ sym (take_split k x m l q ih.least);
      count = ap suc ih.count;
    }

module _ (t : List ℕ) (c : Counts) (h : Laid t c) where
  es : List ℕ
  es = take c.clauses (drop 1023 t)

  cs : List (List ℕ)
  cs = cut 0 es (drop 3070 t)

  long-J : length (drop 3070 t) ≡ 8191
  long-J = length-drop 3070 t ∙ omega (arith, h.long)

  long-E : length (take 2047 (drop 1023 t)) ≡ 2047
  long-E = length-take-le 2047 (drop 1023 t) (simp length-drop (omega (arith, h.long)))

  cut-is : Cut 0 es c.literals (drop 3070 t) cs
  unfolding cs es
  cut-is =
      let a : 1023 + c.clauses - 1023 ≡ c.clauses = omega arith in
      cut_right 0 (take c.clauses (drop 1023 t)) c.literals (drop 3070 t) (rw a at h.ends) (omega (arith, long-J, h.literals))

  part-P : pad 1023 (take c.variables t) ≡ take 1023 t
  part-P =
      let a : length (take 1023 t) ≡ 1023 = length-take-le 1023 t (omega (arith, h.long)) in
      ap (pad 1023) (sym (take-take c.variables 1023 t h.variables))
      ∙ pad-part (take 1023 t) 1023 c.variables a h.variables (ap all_zero (drop-take c.variables 1023 t) ∙ h.zero-1)

  part-E : pad 2047 es ≡ take 2047 (drop 1023 t)
  unfolding es
  part-E =
      let n = c.clauses in
      let a : 2047 - n ≡ 3070 - (1023 + n) = omega arith in
      ap (pad 2047) (sym (take-take n 2047 (drop 1023 t) h.clauses))
      ∙ pad-part (take 2047 (drop 1023 t)) 2047 n long-E h.clauses
      (ap all_zero (drop-take n 2047 (drop 1023 t) ∙ ap (take (2047 - n)) (drop-drop n 1023 t) ∙ ap (λ (i : ℕ). take i (drop (1023 + n) t)) a) ∙ h.zero-2)

  part-J : pad 8191 (take c.literals (drop 3070 t)) ≡ drop 3070 t
  part-J =
      let m = c.literals in
      pad-part (drop 3070 t) 8191 m long-J h.literals
      (ap all_zero (drop-drop m 3070 t ∙ sym (take_all (11261 - (3070 + m)) (drop (3070 + m) t) (simp length-drop (omega (arith, h.long))))) ∙ h.zero-3)

  all_are : all_literals cs ≡ take c.literals (drop 3070 t)
  all_are = cut-is.all ∙ ap (λ (n : ℕ). take n (drop 3070 t)) (sub-zero c.literals)

  table_is : table_of (decode t c) ≡ t
  unfolding table_of decode cs es
  table_is =
      ap (λ (x : List ℕ). x ++ (pad 2047 (ends_from 0 cs) ++ pad 8191 (all_literals cs))) part-P
      ∙ ap (λ (x : List ℕ). take 1023 t ++ (pad 2047 x ++ pad 8191 (all_literals cs))) cut-is.ends
      ∙ ap (λ (x : List ℕ). take 1023 t ++ (x ++ pad 8191 (all_literals cs))) part-E
      ∙ ap (λ (x : List ℕ). take 1023 t ++ (take 2047 (drop 1023 t) ++ pad 8191 x)) all_are
      ∙ ap (λ (x : List ℕ). take 1023 t ++ (take 2047 (drop 1023 t) ++ x)) (part-J ∙ sym (drop-drop 2047 1023 t))
      ∙ ap (λ (x : List ℕ). take 1023 t ++ x) (take-append-drop 2047 (drop 1023 t))
      ∙ take-append-drop 1023 t

  count-v : length (take c.variables t) ≡ c.variables
  count-v = length-take-le c.variables t (omega (arith, h.long, h.variables))

  count-n : length cs ≡ c.clauses
  unfolding es
  count-n = cut-is.count ∙ length-take-le c.clauses (drop 1023 t) (simp length-drop (omega (arith, h.long, h.clauses)))

  count-m : literals cs ≡ c.literals
  count-m = sym (length-all cs) ∙ ap length all_are ∙ length-take-le c.literals (drop 3070 t) (omega (arith, long-J, h.literals))

  counts-are : c ≡ counts_of (decode t c) c.second
  unfolding counts_of decode cs es
  counts-are = rw (count-v, count-n, count-m)

  decoded-room : all_of (λ q. leb (var q) 1023) (take c.variables t) ≡ true → Room (decode t c)
  unfolding decode cs es
  decoded-room numbers =
      record { variables = omega (arith, count-v, h.variables); numbers = numbers; clauses = omega (arith, count-n, h.clauses); literals = omega (arith, count-m, h.literals) }

-- what passes the test, with its prefix numbers in range, holds the formula that it decodes to
pub layout-holds : (t : List ℕ) (c : Counts) → layout_ok t c ≡ true → all_of (λ q. leb (var q) 1023) (take c.variables t) ≡ true → Holds (decode t c) t c
layout-holds t c e numbers =
    let l = laid t c e in
    record { table = sym (table_is t c l); counts = counts-are t c l; fitting = of_room (decode t c) (decoded-room t c l numbers) }

-- From the table to the test ----------------------------------------------------------------------------------
zero-replicate : (n : ℕ) → all_zero (replicate n 0) ≡ true
unfolding all_zero all_of
zero-replicate zero = refl
zero-replicate (suc n) = zero-replicate n

ends-up : (k : ℕ) (cs : List (List ℕ)) → ends_up_to k (ends_from k cs) (k + literals cs) ≡ true
unfolding ends_up_to ends_from literals
ends-up k [] = eq-eqb k (k + 0) (omega arith)
ends-up k (c ∷ cs) =
    let e : k + (length c + literals cs) ≡ k + length c + literals cs = omega arith in
    and_i (leb k (k + length c)) (ends_up_to (k + length c) (ends_from (k + length c) cs) (k + (length c + literals cs))) (le-leb k (k + length c) (omega arith))
    (rw e (ends-up (k + length c) cs))

pub holds-layout : {φ : Formula} {t : List ℕ} {c : Counts} → Holds φ t c → layout_ok t c ≡ true
holds-layout {φ} {t} {c} h =
    let b = holds-bounds h in
    let f = room h in
    let m = literals φ.clauses in
    let a : 1023 + length φ.clauses - 1023 ≡ length φ.clauses = omega arith in
    of-laid t c
    (record {
      long = b.table;
      variables = b.variables;
      clauses = b.clauses;
      literals = b.literals;
      zero-1 = rw (count-variables h, h.table, free-prefix φ f) (zero-replicate (1023 - length φ.prefix));
      zero-2 = rw (count-clauses h, h.table, free-ends φ f) (zero-replicate (2047 - length φ.clauses));
      zero-3 =
          rw (count-literals h, h.table)
          (ap (λ (r : List ℕ). all_zero (take (11261 - (3070 + m)) r)) (free-literals φ f)
          ∙ ap all_zero (take_all (11261 - (3070 + m)) (replicate (8191 - m) 0) (rw (length-replicate {A = ℕ} (8191 - m) 0) (omega arith)))
          ∙ zero-replicate (8191 - m));
      ends = rw (count-clauses h, count-literals h, h.table, a, table-ends φ f, ← zero-add m) (ends-up 0 φ.clauses);
    })
