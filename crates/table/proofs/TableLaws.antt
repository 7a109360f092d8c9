-- The table of a formula: its length, its parts, and what stands in it.
-- Assumes nothing.
use Prim.Native.Nat.{ℕ, suc, ◌+◌, ◌-◌, ◌<◌}
use mathlib.Core.Path.{◌≡◌, refl, sym, ap, ◌∙◌}
use mathlib.Core.List.{List, [], ◌∷◌, ◌++◌, append_assoc}
use lib.ListN.{length, get_or, take, drop, set, replicate, length-append, replicate-append-replicate, get_or-append}
use lib.Seq.{set-append_left, take_at, take-append-le}
use native.Mathlib.Omega.{arith}
use native.Mathlib.Nat.{zero-add}
use Rattle.meaning.specs.Formula.{Formula}
use Rattle.meaning.specs.WellFormed.{literals}
use Rattle.table.specs.Table.{all_literals, start_of, ends_from, pad, table_of, with_clause, with_variable, empty_formula}
use Rattle.meaning.proofs.Parts.{Room}
use Rattle.table.proofs.ListLaws.{take-skip, drop-skip, get_d-skip, set-skip}
use Rattle.table.proofs.PadLaws.{length-pad, pad-set, pad-take, pad-drop, pad-free, pad-write, pad-at, pad-drop-le, length-ends, length-all, all_snoc, all-at, ends_snoc, ends_at, start-within, start-drop}

module _ (φ : Formula) (f : Room φ) where
  -- the three parts
  P : List ℕ
  P = pad 1023 φ.prefix

  E : List ℕ
  E = pad 2047 (ends_from 0 φ.clauses)

  J : List ℕ
  J = pad 8191 (all_literals φ.clauses)

  length-P : length P ≡ 1023
  unfolding P
  length-P = length-pad 1023 φ.prefix f.variables

  length-E : length E ≡ 2047
  unfolding E
  length-E = length-pad 2047 (ends_from 0 φ.clauses) (rw length-ends f.clauses)

  length-J : length J ≡ 8191
  unfolding J
  length-J = length-pad 8191 (all_literals φ.clauses) (rw length-all f.literals)

  table-parts : table_of φ ≡ P ++ (E ++ J)
  unfolding table_of P E J
  table-parts = refl

  pub length-table : length (table_of φ) ≡ 11261
  length-table = rw table-parts (simp length-append (omega (arith, length-P, length-E, length-J)))

  -- a place of the literals
  table-literals : (k : ℕ) → drop (3070 + k) (table_of φ) ≡ drop k J
  table-literals k =
      let e : 3070 + k ≡ 1023 + (2047 + k) = omega arith in
      rw (table-parts, e) (drop-skip P (E ++ J) 1023 (2047 + k) length-P ∙ drop-skip E J 2047 k length-E)

  table_before : (k : ℕ) → take (3070 + k) (table_of φ) ≡ P ++ (E ++ take k J)
  table_before k =
      let e : 3070 + k ≡ 1023 + (2047 + k) = omega arith in
      rw (table-parts, e)
      (take-skip P (E ++ J) 1023 (2047 + k) length-P ∙ ap (λ (r : List ℕ). P ++ r) (take-skip E J 2047 k length-E))

  -- the prefix, the ends and the literals that are used
  pub table-prefix : take (length φ.prefix) (table_of φ) ≡ φ.prefix
  unfolding P
  table-prefix =
      rw table-parts (take-append-le (length φ.prefix) P (E ++ J) (omega (arith, length-P, f.variables)) ∙ pad-take 1023 φ.prefix)

  pub table-ends : take (length φ.clauses) (drop 1023 (table_of φ)) ≡ ends_from 0 φ.clauses
  unfolding E
  table-ends =
      rw table-parts
      (ap (take (length φ.clauses)) (drop-skip P (E ++ J) 1023 0 length-P)
      ∙ take-append-le (length φ.clauses) E J (omega (arith, length-E, f.clauses))
      ∙ ap (λ (n : ℕ). take n E) (sym (length-ends 0 φ.clauses))
      ∙ pad-take 2047 (ends_from 0 φ.clauses))

  pub table-rest : drop 3070 (table_of φ) ≡ all_literals φ.clauses ++ replicate (8191 - length (all_literals φ.clauses)) 0
  unfolding J pad
  table-rest = table-literals 0

  pub table-used : take (literals φ.clauses) (drop 3070 (table_of φ)) ≡ all_literals φ.clauses
  table-used =
      ap (take (literals φ.clauses)) table-rest
      ∙ take_at (all_literals φ.clauses) (replicate (8191 - length (all_literals φ.clauses)) 0) (literals φ.clauses) (length-all φ.clauses)

  -- the unused places
  pub free-prefix : take (1023 - length φ.prefix) (drop (length φ.prefix) (table_of φ)) ≡ replicate (1023 - length φ.prefix) 0
  unfolding P
  free-prefix = rw table-parts (pad-free 1023 φ.prefix (E ++ J) (1023 - length φ.prefix) f.variables refl)

  pub free-ends : take (3070 - (1023 + length φ.clauses)) (drop (1023 + length φ.clauses) (table_of φ)) ≡ replicate (2047 - length φ.clauses) 0
  unfolding E
  free-ends =
      rw (table-parts, drop-skip P (E ++ J) 1023 (length φ.clauses) length-P, ← length-ends 0 φ.clauses)
      (pad-free 2047 (ends_from 0 φ.clauses) J (3070 - (1023 + length (ends_from 0 φ.clauses))) (rw length-ends f.clauses) (omega arith))

  pub free-literals : drop (3070 + literals φ.clauses) (table_of φ) ≡ replicate (8191 - literals φ.clauses) 0
  unfolding J
  free-literals = table-literals (literals φ.clauses) ∙ rw (← length-all φ.clauses) (pad-drop 8191 (all_literals φ.clauses))

  -- the end of clause i, and clause i
  pub table-end-at : (i : ℕ) → i < length φ.clauses → get_or (table_of φ) (1023 + i) 0 ≡ start_of φ.clauses (suc i)
  unfolding E
  table-end-at i h =
      let k : i < length (ends_from 0 φ.clauses) = omega (arith, length-ends 0 φ.clauses) in
      rw table-parts
      (get_d-skip P (E ++ J) 1023 i 0 length-P
      ∙ get_or-append E J 0 i (omega (arith, length-E, f.clauses))
      ∙ pad-at 2047 (ends_from 0 φ.clauses) i k
      ∙ ends_at 0 φ.clauses i h
      ∙ zero-add (start_of φ.clauses (suc i)))

  pub table-clause : (i : ℕ) → i < length φ.clauses → take (length (get_or φ.clauses i [])) (drop (3070 + start_of φ.clauses i) (table_of φ)) ≡ get_or φ.clauses i []
  unfolding J
  table-clause i h =
      let cs = φ.clauses in
      let c = get_or φ.clauses i [] in
      let z : List ℕ = replicate (8191 - length (all_literals φ.clauses)) 0 in
      ap (take (length c)) (table-literals (start_of cs i) ∙ pad-drop-le 8191 (all_literals cs) (start_of cs i) (rw length-all (start-within cs i)) ∙ ap (λ (r : List ℕ). r ++ z) (start-drop cs i ∙ all-at cs i h) ∙ append_assoc c (all_literals (drop (suc i) cs)) z)
      ∙ take_at c (all_literals (drop (suc i) cs) ++ z) (length c) refl

  -- the clause s written behind the literals, and then its end behind the ends
  table-write : (s : List ℕ) → take (3070 + literals φ.clauses) (table_of φ) ++ (s ++ drop (length s) (drop (3070 + literals φ.clauses) (table_of φ))) ≡ P ++ (E ++ pad 8191 (all_literals φ.clauses ++ s))
  unfolding J
  table-write s =
      let m = length (all_literals φ.clauses) in
      rw (← length-all φ.clauses)
      (ap (λ (r : List ℕ). r ++ (s ++ drop (length s) (drop (3070 + m) (table_of φ)))) (table_before m)
      ∙ ap (λ (r : List ℕ). P ++ (E ++ take m J) ++ (s ++ drop (length s) r)) (table-literals m)
      ∙ append_assoc P (E ++ take m J) (s ++ drop (length s) (drop m J))
      ∙ ap (λ (r : List ℕ). P ++ r) (append_assoc E (take m J) (s ++ drop (length s) (drop m J)))
      ∙ ap (λ (r : List ℕ). P ++ (E ++ r)) (pad-write 8191 (all_literals φ.clauses) s))

  table-end : (s : List ℕ) (l : List ℕ) → length φ.clauses < 2047 → set (P ++ (E ++ l)) (1023 + length φ.clauses) (literals φ.clauses + length s) ≡ P ++ (pad 2047 (ends_from 0 (φ.clauses ++ (s ∷ []))) ++ l)
  unfolding E
  table-end s l h =
      let n = length φ.clauses in
      let v = literals φ.clauses + length s in
      let e : length (ends_from 0 φ.clauses) ≡ n = length-ends 0 φ.clauses in
      let z : ends_from 0 φ.clauses ++ (v ∷ []) ≡ ends_from 0 (φ.clauses ++ (s ∷ [])) =
      sym (ends_snoc 0 φ.clauses s ∙ ap (λ (k : ℕ). ends_from 0 φ.clauses ++ ((k + length s) ∷ [])) (zero-add (literals φ.clauses))) in
      set-skip P (E ++ l) 1023 n v length-P
      ∙ ap (λ (r : List ℕ). P ++ r) (set-append_left E l n v (omega (arith, length-E)))
      ∙ ap (λ (r : List ℕ). P ++ (r ++ l))
      (ap (λ (k : ℕ). set E k v) (sym e) ∙ pad-set 2047 (ends_from 0 φ.clauses) v (omega arith) ∙ ap (pad 2047) z)

  -- both stores of a push, at once
  pub table-pushed : (s : List ℕ) → length φ.clauses < 2047
      → set (take (3070 + literals φ.clauses) (table_of φ) ++ (s ++ drop (length s) (drop (3070 + literals φ.clauses) (table_of φ)))) (1023 + length φ.clauses) (literals φ.clauses + length s)
      ≡ table_of (with_clause φ s)
  unfolding table_of with_clause P
  table-pushed s h =
      ap (λ (r : List ℕ). set r (1023 + length φ.clauses) (literals φ.clauses + length s)) (table-write s)
      ∙ table-end s (pad 8191 (all_literals φ.clauses ++ s)) h
      ∙ ap (λ (r : List ℕ). P ++ (pad 2047 (ends_from 0 (φ.clauses ++ (s ∷ []))) ++ pad 8191 r)) (sym (all_snoc φ.clauses s))

-- one variable more
pub table-variable : (φ : Formula) (q : ℕ) → length φ.prefix < 1023 → set (table_of φ) (length φ.prefix) q ≡ table_of (with_variable φ q)
unfolding table_of with_variable
table-variable φ q h =
    let rest = pad 2047 (ends_from 0 φ.clauses) ++ pad 8191 (all_literals φ.clauses) in
    set-append_left (pad 1023 φ.prefix) rest (length φ.prefix) q (omega (arith, length-pad 1023 φ.prefix (omega arith)))
    ∙ ap (λ (r : List ℕ). r ++ rest) (pad-set 1023 φ.prefix q h)

-- the empty formula
pub table_empty : replicate 11261 0 ≡ table_of empty_formula
unfolding table_of empty_formula pad ends_from all_literals
table_empty =
    sym (ap (λ (r : List ℕ). replicate 1023 0 ++ r) (replicate-append-replicate 2047 8191 0) ∙ replicate-append-replicate 1023 10238 0)
