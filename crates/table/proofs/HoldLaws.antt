-- What is known of a table that holds a formula: bounds, counts, where its clauses stand.
-- Assumes nothing.
use Prim.Native.Nat.{ℕ, suc, ◌+◌, ◌-◌, ◌≤◌, ◌<◌}
use mathlib.Core.Path.{◌≡◌, refl, sym, ap, ◌∙◌}
use mathlib.Core.Bool.{Bool}
use mathlib.Core.List.{List, []}
use lib.ListN.{length, get_or, take, drop}
use lib.Seq.{take_all}
use native.Mathlib.Omega.{arith}
use native.Mathlib.Numerals.{add-one}
use Rattle.meaning.specs.Lists.{all_of}
use Rattle.meaning.specs.Formula.{Formula}
use Rattle.meaning.specs.WellFormed.{literals, fits}
use Rattle.table.specs.Table.{all_literals, start_of, table_of, counts_of, Holds, Held, empty_formula}
use Rattle.table.specs.declared.Counts.{Counts}
use Rattle.meaning.proofs.Parts.{Room, room_of}
use Rattle.table.proofs.PadLaws.{start-zero, start-next, start-within}
use Rattle.table.proofs.TableLaws.{length-table, table-end-at, table-clause, table-used, table-prefix}

-- what the counts of a held formula are bounded by
pub record Bounds (t : List ℕ) (c : Counts) : Type 0 where
  pub table : length t ≡ 11261
  pub variables : c.variables ≤ 1023
  pub clauses : c.clauses ≤ 2047
  pub literals : c.literals ≤ 8191

module _ {φ : Formula} {t : List ℕ} {c : Counts} (h : Holds φ t c) where
  pub room : Room φ
  room = room_of φ h.fitting

  -- the counts, one by one
  pub count-variables : c.variables ≡ length φ.prefix
  unfolding counts_of
  count-variables = ap (λ (d : Counts). d.variables) h.counts

  pub count-clauses : c.clauses ≡ length φ.clauses
  unfolding counts_of
  count-clauses = ap (λ (d : Counts). d.clauses) h.counts

  pub count-literals : c.literals ≡ literals φ.clauses
  unfolding counts_of
  count-literals = ap (λ (d : Counts). d.literals) h.counts

  pub holds-bounds : Bounds t c
  holds-bounds =
      let f = room in
      record {
        table = ap length h.table ∙ length-table φ f;
        variables = omega (arith, count-variables);
        clauses = omega (arith, count-clauses);
        literals = omega (arith, count-literals);
      }

  -- its prefix and its literals, as parts of the table
  pub prefix-is : take c.variables t ≡ φ.prefix
  prefix-is = rw (count-variables, h.table) (table-prefix φ room)

  pub literals-are : take c.literals (drop 3070 t) ≡ all_literals φ.clauses
  literals-are = rw (count-literals, h.table) (table-used φ room)

  -- the literals, as code cuts them from the table
  pub used-is : take (3070 + c.literals - 3070) (drop 3070 t) ≡ all_literals φ.clauses
  used-is =
      let e : 3070 + c.literals - 3070 ≡ c.literals = omega arith in
      ap (λ (n : ℕ). take n (drop 3070 t)) e ∙ literals-are

  -- the first clauses, as many as are counted, are all
  pub clauses-all : take c.clauses φ.clauses ≡ φ.clauses
  clauses-all = take_all c.clauses φ.clauses (omega (arith, count-clauses))

  -- what start_of reads
  pub start_first : (i : ℕ) → i ≡ 0 → 3070 ≡ 3070 + start_of φ.clauses i
  start_first i e = rw (e, start-zero)

  pub start-later : (i : ℕ) → (i ≡ 0 → ⊥) → i ≤ c.clauses → 3070 + get_or t (1023 + (i - 1)) 0 ≡ 3070 + start_of φ.clauses i
  start-later i z k =
      let e : suc (i - 1) ≡ i = omega arith in
      ap (λ (n : ℕ). 3070 + n)
      (ap (λ (l : List ℕ). get_or l (1023 + (i - 1)) 0) h.table
      ∙ table-end-at φ room (i - 1) (omega (arith, count-clauses))
      ∙ ap (start_of φ.clauses) e)

  -- what clause_at reads: s and e are where clause i and the next begin
  module _ (i s e : ℕ) (k : i < c.clauses) (p : s ≡ 3070 + start_of φ.clauses i) (q : e ≡ 3070 + start_of φ.clauses (i + 1)) where
    there : i < length φ.clauses
    there = omega (arith, count-clauses)

    next : e ≡ 3070 + start_of φ.clauses (suc i)
    next = q ∙ ap (λ (j : ℕ). 3070 + start_of φ.clauses j) (add-one i)

    pub clause-is : take (e - s) (drop s t) ≡ get_or φ.clauses i []
    clause-is =
        let n : e - s ≡ length (get_or φ.clauses i []) = omega (arith, start-next φ.clauses i there, next) in
        rw (n, p, h.table) (table-clause φ room i there)

    pub clause-within : (s ≤ e) × (e ≤ length t) × (length t ≡ 11261)
    clause-within =
        let b = holds-bounds in (
          omega (arith, start-next φ.clauses i there, next),
          omega (arith, next, start-within φ.clauses (suc i), b.table, room.literals),
          b.table,
        )

pub bounds : {t : List ℕ} {c : Counts} → Held t c → Bounds t c
bounds {t} {c} h = holds-bounds h.holds

pub held : {φ : Formula} {t : List ℕ} {c : Counts} → Holds φ t c → Held t c
held {φ} {t} {c} h = record { formula = φ; holds = h }

-- counts name one of the two tables
pub second_is : (ψ : Formula) (second : Bool) (d : Counts) → d ≡ counts_of ψ second → d ≡ counts_of ψ d.second
unfolding counts_of
second_is ψ second d v = v ∙ ap (counts_of ψ) (sym (ap (λ (c : Counts). c.second) v))

pub counts-second : (ψ : Formula) (b : Bool) (d : Counts) → d ≡ counts_of ψ b → d.second ≡ b
unfolding counts_of
counts-second ψ b d e = ap (λ (c : Counts). c.second) e

-- zeros hold the empty formula
pub empty_holds : (t : List ℕ) (c : Counts) (b : Bool) → t ≡ table_of empty_formula → c ≡ counts_of empty_formula b → Holds empty_formula t c
unfolding empty_formula fits all_of literals
empty_holds t c b e q = record { table = e; counts = second_is empty_formula b c q; fitting = refl }
