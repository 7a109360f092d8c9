-- The loops over the clauses of a table that holds a formula: what is left of the clauses makes the whole.
-- Assumes nothing.
use mathlib.Core.Path.{◌≡◌, ap}
use mathlib.Core.List.{List, []}
use Prim.Native.Nat.{ℕ, suc, ◌+◌, ◌*◌, ◌≤◌, ◌<◌}
use native.Mathlib.Numerals.{add-one}
use native.Mathlib.Omega.{arith}
use lib.ListN.{length, drop, get_or, drop_of_length-le}
use lib.Seq.{drop-cons}
use Rattle.meaning.specs.Formula.{Formula}
use Rattle.meaning.specs.WellFormed.{max_literals}
use Rattle.qdimacs.specs.Write.{clause_line, clause_lines}
use Rattle.table.specs.Table.{start_of, Holds}
use Rattle.table.specs.declared.Counts.{Counts}
use Rattle.lines.specs.Written.{Room, Written, Sized}
use Rattle.writer.specs.Written.{most_clauses}
use Rattle.table.proofs.PadLaws.{start-next, start-within}
use Rattle.table.proofs.HoldLaws.{room, count-clauses}
use Rattle.lines.proofs.Writing.{Splits, splits-size, written_none, written_as, room-first, Going, room-left, going_on, going_done}

module _ (cs : List (List ℕ)) (i : ℕ) where
  lines_more : i < length cs → Splits (clause_lines (drop i cs)) (clause_line (get_or cs i [])) (clause_lines (drop (i + 1) cs))
  unfolding clause_lines
  lines_more h = record { is = rw (drop-cons cs i [] h, add-one i) }

  lines_end : length cs ≤ i → [] ≡ clause_lines (drop i cs)
  unfolding clause_lines
  lines_end h = rw (drop_of_length-le cs {i = i} h)

-- n bytes for the clauses that are passed: at most seven for a literal and two for a clause
pub record Counted (cs : List (List ℕ)) (i n : ℕ) : Type 0 where
  pub left : n + length (clause_lines (drop i cs)) ≡ length (clause_lines cs)
  pub few : n ≤ 7 * start_of cs i + 2 * i

pub counted_start : (cs : List (List ℕ)) → Counted cs 0 0
counted_start cs = record { left = omega arith; few = omega arith }

module _ {φ : Formula} {t : List ℕ} {c : Counts} (h : Holds φ t c) (i : ℕ) where
  -- a clause is no longer than all
  pub clause-short : i < c.clauses → (l : List ℕ) → l ≡ get_or φ.clauses i [] → length l ≤ max_literals
  clause-short k l e =
      omega (arith, ap length e, start-next φ.clauses i (omega (arith, count-clauses h)), start-within φ.clauses (suc i), (room h).literals)

  -- counted
  module _ (n : ℕ) (q : Counted φ.clauses i n) where
    pub counted-small : i ≤ c.clauses → n ≤ most_clauses
    counted-small k = omega (arith, q.few, count-clauses h, start-within φ.clauses i, (room h).literals, (room h).clauses)

    pub counted-turn : i < c.clauses → (l : List ℕ) → l ≡ get_or φ.clauses i [] → (m : ℕ) → Sized (clause_line l) (7 * length l + 2) m → Counted φ.clauses (i + 1) (n + m)
    counted-turn k l e m s =
        let b : i < length φ.clauses = omega (arith, count-clauses h) in
        record {
          left = omega (arith, q.left, s.is, ap (λ (x : List ℕ). length (clause_line x)) e, splits-size (lines_more φ.clauses i b));
          few = omega (arith, q.few, s.few, ap length e, start-next φ.clauses i b, ap (start_of φ.clauses) (add-one i));
        }

    pub counted-done : c.clauses ≤ i → i ≤ c.clauses → Sized (clause_lines φ.clauses) most_clauses n
    counted-done b k =
        record {
          is = omega (arith, q.left, ap length (lines_end φ.clauses i (omega (arith, count-clauses h))));
          few = counted-small k;
        }

  -- written
  module _ {from at : ℕ} {lent out : List ℕ} (g : Going (clause_lines φ.clauses) (clause_lines (drop i φ.clauses)) from at lent out) where
    pub lines-room : i < c.clauses → (l : List ℕ) → l ≡ get_or φ.clauses i [] → Room (clause_lines φ.clauses) from lent → Room (clause_line l) at out
    lines-room k l e r = rw e (room-first (lines_more φ.clauses i (omega (arith, count-clauses h))) (room-left g r))

    pub lines-turn : i < c.clauses → (l : List ℕ) → l ≡ get_or φ.clauses i [] → {b : List ℕ} {r : ℕ} → Written (clause_line l) at out b r
        → Going (clause_lines φ.clauses) (clause_lines (drop (i + 1) φ.clauses)) from r lent b
    lines-turn k l e w = going_on g (lines_more φ.clauses i (omega (arith, count-clauses h))) (written_as (ap clause_line e) w)

    pub lines-done : c.clauses ≤ i → Written (clause_lines φ.clauses) from lent out at
    lines-done k = going_done g (written_as (lines_end φ.clauses i (omega (arith, count-clauses h))) (written_none out at))
