-- The whole text of a table that holds a formula, in the parts in which the code counts and writes it.
-- Assumes nothing.
use mathlib.Core.Path.{◌≡◌, refl, sym, ap, ◌∙◌}
use mathlib.Core.List.{List, [], ◌++◌}
use Prim.Native.Nat.{ℕ, ◌+◌, ◌*◌, ◌≤◌}
use native.Mathlib.Omega.{arith}
use lib.ListN.{length, take}
use Rattle.meaning.specs.Formula.{Formula}
use Rattle.meaning.specs.WellFormed.{max_variables}
use Rattle.qdimacs.specs.Write.{largest, prefix_lines, clause_lines, header, write}
use Rattle.table.specs.Table.{Holds}
use Rattle.table.specs.declared.Counts.{Counts}
use Rattle.lines.specs.Written.{Room, Written, Sized}
use Rattle.writer.specs.Written.{most_clauses, most_text}
use Rattle.table.proofs.HoldLaws.{room, count-variables, count-clauses, prefix-is}
use Rattle.lines.proofs.Writing.{Splits, splits-size, written_both, room-first, room_next}
use Rattle.lines.proofs.Parts.{write-splits}

module _ {φ : Formula} {t : List ℕ} {c : Counts} (h : Holds φ t c) where
  -- the prefix as the code cuts it
  pub prefix-length : c.variables ≡ length (take c.variables t)
  prefix-length = count-variables h ∙ sym (ap length (prefix-is h))

  pub prefix-short : length (take c.variables t) ≤ max_variables
  prefix-short = omega (arith, ap length (prefix-is h), (room h).variables)

  -- the header, then the quantifier lines, then the clauses; m is the largest variable as the code finds it
  module _ (m : ℕ) (e : m ≡ largest (take c.variables t)) where
    rest : List ℕ
    rest = prefix_lines (take c.variables t) ++ clause_lines φ.clauses

    text-first : Splits (write φ) (header m c.clauses []) rest
    unfolding rest
    text-first = record { is = (write-splits φ).is ∙ rw (e, prefix-is h, count-clauses h) }

    text-next : Splits rest (prefix_lines (take c.variables t)) (clause_lines φ.clauses)
    unfolding rest
    text-next = record { is = refl }

    -- counted
    pub text-counted : (x y z : ℕ) → Sized (header m c.clauses []) 18 x → Sized (prefix_lines (take c.variables t)) (10 * length (take c.variables t)) y → Sized (clause_lines φ.clauses) most_clauses z → Sized (write φ) most_text (x + y + z)
    text-counted x y z s p q =
        record {
          is = omega (arith, s.is, p.is, q.is, splits-size text-first, splits-size text-next);
          few = omega (arith, s.few, p.few, q.few, prefix-short);
        }

    -- written
    module _ {a : List ℕ} (r : Room (write φ) 0 a) where
      pub header-room : Room (header m c.clauses []) 0 a
      header-room = room-first text-first r

      module _ {b : List ℕ} {x : ℕ} (w : Written (header m c.clauses []) 0 a b x) where
        pub prefix-room : Room (prefix_lines (take c.variables t)) x b
        prefix-room = room-first text-next (room_next text-first w r)

        pub clauses-room : {d : List ℕ} {y : ℕ} → Written (prefix_lines (take c.variables t)) x b d y → Room (clause_lines φ.clauses) y d
        clauses-room v = room_next text-next v (room_next text-first w r)

    pub text-written : {a b d o : List ℕ} {x y z : ℕ} → Written (header m c.clauses []) 0 a b x → Written (prefix_lines (take c.variables t)) x b d y → Written (clause_lines φ.clauses) y d o z → Written (write φ) 0 a o z
    text-written w v u = written_both text-first w (written_both text-next v u)
