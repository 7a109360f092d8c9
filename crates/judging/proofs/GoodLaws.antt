-- What well_formed says: the table is good exactly if its layout is right, its prefix good with numbers in range, and its
-- clauses tidy and distinct.
-- Assumes nothing.
use Prim.Native.Nat.{ℕ}
use mathlib.Core.Path.{◌≡◌, sym}
use mathlib.Core.Bool.{Bool, true, false, ◌&&◌}
use mathlib.Core.List.{List}
use lib.ListN.{length, take}
use lib.Dec.{eqb, leb}
use borrow.Author.Tests.{eq-eqb, eqb-true}
use Rattle.meaning.specs.Lists.{all_of, same}
use Rattle.meaning.specs.Formula.{var}
use Rattle.meaning.specs.WellFormed.{good_prefix, tidy_clause, distinct, well_formed, literals, fits}
use Rattle.table.specs.Table.{table_of, counts_of, decode, Holds}
use Rattle.table.specs.Ranks.{good_entries}
use Rattle.judging.specs.Layout.{layout_ok}
use Rattle.judging.specs.Check.{counted, layout_holds, good_table}
use Rattle.table.specs.declared.Counts.{Counts}
use Rattle.meaning.proofs.Basics.{clash, false_of, and_l, and_r, and_i}
use Rattle.meaning.proofs.Lists.{same-path, same_self}
use Rattle.meaning.proofs.Parts.{room_of}
use Rattle.table.proofs.HoldLaws.{count-variables, count-clauses, count-literals}
use Rattle.judging.proofs.LaidLaws.{layout-holds, holds-layout}

-- the layout holds exactly if the table holds the formula that it decodes to
pub holds-true : {t : List ℕ} {c : Counts} → Holds (decode t c) t c → layout_holds t c ≡ true
unfolding layout_holds counted
holds-true {t} {c} h =
    let φ = decode t c in
    and_i (fits φ) (counted φ c && same t (table_of φ)) h.fitting
    (and_i (counted φ c) (same t (table_of φ))
    (and_i (eqb c.variables (length φ.prefix)) (eqb c.clauses (length φ.clauses) && eqb c.literals (literals φ.clauses)) (eq-eqb c.variables (length φ.prefix) (count-variables h))
    (and_i (eqb c.clauses (length φ.clauses)) (eqb c.literals (literals φ.clauses)) (eq-eqb c.clauses (length φ.clauses) (count-clauses h)) (eq-eqb c.literals (literals φ.clauses) (count-literals h))))
    (rw (← h.table) (same_self t)))

pub true-holds : (t : List ℕ) (c : Counts) → layout_holds t c ≡ true → Holds (decode t c) t c
unfolding layout_holds counted counts_of
true-holds t c h =
    let φ = decode t c in
    let r = and_r (fits φ) (counted φ c && same t (table_of φ)) h in
    let k = and_l (counted φ c) (same t (table_of φ)) r in
    let m = and_r (eqb c.variables (length φ.prefix)) (eqb c.clauses (length φ.clauses) && eqb c.literals (literals φ.clauses)) k in
    record {
      table = same-path t (table_of φ) (and_r (counted φ c) (same t (table_of φ)) r);
      counts =
          rw (
            ← eqb-true c.variables (length φ.prefix) (and_l (eqb c.variables (length φ.prefix)) (eqb c.clauses (length φ.clauses) && eqb c.literals (literals φ.clauses)) k),
            ← eqb-true c.clauses (length φ.clauses) (and_l (eqb c.clauses (length φ.clauses)) (eqb c.literals (literals φ.clauses)) m),
            ← eqb-true c.literals (literals φ.clauses) (and_r (eqb c.clauses (length φ.clauses)) (eqb c.literals (literals φ.clauses)) m),
          );
      fitting = and_l (fits φ) (counted φ c && same t (table_of φ)) h;
    }

-- The returns of well_formed ----------------------------------------------------------------------------------
module _ (t : List ℕ) (c : Counts) where
  pub bad-layout : layout_ok t c ≡ false → false ≡ good_table t c
  bad-layout e = sym (false_of (good_table t c) (λ g. clash (holds-layout (true-holds t c (unfold good_table in and_l (layout_holds t c) (well_formed (decode t c)) (unfold good_table in g)))) e))

  pub bad-prefix : good_entries (take c.variables t) ≡ false → false ≡ good_table t c
  unfolding good_table well_formed good_entries decode
  bad-prefix e =
      sym (false_of (good_table t c)
      (λ g.
      let φ = decode t c in
      let k = true-holds t c (and_l (layout_holds t c) (well_formed φ) g) in
      clash (and_i (good_prefix φ.prefix) (all_of (λ q. leb (var q) 1023) φ.prefix) (and_l (good_prefix φ.prefix) (all_of (tidy_clause φ.prefix) φ.clauses && distinct φ.clauses) (and_r (layout_holds t c) (well_formed φ) g)) (room_of φ k.fitting).numbers) e))

  module _ (l : layout_ok t c ≡ true) (g : good_entries (take c.variables t) ≡ true) where
    pub entries-hold : Holds (decode t c) t c
    unfolding good_entries
    entries-hold = layout-holds t c l (and_r (good_prefix (take c.variables t)) (all_of (λ q. leb (var q) 1023) (take c.variables t)) g)

    pub clauses-tell : (r : Bool) → r ≡ (all_of (tidy_clause (decode t c).prefix) (decode t c).clauses && distinct (decode t c).clauses) → r ≡ good_table t c
    unfolding good_table well_formed
    clauses-tell r e = rw (holds-true entries-hold, good-first) e
      where
        good-first : good_prefix (decode t c).prefix ≡ true
        good-first = unfold decode good_entries in and_l (good_prefix (take c.variables t)) (all_of (λ q. leb (var q) 1023) (take c.variables t)) (unfold good_entries in g)
